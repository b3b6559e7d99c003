-- One node: each exit by what the node's pages hold, if it stands on them.
use Rattle.std.proofs.Common.{ap, arith}
use Rattle.std.proofs.lemmas.Bool.{false≢true}
use Rattle.std.proofs.lemmas.Result.{IfOk-from_err}
use Rattle.search.specs.Nodes.{GoesOn}
use Rattle.stores.proofs.Looking.{looked_once, looked_then}
use Rattle.shape.specs.Made.{chosen}
use Rattle.layout.proofs.SlotPages.{page_of}
use Rattle.search.proofs.OnTree.{none_missing, none_refused, entries_found, says_found, says_removed, says_absent, says_below, goes_on}
use Rattle.search.proofs.sought.Sought.in_node.Goals as goal

pub returns-in_err-read-clause-answer : goal.returns-in_err-read-clause-answer
returns-in_err-read-clause-answer g c =
    let k = g.K.RecordKind.model c.args.self.now.kind.now in
    let law = g.met.K.RecordKind.lawful c.args.self.now.kind.now in
    let it = c.args.self.now in
    let shape = chosen it.shape in
    let s₀ = g.S.PageStore.state c.args.store.now in
    λ t good o is valid.
    absurd (none_missing k law shape s₀.pages s₀.pages it.used it.few it.key.now c.args.h c.args.slot _
    (page_of shape c.args.slot c.slot_pages.result c.slot_pages.ensures) c.in_err-read.ensures.0.past t good o is
    valid)

pub returns-in_err-node-clause-answer : goal.returns-in_err-node-clause-answer
returns-in_err-node-clause-answer g c =
    let k = g.K.RecordKind.model c.args.self.now.kind.now in
    let law = g.met.K.RecordKind.lawful c.args.self.now.kind.now in
    let it = c.args.self.now in
    let shape = chosen it.shape in
    let s₀ = g.S.PageStore.state c.args.store.now in
    λ t good o is valid.
    absurd (none_refused k law shape s₀.pages s₀.pages it.used it.few it.key.now c.args.h c.args.slot _
    (page_of shape c.args.slot c.slot_pages.result c.slot_pages.ensures) c.read.new.buffer
    c.in_ok-read.ensures.page (λ a b. false≢true (c.in_err-node.ensures.fault a b)) t good o is valid)

pub returns-in_err-place : goal.returns-in_err-place
returns-in_err-place g c =
    let k = g.K.RecordKind.model c.args.self.now.kind.now in
    let law = g.met.K.RecordKind.lawful c.args.self.now.kind.now in
    let it = c.args.self.now in
    let shape = chosen it.shape in
    let s₀ = g.S.PageStore.state c.args.store.now in
    let s₁ = g.S.PageStore.state c.read.new.self in
    let s₂ = g.S.PageStore.state c.in_d_tree.new.store in
    let read = c.in_ok-read.ensures in
    let r = c.from_residual-in_err-place in
    let place = c.in_err-place.ensures in
    record {
      looked = looked_then s₀ s₁ s₂ 1 2 3 (looked_once s₀ s₁ 1 read.then (omega arith)) place.looked (omega arith);
      child = IfOk-from_err r.result (GoesOn it.used c.args.h) r.ensures.0;
      answer = λ t good o is valid.
          absurd (entries_found k law shape s₀.pages s₁.pages it.used it.few it.key.now c.args.h c.args.slot _
          (page_of shape c.args.slot c.slot_pages.result c.slot_pages.ensures) c.read.new.buffer c.in_ok-node.node
          read.page (ap (λ x. x.pages) read.then) c.in_ok-node.ensures.parts (λ es. ⊥) place.answer t good o is valid);
    }

pub returns-in-Live : goal.returns-in-Live
returns-in-Live g c =
    let k = g.K.RecordKind.model c.args.self.now.kind.now in
    let law = g.met.K.RecordKind.lawful c.args.self.now.kind.now in
    let it = c.args.self.now in
    let shape = chosen it.shape in
    let s₀ = g.S.PageStore.state c.args.store.now in
    let s₁ = g.S.PageStore.state c.read.new.self in
    let s₂ = g.S.PageStore.state c.in_d_tree.new.store in
    let read = c.in_ok-read.ensures in
    let place = c.in_ok-place.ensures in
    record {
      looked = looked_then s₀ s₁ s₂ 1 2 3 (looked_once s₀ s₁ 1 read.then (omega arith)) place.looked (omega arith);
      child = tt;
      answer =
          says_found k law shape s₀.pages s₁.pages it.used it.few it.key.now c.args.h c.args.slot _
          (page_of shape c.args.slot c.slot_pages.result c.slot_pages.ensures) c.read.new.buffer c.in_ok-node.node
          read.page (ap (λ x. x.pages) read.then) c.in_ok-node.ensures.parts c.in_ok-place.place place.answer
          c.in-Live.value c.in-Live.is;
    }

pub returns-in-Tombstone : goal.returns-in-Tombstone
returns-in-Tombstone g c =
    let k = g.K.RecordKind.model c.args.self.now.kind.now in
    let law = g.met.K.RecordKind.lawful c.args.self.now.kind.now in
    let it = c.args.self.now in
    let shape = chosen it.shape in
    let s₀ = g.S.PageStore.state c.args.store.now in
    let s₁ = g.S.PageStore.state c.read.new.self in
    let s₂ = g.S.PageStore.state c.in_d_tree.new.store in
    let read = c.in_ok-read.ensures in
    let place = c.in_ok-place.ensures in
    record {
      looked = looked_then s₀ s₁ s₂ 1 2 3 (looked_once s₀ s₁ 1 read.then (omega arith)) place.looked (omega arith);
      child = tt;
      answer =
          says_removed k law shape s₀.pages s₁.pages it.used it.few it.key.now c.args.h c.args.slot _
          (page_of shape c.args.slot c.slot_pages.result c.slot_pages.ensures) c.read.new.buffer c.in_ok-node.node
          read.page (ap (λ x. x.pages) read.then) c.in_ok-node.ensures.parts c.in_ok-place.place place.answer
          c.in-Tombstone.is;
    }

pub returns-in-Nothing : goal.returns-in-Nothing
returns-in-Nothing g c =
    let k = g.K.RecordKind.model c.args.self.now.kind.now in
    let law = g.met.K.RecordKind.lawful c.args.self.now.kind.now in
    let it = c.args.self.now in
    let shape = chosen it.shape in
    let s₀ = g.S.PageStore.state c.args.store.now in
    let s₁ = g.S.PageStore.state c.read.new.self in
    let s₂ = g.S.PageStore.state c.in_d_tree.new.store in
    let read = c.in_ok-read.ensures in
    let place = c.in_ok-place.ensures in
    record {
      looked = looked_then s₀ s₁ s₂ 1 2 3 (looked_once s₀ s₁ 1 read.then (omega arith)) place.looked (omega arith);
      child = tt;
      answer =
          says_absent k law shape s₀.pages s₁.pages it.used it.few it.key.now c.args.h c.args.slot _
          (page_of shape c.args.slot c.slot_pages.result c.slot_pages.ensures) c.read.new.buffer c.in_ok-node.node
          read.page (ap (λ x. x.pages) read.then) c.in_ok-node.ensures.parts c.in_ok-place.place place.answer
          c.if-h-eq0.true c.in-Nothing.is;
    }

pub returns-in-Nothing-2 : goal.returns-in-Nothing-2
returns-in-Nothing-2 g c =
    let k = g.K.RecordKind.model c.args.self.now.kind.now in
    let law = g.met.K.RecordKind.lawful c.args.self.now.kind.now in
    let it = c.args.self.now in
    let shape = chosen it.shape in
    let s₀ = g.S.PageStore.state c.args.store.now in
    let s₁ = g.S.PageStore.state c.read.new.self in
    let s₂ = g.S.PageStore.state c.in_d_tree.new.store in
    let read = c.in_ok-read.ensures in
    let place = c.in_ok-place.ensures in
    record {
      looked = looked_then s₀ s₁ s₂ 1 2 3 (looked_once s₀ s₁ 1 read.then (omega arith)) place.looked (omega arith);
      child = goes_on it.used c.args.h _ c.step_down.result (omega arith) c.step_down.ensures;
      answer =
          says_below k law shape s₀.pages s₁.pages it.used it.few it.key.now c.args.h c.args.slot _
          (page_of shape c.args.slot c.slot_pages.result c.slot_pages.ensures) c.read.new.buffer c.in_ok-node.node
          read.page (ap (λ x. x.pages) read.then) c.in_ok-node.ensures.parts c.in_ok-place.place place.answer
          c.step_down.result (omega arith) c.in-Nothing-2.is c.step_down.ensures;
    }
