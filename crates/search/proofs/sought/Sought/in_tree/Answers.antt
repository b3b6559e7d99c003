use Rattle.std.proofs.Common.{◌-◌, ◌*◌, Ok, ap, arith}
use Rattle.stores.proofs.Looking.{looked_none, looked_then}
use Rattle.shape.specs.Made.{chosen}
use Rattle.search.proofs.OnPath.{at_root, way_broken, way_found, way_absent, way_down, goes_below}
use Rattle.search.proofs.sought.Sought.in_tree.Goals as goal

pub loop-h-init : goal.loop-h-init
loop-h-init g c =
    let k = g.K.RecordKind.model c.args.self.now.kind.now in
    let it = c.args.self.now in
    let s₀ = g.S.PageStore.state c.args.store.now in
    record {
      some = c.requires.some;
      inside = c.requires.used;
      looked = looked_none s₀ _ (g.S.PageStore.lawful c.args.store.now).counted;
      says = at_root k (chosen it.shape) s₀.pages it.used it.key.now c.args.levels c.args.root c.requires.some;
    }

pub returns-in_err-value : goal.returns-in_err-value
returns-in_err-value g c =
    let k = g.K.RecordKind.model c.args.self.now.kind.now in
    let it = c.args.self.now in
    let s₀ = g.S.PageStore.state c.args.store.now in
    let s₁ = g.S.PageStore.state c.loop-h.store in
    let s₂ = g.S.PageStore.state c.in_node.new.store in
    let way = c.loop-h.invariant in
    let step = c.in_err-value.ensures in
    record {
      looked = looked_then s₀ s₁ s₂ (3 * (c.args.levels - c.loop-h.h)) 3 _ way.looked step.looked
          (omega (arith, way.some, c.loop-h.auto.h));
      answer = λ t good o is valid.
          absurd (way_broken k (chosen it.shape) s₀.pages it.used it.key.now s₁.pages c.args.levels c.args.root
          c.loop-h.h c.loop-h.slot way.some way.looked.pages way.says step.answer t good o is valid);
    }

pub returns-in-Found : goal.returns-in-Found
returns-in-Found g c =
    let k = g.K.RecordKind.model c.args.self.now.kind.now in
    let it = c.args.self.now in
    let s₀ = g.S.PageStore.state c.args.store.now in
    let s₁ = g.S.PageStore.state c.loop-h.store in
    let s₂ = g.S.PageStore.state c.in_node.new.store in
    let way = c.loop-h.invariant in
    let step = c.in_ok-value.ensures in
    record {
      looked = looked_then s₀ s₁ s₂ (3 * (c.args.levels - c.loop-h.h)) 3 _ way.looked step.looked
          (omega (arith, way.some, c.loop-h.auto.h));
      answer = λ t good o is valid.
          ap Ok (way_found k (chosen it.shape) s₀.pages it.used it.key.now s₁.pages c.args.levels c.args.root
          c.loop-h.h c.loop-h.slot way.some way.looked.pages way.says c.in_ok-value.field-0 c.in-Found.value
          c.in-Found.is step.answer t good o is valid);
    }

pub returns-in-Absent : goal.returns-in-Absent
returns-in-Absent g c =
    let k = g.K.RecordKind.model c.args.self.now.kind.now in
    let it = c.args.self.now in
    let s₀ = g.S.PageStore.state c.args.store.now in
    let s₁ = g.S.PageStore.state c.loop-h.store in
    let s₂ = g.S.PageStore.state c.in_node.new.store in
    let way = c.loop-h.invariant in
    let step = c.in_ok-value.ensures in
    record {
      looked = looked_then s₀ s₁ s₂ (3 * (c.args.levels - c.loop-h.h)) 3 _ way.looked step.looked
          (omega (arith, way.some, c.loop-h.auto.h));
      answer = λ t good o is valid.
          ap Ok (way_absent k (chosen it.shape) s₀.pages it.used it.key.now s₁.pages c.args.levels c.args.root
          c.loop-h.h c.loop-h.slot way.some way.looked.pages way.says c.in_ok-value.field-0 c.in-Absent.is
          step.answer t good o is valid);
    }

pub loop-h-preserved : goal.loop-h-preserved
loop-h-preserved g c =
    let k = g.K.RecordKind.model c.args.self.now.kind.now in
    let it = c.args.self.now in
    let s₀ = g.S.PageStore.state c.args.store.now in
    let s₁ = g.S.PageStore.state c.loop-h.store in
    let s₂ = g.S.PageStore.state c.in_node.new.store in
    let way = c.loop-h.invariant in
    let step = c.in_ok-value.ensures in
    let below = goes_below it.used (c.loop-h.h - 1) c.in_ok-value.field-0 c.in-Child.child c.in-Child.is step.child in
    record {
      some = below.0;
      inside = below.1;
      looked = looked_then s₀ s₁ s₂ (3 * (c.args.levels - c.loop-h.h)) 3 _ way.looked step.looked
          (omega (arith, way.some, c.loop-h.auto.h));
      says = way_down k (chosen it.shape) s₀.pages it.used it.key.now s₁.pages c.args.levels c.args.root
          c.loop-h.h c.loop-h.slot way.some way.looked.pages way.says c.in_ok-value.field-0 c.in-Child.child
          c.in-Child.is step.answer;
    }
