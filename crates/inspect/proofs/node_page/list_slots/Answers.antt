-- Slot by slot, and what the slots found good say of the children.
use Rattle.std.proofs.Common.{◌≡◌, ℕ, ◌+◌, false, take, ap, ◌∙◌, sym, arith}
use Rattle.std.proofs.lemmas.List.{drop_all}
use Rattle.layout.specs.Nodes.{children_from}
use Rattle.inspect.proofs.NodeTold.{good_list, pair_slots, pairs_told, pairs_more, slots_good, taken_none, taken_more, taken_unused, taken_twice, taken_below, taken_good}
use Rattle.inspect.proofs.node_page.list_slots.Goals as goal
use Rattle.inspect.proofs.node_page.list_slots.Goals.{then-slot-used-via-then-slot-used, then-slot-used-via-else-slot-used+then-not-list}

pub loop-pair-init : goal.loop-pair-init
loop-pair-init c = taken_none

pub loop-pair-preserved : goal.loop-pair-preserved
loop-pair-preserved c =
    let all = take (c.args.n + 1) c.as_chunks.result.0.now in
    let slot = c.from_be_bytes-slot in
    let more = pairs_more all c.loop-pair.pair-index slot.result c.loop-pair-test.true slot.ensures in
    taken_more c.loop-pair.invariant more c.if-slot-used.false c.if-not-list.ensures

pub returns-then-slot-used-clause-lists : goal.returns-then-slot-used-clause-lists
returns-then-slot-used-clause-lists c = λ w s_keys before h.
    let pairs = c.as_chunks.result.0.now in
    let all = take (c.args.n + 1) pairs in
    let slot = c.from_be_bytes-slot in
    let t = c.loop-pair.invariant in
    let is = pairs_told w c.args.n c.args.slots.now s_keys pairs c.requires.long c.as_chunks.ensures.front in
    let more = pairs_more all c.loop-pair.pair-index slot.result c.loop-pair-test.true slot.ensures in
    let bad : false ≡ good_list c.args.used before (pair_slots all) =
    elim c.then-slot-used.branch [
      | then-slot-used-via-then-slot-used b ↦ taken_unused t more b.if-slot-used.true h
      | then-slot-used-via-else-slot-used+then-not-list b ↦ taken_twice t more b.if-slot-used.false
          (λ seen l. sym b.if-not-list.true ∙ (b.list.ensures seen l).0) h
    ] in (
      bad ∙ ap (good_list c.args.used before) is
          ∙ slots_good c.args.used before (children_from w c.args.n c.args.slots.now s_keys),
      λ e. let z : ◌≡◌ {A = ℕ} 0 1 = cc in absurd (omega arith),
    )

pub returns-clause-below : goal.returns-clause-below
returns-clause-below c = λ e w s_keys.
    let pairs = c.as_chunks.result.0.now in
    let none = drop_all c.loop-pair.pair-index (take (c.args.n + 1) pairs) c.loop-pair-test.false in
    taken_below _ c.loop-pair.invariant (ap pair_slots none)
    (pairs_told w c.args.n c.args.slots.now s_keys pairs c.requires.long c.as_chunks.ensures.front)

pub returns-clause-lists : goal.returns-clause-lists
returns-clause-lists c = λ w s_keys before h.
    let pairs = c.as_chunks.result.0.now in
    let none = drop_all c.loop-pair.pair-index (take (c.args.n + 1) pairs) c.loop-pair-test.false in
    taken_good _ c.loop-pair.invariant (ap pair_slots none)
    (pairs_told w c.args.n c.args.slots.now s_keys pairs c.requires.long c.as_chunks.ensures.front) h
