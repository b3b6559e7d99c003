-- The walk over nodes and over children: each exit by the lemma on that step.
use Rattle.std.proofs.Common.{◌≡◌, ◌+◌, ◌-◌, ◌*◌, ◌<◌, ◌≤◌, length, take, drop, Err, sym, refl, ap, ◌∙◌, subst, arith}
use Rattle.std.proofs.lemmas.List.{length-drop, take_rest}
use Rattle.std.proofs.lemmas.Result.{err_from_is_err_and}
use Rattle.stores.specs.Store.{page_at}
use Rattle.shape.specs.Shape.{slot_pages_of}
use Rattle.shape.specs.Made.{chosen}
use Rattle.layout.specs.Nodes.{children_from, children_on, entry_count_on, listed_after}
use Rattle.inspect.specs.Bounds.{low_of, high_of}
use Rattle.inspect.specs.Listed.{Lists, SlotsBelow}
use Rattle.inspect.proofs.NodeTold.{first_slot}
use Rattle.layout.proofs.SlotPages.{page_of}
use Rattle.inspect.proofs.WalkTold.{
  page_there,
  d_tree_fits,
  slot_looked,
  slots_long,
  keys_long,
  rest_long,
  page_children,
  below_first,
  below_rest,
  rest_children,
  leaf_broken,
  leaf_ended,
  inner_broken,
  d_tree_broken,
  inner_ended,
  last_ended,
  child_broken,
  child_good,
}
use Rattle.inspect.proofs.walk.+walk_walk_children.Goals as goal

pub walk-returns-in_err-read-clause-answer : goal.walk-returns-in_err-read-clause-answer
walk-returns-in_err-read-clause-answer g t c = λ before lists.
    absurd (page_there c.args.slot c.args.range.ground.used c.slot_pages.result
    (slot_pages_of (chosen c.args.range.ground.shape)) _ c.requires.used c.requires.there c.slot_pages.ensures
    (omega arith) c.in_err-read.ensures.0.past)

pub walk-returns-in_err-entries-clause-answer : goal.walk-returns-in_err-entries-clause-answer
walk-returns-in_err-entries-clause-answer g t c = λ before lists.
    let k = g.K.RecordKind.model c.args.range.ground.kind.now in
    let shape = chosen c.args.range.ground.shape in
    let pages = page_at (g.S.PageStore.state c.args.store.now).pages in
    let p = 1 + c.args.slot * c.slot_pages.result in
    let at = page_of shape c.args.slot c.slot_pages.result c.slot_pages.ensures in
    let q = err_from_is_err_and c.from_residual-in_err-entries.result
    c.from_residual-in_err-entries.ensures.1 in
    leaf_broken k shape pages c.args.range.ground.used c.args.fewest before (low_of c.args.range.low)
    (high_of c.args.range.high) c.args.slot c.args.h p c.in_err-entries.field-0.0
    c.from_residual-in_err-entries.result _ _ _ c.if-h-eq0.true at
    (c.in_err-entries.ensures.answer k pages (sym c.in_ok-read.ensures.page))
    (q.1 ∙ ap Err q.2)

pub walk-inspect_d_tree-requires-clause-pages : goal.walk-inspect_d_tree-requires-clause-pages
walk-inspect_d_tree-requires-clause-pages g t c =
    let sh = c.args.range.ground.shape in
    d_tree_fits c.args.slot c.args.range.ground.used c.slot_pages.result sh.capacity c.in_ok-entries.entries sh.per_page
    _ _ c.requires.used c.requires.there c.slot_pages.ensures sh.some c.in_ok-entries.ensures.few
    (ap (λ x. length x.pages) c.in_ok-read.ensures.then)

pub walk-returns-then-h-eq0-clause-answer : goal.walk-returns-then-h-eq0-clause-answer
walk-returns-then-h-eq0-clause-answer g t c = λ before lists.
    let k = g.K.RecordKind.model c.args.range.ground.kind.now in
    let sh = c.args.range.ground.shape in
    let shape = chosen sh in
    let s₀ = g.S.PageStore.state c.args.store.now in
    let s₁ = g.S.PageStore.state c.read.new.self in
    let s₂ = g.S.PageStore.state c.inspect_d_tree.new.store in
    let pages = page_at s₀.pages in
    let p = 1 + c.args.slot * c.slot_pages.result in
    let at = page_of shape c.args.slot c.slot_pages.result c.slot_pages.ensures in
    let n = c.in_ok-entries.entries in
    let read = c.in_ok-read.ensures.then in
    leaf_ended k shape pages c.args.range.ground.used c.args.fewest before (low_of c.args.range.low)
    (high_of c.args.range.high) c.args.slot c.args.h p n (page_at s₁.pages) c.inspect_d_tree.result _ s₀ s₂
    c.if-h-eq0.true at (ap (λ x. page_at x.pages) read)
    (c.in_ok-entries.ensures.answer k pages (sym c.in_ok-read.ensures.page))
    c.inspect_d_tree.ensures.answer lists
    (slot_looked s₀ s₁ s₂ sh.capacity n sh.per_page read c.inspect_d_tree.ensures.looked sh.some
    c.in_ok-entries.ensures.few)

pub walk-returns-in_err-inspect_inner_node-clause-answer : goal.walk-returns-in_err-inspect_inner_node-clause-answer
walk-returns-in_err-inspect_inner_node-clause-answer g t c = λ before lists.
    let k = g.K.RecordKind.model c.args.range.ground.kind.now in
    let shape = chosen c.args.range.ground.shape in
    let pages = page_at (g.S.PageStore.state c.args.store.now).pages in
    let p = 1 + c.args.slot * c.slot_pages.result in
    let at = page_of shape c.args.slot c.slot_pages.result c.slot_pages.ensures in
    let q = err_from_is_err_and c.from_residual-in_err-inspect_inner_node.result
    c.from_residual-in_err-inspect_inner_node.ensures.1 in
    inner_broken k shape pages c.args.range.ground.used c.args.fewest before (low_of c.args.range.low)
    (high_of c.args.range.high) c.args.slot c.args.h p c.in_err-inspect_inner_node.field-0.0
    c.from_residual-in_err-inspect_inner_node.result _ _ _ (omega arith) at
    (c.in_err-inspect_inner_node.ensures.answer pages before (sym c.in_ok-read.ensures.page) lists).0
    (q.1 ∙ ap Err q.2)

pub walk-inspect_d_tree-requires-2-clause-pages : goal.walk-inspect_d_tree-requires-2-clause-pages
walk-inspect_d_tree-requires-2-clause-pages g t c =
    let sh = c.args.range.ground.shape in
    let n = c.node_parts-parts.result.entries in
    let good = c.in_ok-inspect_inner_node.ensures.good refl in
    let few : n ≤ sh.capacity = omega (arith, good.few, c.node_parts-parts.ensures.entries) in
    d_tree_fits c.args.slot c.args.range.ground.used c.slot_pages.result sh.capacity n sh.per_page
    _ _ c.requires.used c.requires.there c.slot_pages.ensures sh.some few
    (ap (λ x. length x.pages) c.in_ok-read.ensures.then)

pub walk-returns-in_err-inspect_d_tree-clause-answer : goal.walk-returns-in_err-inspect_d_tree-clause-answer
walk-returns-in_err-inspect_d_tree-clause-answer g t c = λ before lists.
    let k = g.K.RecordKind.model c.args.range.ground.kind.now in
    let shape = chosen c.args.range.ground.shape in
    let s₁ = g.S.PageStore.state c.read.new.self in
    let pages = page_at (g.S.PageStore.state c.args.store.now).pages in
    let p = 1 + c.args.slot * c.slot_pages.result in
    let at = page_of shape c.args.slot c.slot_pages.result c.slot_pages.ensures in
    let read = c.in_ok-read.ensures in
    let q = err_from_is_err_and c.from_residual-in_err-inspect_d_tree.result
    c.from_residual-in_err-inspect_d_tree.ensures.1 in
    d_tree_broken k shape pages c.args.range.ground.used c.args.fewest before (low_of c.args.range.low)
    (high_of c.args.range.high) c.args.slot c.args.h p c.node_parts-parts.result.entries (page_at s₁.pages)
    c.in_err-inspect_d_tree.field-0.0 c.from_residual-in_err-inspect_d_tree.result _ _ _ (omega arith) at
    (ap (λ x. page_at x.pages) read.then)
    (c.node_parts-parts.ensures.entries ∙ ap entry_count_on read.page)
    (c.in_ok-inspect_inner_node.ensures.answer pages before (sym read.page) lists).0
    c.in_err-inspect_d_tree.ensures.answer (q.1 ∙ ap Err q.2)

pub walk-walk_children-requires : goal.walk-walk_children-requires
walk-walk_children-requires g t c κs live =
    let w = (g.K.RecordKind.model c.args.range.ground.kind.now).key_width in
    let s₂ = g.S.PageStore.state c.inspect_d_tree-2.new.store in
    let used = c.args.range.ground.used in
    let l = g.met.K.RecordKind.lawful c.args.range.ground.kind.now in
    let sh = c.args.range.ground.shape in
    let buffer = c.read.new.buffer in
    let rest = c.node_parts-parts.result.rest.now in
    let n = c.node_parts-parts.result.children in
    let counted = c.node_parts-parts.ensures.children.0 in
    let good = c.in_ok-inspect_inner_node.ensures.good refl in
    let some : 1 ≤ n = omega (arith, good.least, counted, c.requires.some) in
    let most : n ≤ 8 = omega (arith, good.most, counted, sh.most) in
    let is = c.node_parts-parts.ensures.rest in
    let same = ap length (c.in_ok-inspect_d_tree.ensures.looked.pages
    ∙ ap (λ x. x.pages) c.in_ok-read.ensures.then) in
    let few : n - 1 < 8 = omega arith in
    let there : used * slot_pages_of (chosen sh) < length s₂.pages = omega (arith, c.requires.there, same) in
    let slots = slots_long buffer rest n is c.read.array_long some most in
    let keys = keys_long buffer rest n w is c.read.array_long some most l.key_most in
    let below = subst (SlotsBelow used) (sym (page_children w buffer rest n counted is)) good.slots in
    (omega arith, (live.0, (live.1, (few, (there, (slots, (keys, below)))))))

pub walk-returns-clause-answer : goal.walk-returns-clause-answer
walk-returns-clause-answer g t c = λ before lists.
    let k = g.K.RecordKind.model c.args.range.ground.kind.now in
    let sh = c.args.range.ground.shape in
    let shape = chosen sh in
    let s₀ = g.S.PageStore.state c.args.store.now in
    let s₁ = g.S.PageStore.state c.read.new.self in
    let s₂ = g.S.PageStore.state c.inspect_d_tree-2.new.store in
    let s₃ = g.S.PageStore.state c.walk_children.new.store in
    let pages = page_at s₀.pages in
    let w = k.key_width in
    let p = 1 + c.args.slot * c.slot_pages.result in
    let at = page_of shape c.args.slot c.slot_pages.result c.slot_pages.ensures in
    let n = c.node_parts-parts.result.children in
    let s = c.node_parts-parts.result.entries in
    let rest = c.node_parts-parts.result.rest.now in
    let read = c.in_ok-read.ensures in
    let counted = c.node_parts-parts.ensures.children.0 in
    let looked = c.in_ok-inspect_d_tree.ensures.looked in
    let good = c.in_ok-inspect_inner_node.ensures.good refl in
    let few : s ≤ sh.capacity = omega (arith, good.few, c.node_parts-parts.ensures.entries) in
    let keys = take (length rest - 2 * n) (drop (2 * n) rest) in
    let are : children_from w (n - 1) rest keys ≡ children_on w (pages p) =
    page_children w c.read.new.buffer rest n counted c.node_parts-parts.ensures.rest
    ∙ ap (children_on w) read.page in
    let same = looked.pages ∙ ap (λ x. x.pages) read.then in
    let inner = c.in_ok-inspect_inner_node.ensures.answer pages before (sym read.page) lists in
    let now-listed : Lists c.inspect_inner_node.new.listed (listed_after before (children_on w (pages p))) =
    subst (λ x. Lists c.inspect_inner_node.new.listed (listed_after before (children_on w x))) read.page
    (inner.1 refl) in
    inner_ended k shape pages c.args.range.ground.used c.args.fewest before (low_of c.args.range.low)
    (high_of c.args.range.high) c.args.slot c.args.h p s (page_at s₁.pages)
    (page_at s₂.pages) (children_from w (n - 1) rest keys) c.walk_children.result
    c.walk_children.new.listed s₀ s₂ s₃ (omega arith) at
    (ap (λ x. page_at x.pages) read.then) (ap page_at same)
    (c.node_parts-parts.ensures.entries ∙ ap entry_count_on read.page) are inner.0
    c.in_ok-inspect_d_tree.ensures.answer
    (slot_looked s₀ s₁ s₂ sh.capacity s sh.per_page read.then looked sh.some few)
    (c.walk_children.ensures.answer (listed_after before (children_on w (pages p))) now-listed)

pub walk_children-walk-requires : goal.walk_children-walk-requires
walk_children-walk-requires g t c κs live =
    let w = (g.K.RecordKind.model c.args.range.ground.kind.now).key_width in
    let slots = c.args.siblings.slots.now in
    let used = c.args.range.ground.used in
    let first = below_first used w c.args.siblings.n slots c.args.siblings.keys.now c.requires.below in
    let some : 1 ≤ c.least_children-fewest.result =
    omega (arith, c.least_children-fewest.ensures, c.args.range.ground.shape.least) in
    let small : c.from_be_bytes-slot.result < used =
    omega (arith, first, first_slot slots (omega (arith, c.requires.slots)), c.from_be_bytes-slot.ensures) in
    (omega arith, (live.0, (live.1, (some, (small, c.requires.there)))))

pub walk_children-returns-then-n-eq0-clause-answer : goal.walk_children-returns-then-n-eq0-clause-answer
walk_children-returns-then-n-eq0-clause-answer g t c = λ before lists.
    let k = g.K.RecordKind.model c.args.range.ground.kind.now in
    let slots = c.args.siblings.slots.now in
    let s₀ = g.S.PageStore.state c.args.store.now in
    let slot = c.from_be_bytes-slot.result in
    let is = first_slot slots (omega (arith, c.requires.slots)) ∙ sym c.from_be_bytes-slot.ensures in
    last_ended k (chosen c.args.range.ground.shape) (page_at s₀.pages)
    c.args.range.ground.used c.args.h before (low_of c.args.range.low) (high_of c.args.range.high)
    c.args.siblings.n slots c.args.siblings.keys.now c.least_children-fewest.result slot c.walk.result
    c.walk.new.listed s₀ _ c.if-n-eq0.true c.least_children-fewest.ensures
    is
    (c.walk.ensures.answer before lists)

pub walk_children-walk-requires-2 : goal.walk_children-walk-requires-2
walk_children-walk-requires-2 g t c κs live =
    let w = (g.K.RecordKind.model c.args.range.ground.kind.now).key_width in
    let slots = c.args.siblings.slots.now in
    let used = c.args.range.ground.used in
    let first = below_first used w c.args.siblings.n slots c.args.siblings.keys.now c.requires.below in
    let some : 1 ≤ c.least_children-fewest.result =
    omega (arith, c.least_children-fewest.ensures, c.args.range.ground.shape.least) in
    let small : c.from_be_bytes-slot.result < used =
    omega (arith, first, first_slot slots (omega (arith, c.requires.slots)), c.from_be_bytes-slot.ensures) in
    let ground = c.until.ensures.ground in
    (omega arith, (live.0, (live.1, (some, (rw ground small, rw ground c.requires.there)))))

pub walk_children-returns-in_err-walk-clause-answer : goal.walk_children-returns-in_err-walk-clause-answer
walk_children-returns-in_err-walk-clause-answer g t c = λ before lists.
    let k = g.K.RecordKind.model c.args.range.ground.kind.now in
    let slots = c.args.siblings.slots.now in
    let s₀ = g.S.PageStore.state c.args.store.now in
    let slot = c.from_be_bytes-slot.result in
    let is = first_slot slots (omega (arith, c.requires.slots)) ∙ sym c.from_be_bytes-slot.ensures in
    let q = err_from_is_err_and c.from_residual.result c.from_residual.ensures.1 in
    let until = c.until.ensures in
    let ended = rw (until.ground, until.low, until.high) at (c.in_err-walk.ensures.answer before lists) in
    child_broken k (chosen c.args.range.ground.shape) (page_at s₀.pages)
    c.args.range.ground.used c.args.h before (low_of c.args.range.low) (high_of c.args.range.high)
    c.args.siblings.n slots c.args.siblings.keys.now c.least_children-fewest.result slot c.key_width-w.result
    c.in_err-walk.field-0.0 c.from_residual.result c.walk-2.new.listed s₀ _ (omega arith)
    c.least_children-fewest.ensures is
    c.key_width-w.ensures (q.1 ∙ ap Err q.2) ended

pub walk_children-walk_children-requires : goal.walk_children-walk_children-requires
walk_children-walk_children-requires g t c κs live =
    let s₁ = g.S.PageStore.state c.walk-2.new.store in
    let w = (g.K.RecordKind.model c.args.range.ground.kind.now).key_width in
    let x = c.key_width-w.result in
    let wide = c.key_width-w.ensures in
    let n = c.args.siblings.n in
    let used = c.args.range.ground.used in
    let slots = c.args.siblings.slots.now in
    let keys = c.args.siblings.keys.now in
    let few : n - 1 < 8 = omega (arith, c.requires.few) in
    let there : used * slot_pages_of (chosen c.args.range.ground.shape) < length s₁.pages =
    omega (arith, c.requires.there, ap length c.in_ok-walk.ensures.pages) in
    let long : 2 * (n - 1) + 2 ≤ length (take (length slots - 2) (drop 2 slots)) =
    omega (arith, ap length (take_rest slots 2), length-drop 2 slots, c.requires.slots) in
    let others = rest_long n w x keys wide (omega arith) c.requires.keys in
    let below = subst (SlotsBelow used) (sym (rest_children w x (n - 1) slots keys wide))
    (below_rest used w n slots keys (omega arith) c.requires.below) in
    let ground = c.starting.ensures.ground in
    (omega arith, (live.0, (live.1, (few, (rw ground there, (long, (rw ground others, rw ground below)))))))

pub walk_children-returns-clause-answer : goal.walk_children-returns-clause-answer
walk_children-returns-clause-answer g t c = λ before lists.
    let k = g.K.RecordKind.model c.args.range.ground.kind.now in
    let slots = c.args.siblings.slots.now in
    let s₀ = g.S.PageStore.state c.args.store.now in
    let s₁ = g.S.PageStore.state c.walk-2.new.store in
    let s₂ = g.S.PageStore.state c.walk_children.new.store in
    let slot = c.from_be_bytes-slot.result in
    let is = first_slot slots (omega (arith, c.requires.slots)) ∙ sym c.from_be_bytes-slot.ensures in
    let until = c.until.ensures in
    let starting = c.starting.ensures in
    let first = rw (until.ground, until.low, until.high) at (c.in_ok-walk.ensures.answer before lists) in
    let others = rw (starting.ground, starting.low, starting.high) at c.walk_children.ensures.answer in
    child_good k (chosen c.args.range.ground.shape) (page_at s₀.pages)
    c.args.range.ground.used c.args.h before (low_of c.args.range.low) (high_of c.args.range.high)
    c.args.siblings.n slots c.args.siblings.keys.now c.least_children-fewest.result slot c.key_width-w.result
    (page_at s₁.pages) c.walk_children.result c.walk-2.new.listed c.walk_children.new.listed
    s₀ s₁ s₂ (omega arith) c.least_children-fewest.ensures
    is c.key_width-w.ensures (ap page_at c.in_ok-walk.ensures.pages) first others
