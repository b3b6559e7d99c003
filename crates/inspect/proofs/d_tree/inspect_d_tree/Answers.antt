-- A d-tree with a good head page: what its leaf pages tell.
use Rattle.std.proofs.Common.{◌≡◌, ℕ, ◌*◌, ◌≤◌, take, drop, refl, ap, mul-le-mul, arith}
use Rattle.std.proofs.lemmas.List.{length-take, length-drop, take_rest}
use Rattle.shape.specs.Shape.{ceiling}
use Rattle.shape.proofs.Ceilings.{ceiling_below, few_leaves}
use Rattle.stores.proofs.Looking.{looked_once, looked_then}
use Rattle.layout.specs.LeafPages.{inspect_d_tree}
use Rattle.inspect.proofs.d_tree.inspect_d_tree.Goals as goal

keys_fit : (n w : ℕ) → n ≤ 16 → w ≤ 24 → n * w ≤ 384
keys_fit n w few wide = omega (arith, mul-le-mul few wide)

pub overflow_add-p : goal.overflow_add-p
overflow_add-p g c = omega (arith, c.requires.pages, (g.S.PageStore.lawful c.args.store.now).few)

pub inspect_leaf_pages-requires-clause-entries : goal.inspect_leaf_pages-requires-clause-entries
inspect_leaf_pages-requires-clause-entries g c =
    let shape = c.args.range.ground.shape in
    let per = shape.per_page in
    let filled = c.pages_of-filled.ensures in
    omega (arith, ap (λ n. n * per) filled, ceiling_below c.args.s per shape.some)

pub inspect_leaf_pages-requires-clause-keys : goal.inspect_leaf_pages-requires-clause-keys
inspect_leaf_pages-requires-clause-keys g c =
    let shape = c.args.range.ground.shape in
    let w = (g.K.RecordKind.model c.args.range.ground.kind.now).key_width in
    let few = few_leaves shape.capacity c.args.s shape.per_page shape.per_page refl shape.some c.requires.entries
    shape.pages in
    let wide = (g.met.K.RecordKind.lawful c.args.range.ground.kind.now).key_most in
    omega (
      arith,
      length-take 511 (drop 1 c.read.new.buffer),
      length-drop 1 c.read.new.buffer,
      c.read.array_long,
      c.pages_of-filled.ensures,
      ap (λ n. n * w) c.pages_of-filled.ensures,
      keys_fit (ceiling c.args.s shape.per_page) w few wide,
    )

pub returns-clause-answer : goal.returns-clause-answer
unfolding inspect_d_tree
returns-clause-answer g c =
    let page = c.in_ok-read.ensures.page in
    let kept = rw (c.is_good_head.ensures, c.pages_of-filled.ensures, page) at c.in_ok-keep.ensures in
    let head = c.read.new.buffer in
    let firsts : take 511 (drop 1 head) ≡ drop 1 head = rw c.read.array_long at (take_rest head 1) in
    let rest = rw (c.pages_of-filled.ensures, firsts, page, c.in_ok-read.ensures.then) at
    c.inspect_leaf_pages.ensures.answer in
    rw kept rest

pub returns-clause-looked : goal.returns-clause-looked
returns-clause-looked g c =
    let s₀ = g.S.PageStore.state c.args.store.now in
    let s₁ = g.S.PageStore.state c.read.new.self in
    let looked = rw c.pages_of-filled.ensures at c.inspect_leaf_pages.ensures.looked in
    looked_then s₀ s₁ _ 1 _ _ (looked_once s₀ s₁ 1 c.in_ok-read.ensures.then (omega arith)) looked (omega arith)
