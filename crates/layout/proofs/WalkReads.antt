-- The walk reads at most W pages of each node, and there are as many nodes as used slots.
use Rattle.std.proofs.Common.{ℕ, zero, suc, ◌*◌, ◌≤◌, Bool, List, length, mul-le-mul_right, add-mul, arith}
use Rattle.records.specs.Kind.{Kind}
use Rattle.shape.specs.Shape.{Shape, slot_pages_of, least_children_of}
use Rattle.tree.specs.Entries.{Low, from, High, until, least, most}
use Rattle.tree.specs.Children.{Children, one, more, sum_of, EachIn}
use Rattle.tree.specs.Tree.{slot_sum}
use Rattle.tree.specs.Sound.{SoundNode}
use Rattle.tree.proofs.Levels.{nodes_used}
use Rattle.layout.specs.Holds.{ByteTree}
use Rattle.layout.specs.Laws.{Everywhere}
use Rattle.layout.specs.WalkReads.{pages_walked, WalkReadsFew}
use Rattle.layout.proofs.Fits.{Fits, fits}

module _ (kind : Kind) (shape : Shape) (lt : List ℕ → List ℕ → Bool) (fit : Fits kind shape) where
  abbrev FewAt : ℕ → Type 0
  FewAt h =
      (fewest : ℕ) (lo : Low (List ℕ)) (hi : High (List ℕ)) (t : ByteTree h)
      → SoundNode lt shape shape.capacity fewest h lo hi t
      → pages_walked shape.per_page h t ≤ slot_sum (λ x. 1) h t * slot_pages_of shape

  children_few :
      (h : ℕ) → FewAt h → (fewest : ℕ) (lo : Low (List ℕ)) (hi : High (List ℕ)) (ts : Children (List ℕ) (ByteTree h))
      → EachIn (SoundNode lt shape shape.capacity fewest h) lo hi ts
      → sum_of (pages_walked shape.per_page h) ts ≤ sum_of (slot_sum (λ x. 1) h) ts * slot_pages_of shape
  children_few h ih fewest lo hi (one t) s = ih fewest lo hi t s
  children_few h ih fewest lo hi (more t sk ts) s =
      let a = slot_sum (λ x. 1) h t in
      let b = sum_of (slot_sum (λ x. 1) h) ts in
      omega (
        arith,
        ih fewest lo (until sk) t s.0,
        children_few h ih fewest (from sk) hi ts s.1,
        add-mul a b (slot_pages_of shape),
      )

  walk_few : (h : ℕ) → FewAt h
  walk_few zero fewest lo hi t s = omega (arith, fit.slot_room (length t.entries) s.1)
  walk_few (suc h) fewest lo hi t s =
      let b = sum_of (slot_sum (λ x. 1) h) t.children in
      omega (
        arith,
        fit.slot_room (length t.entries) s.1,
        children_few h (walk_few h) (least_children_of shape) lo hi t.children s.4,
        add-mul 1 b (slot_pages_of shape),
      )

pub walk_reads_few : Everywhere WalkReadsFew
walk_reads_few kind law store whole s o =
    let i = s.index in
    let shape = s.shape in
    let h = i.height in
    let fit = fits kind shape law o.shape in
    let nodes = nodes_used i o.sound.slots in
    omega (
      arith,
      walk_few kind shape _ fit h 2 least most i.root o.sound.root,
      mul-le-mul_right {m = slot_sum (λ x. 1) h i.root} {n = i.used} (slot_pages_of shape) nodes,
    )
