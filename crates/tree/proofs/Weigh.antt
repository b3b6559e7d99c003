-- How relief changes a sum over the tree, whatever an entry counts by its height and a leaf node by its entries: a
-- batch that moves down one level lowers the sum by the difference, and what a leaf node adds is bounded by a rule.
use Rattle.std.proofs.Common.{◌≡◌, ℕ, zero, suc, ◌+◌, ◌-◌, ◌*◌, ◌<◌, ◌≤◌, Bool, List, ◌∷◌, length, refl, ap, mul-le-mul_right, mul-le-mul_left, arith}
use Rattle.std.proofs.lemmas.Bool.{cond_both, ltb-true}
use Rattle.shape.specs.Shape.{Shape, batch_of, least_children_of}
use Rattle.tree.specs.Order.{Ordered}
use Rattle.tree.specs.Entries.{Entry, Low, High, Ascending, merge, entries_below, entries_from, without_tombstones}
use Rattle.tree.specs.Children.{Children, one, more, sum_of, replace_at, heavy_place}
use Rattle.tree.specs.Tree.{ChildrenAt, Tree, weigh}
use Rattle.tree.specs.Sound.{SoundNode}
use Rattle.tree.specs.Path.{heavy_child, for_heavy, batch, staying, too_full}
use Rattle.tree.specs.Relief.{Relieved, untouched, merge_into, move_batch, receive}
use Rattle.tree.proofs.Merge.{merge_length}
use Rattle.tree.proofs.Divide.{below_from}
use Rattle.tree.proofs.Batch.{first_rest_length}
use Rattle.tree.proofs.Tombstones.{live_length}
use Rattle.tree.proofs.Children.{sum_join, sum_replaced}
use Rattle.tree.proofs.Sizes.{Sizes}
use Rattle.tree.proofs.Splits.{LeafSplit, InnerSplit, kept, split, leaf_split, inner_split}
use Rattle.tree.proofs.Sound.{SoundChild, heavy_low, heavy_high, batch_given}
use Rattle.tree.proofs.Path.{leaf_next, inner_next}

module _ {K V : Type 0} {lt : K → K → Bool} (o : Ordered lt) (s : Shape) (per_entry per_leaf : ℕ → ℕ) where
  pub inner_weigh : (h : ℕ) (movers : List ℕ) (slot next : ℕ) (es : List (Entry K V)) (cs : Children K (Tree K V h))
      {out : Relieved K V (ChildrenAt K V (suc h))} → InnerSplit lt s movers slot next es cs out →
      sum_of (weigh per_entry per_leaf (suc h)) out.parts
      ≡ per_entry (suc h) * length es + sum_of (weigh per_entry per_leaf h) cs
  inner_weigh h movers slot next es cs (kept l) = refl
  inner_weigh h movers slot next es cs (split l c e u) =
      let w : Tree K V h → ℕ = weigh per_entry per_leaf h in
      omega (
        arith,
        ap (λ n. per_entry (suc h) * n) (below_from o c.middle es),
        ap (sum_of w) e,
        sum_join w c.front c.middle c.back,
      )

  pub merged_weigh : (h : ℕ) (ms : List (Entry K V)) (cs : Children K (Tree K V (suc h))) →
      sum_of (weigh per_entry per_leaf (suc h)) (merge_into lt ms cs)
      ≤ sum_of (weigh per_entry per_leaf (suc h)) cs + per_entry (suc h) * length ms
  merged_weigh h ms (one c) = omega (arith, mul-le-mul_left (per_entry (suc h)) (merge_length o ms c.entries))
  merged_weigh h ms (more c sk cs) =
      omega (
        arith,
        mul-le-mul_left (per_entry (suc h)) (merge_length o (entries_below lt sk ms) c.entries),
        ap (λ n. per_entry (suc h) * n) (below_from o sk ms),
        merged_weigh h (entries_from lt sk ms) cs,
      )

module _ {K : Type 0} (V : Type 0) {lt : K → K → Bool} (o : Ordered lt) (s : Shape) (per_entry per_leaf : ℕ → ℕ) where
  -- a leaf node of at most σ entries that takes at most n more adds for each no more than an entry at height 0 counts
  abbrev pub LeafGrowth : ℕ → Type 0
  LeafGrowth n = (slot next : ℕ) (old es : List (Entry K V)) (out : Relieved K V Unit) →
      LeafSplit s slot next es out → length old ≤ s.capacity → length es ≤ length old + n →
      sum_of (weigh per_entry per_leaf 0) out.parts ≤ per_leaf (length old) + per_entry 0 * n

  abbrev pub TakingGrowth : (gain h : ℕ) → Type 0
  TakingGrowth gain h = (next : ℕ) (ms : List (Entry K V)) (c : Tree K V h) (lo : Low K) (hi : High K) →
      SoundChild V lt s h lo hi c → Ascending lt lo hi ms → length ms ≡ batch_of s →
      sum_of (weigh per_entry per_leaf h) (receive lt s h next ms c).parts
      + length (receive lt s h next ms c).movers * (batch_of s * gain)
      ≤ weigh per_entry per_leaf h c + per_entry h * batch_of s

-- The numbers of one move: the node keeps l of n entries and moves q, which count R each here and r each below.
move_sum : (R r gain q l n P G S O C m M : ℕ) → r + gain ≤ R → q + l ≡ n → P ≡ R * l + G → M ≡ suc m →
    G + C ≡ S + O → O + m * (q * gain) ≤ C + r * q → P + M * (q * gain) ≤ R * n + S
move_sum R r gain q l n P G S O C m M h1 h2 h3 h4 h5 h6 =
    omega (arith, mul-le-mul_right q h1, ap (λ v. R * v) h2, ap (λ v. v * (q * gain)) h4)

module _ {K V : Type 0} {lt : K → K → Bool} (o : Ordered lt) (s : Shape) (sz : Sizes s) (per_entry per_leaf : ℕ → ℕ)
    (gain : ℕ) (rises : (h : ℕ) → per_entry h + gain ≤ per_entry (suc h))
    (leaf_batch : LeafGrowth V o s per_entry per_leaf (batch_of s)) where
  pub batch_weigh : (h fewest next : ℕ) (lo : Low K) (hi : High K) (t : Tree K V (suc h)) →
      SoundNode lt s s.capacity fewest (suc h) lo hi t → s.capacity < length t.entries + batch_of s →
      TakingGrowth V o s per_entry per_leaf gain h →
      sum_of (weigh per_entry per_leaf (suc h)) (move_batch lt s (receive lt s h) next t).parts
      + length (move_batch lt s (receive lt s h) next t).movers * (batch_of s * gain)
      ≤ weigh per_entry per_leaf (suc h) t
  unfolding move_batch
  batch_weigh h fewest next lo hi t g l bounds =
      let w = weigh per_entry per_leaf h in
      let i : ℕ = heavy_place lt t.entries t.children in
      let cs = t.children in
      let ms = batch lt s t in
      let c = heavy_child lt t in
      let stay = staying lt s t in
      let b = batch_given o s sz h fewest lo hi t g l in
      let out = receive lt s h next ms c in
      let new = replace_at i out.parts cs in
      let bound = bounds next ms c (heavy_low lt lo t) (heavy_high lt hi t) b.0 b.1 b.2 in
      let view = inner_split lt s (t.slot ∷ out.movers) t.slot out.next stay new sz in
      let kept : batch_of s + length stay ≡ length t.entries =
      rw b.2 at (first_rest_length (for_heavy lt t) (batch_of s) t.entries) in
      move_sum (per_entry (suc h)) (per_entry h) gain (batch_of s) (length stay) (length t.entries) _ (sum_of w new)
      (sum_of w cs) (sum_of w out.parts) (w c) (length out.movers) _ (rises h) kept
      (inner_weigh o s per_entry per_leaf h _ _ _ _ _ view) (ap length (inner_next o s _ _ _ _ _ view).0)
      (sum_replaced w i out.parts cs) bound

  pub receive_weigh : (h : ℕ) → TakingGrowth V o s per_entry per_leaf gain h
  receive_weigh zero next ms c lo hi g a l =
      let all = merge lt ms c.entries in
      let es = without_tombstones all in
      let view = leaf_split lt s c.slot next es in
      omega (
        arith,
        leaf_batch c.slot next c.entries es _ view g.1
            (omega (arith, live_length all, merge_length o ms c.entries)),
        ap (λ (ns : List ℕ). length ns * (batch_of s * gain)) (leaf_next o s _ _ _ view).0,
      )
  receive_weigh (suc h) next ms c lo hi g a l =
      let w = weigh per_entry per_leaf (suc h) in
      let room = s.capacity - batch_of s in
      cond_both (too_full lt s c) (move_batch lt s (receive lt s h) next c) (untouched next c)
      (λ out. sum_of w (merge_into lt ms out.parts) + length out.movers * (batch_of s * gain)
      ≤ w c + per_entry (suc h) * batch_of s)
      (λ e.
      let over = ltb-true room (length c.entries) e in
      let full : s.capacity < length c.entries + batch_of s = omega arith in
      omega (
        arith,
        merged_weigh o s per_entry per_leaf h ms (move_batch lt s (receive lt s h) next c).parts,
        batch_weigh h (least_children_of s) next lo hi c g full (receive_weigh h),
        ap (λ v. per_entry (suc h) * v) l,
      ))
      (λ e. omega (arith, merged_weigh o s per_entry per_leaf h ms (one c), ap (λ v. per_entry (suc h) * v) l))
