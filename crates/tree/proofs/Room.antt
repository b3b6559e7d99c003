-- Each path node is sound and has more than σ − q entries, so it has a batch, and what takes the batch has room: a leaf
-- node over σ by at most q, and a part of an inner node after it was relieved of as many.
use Rattle.std.proofs.Common.{ℕ, zero, suc, ◌+◌, ◌-◌, ◌<◌, ◌≤◌, Bool, [], length, arith}
use Rattle.std.specs.List.{AllByRecursion}
use Rattle.std.proofs.lemmas.Bool.{cond_both, ltb-true}
use Rattle.shape.specs.Shape.{Shape, batch_of, least_children_of}
use Rattle.tree.specs.Order.{Ordered}
use Rattle.tree.specs.Entries.{Low, from, High, until}
use Rattle.tree.specs.Children.{Children, one, more, heavy_place, EachIn}
use Rattle.tree.specs.Tree.{Tree}
use Rattle.tree.specs.Sound.{SoundNode}
use Rattle.tree.specs.Path.{heavy_child, for_heavy, batch, too_full, path}
use Rattle.tree.specs.Relief.{receive}
use Rattle.tree.specs.Room.{EachPart, ChildHolds, HasRoom}
use Rattle.tree.proofs.Merge.{merge_length}
use Rattle.tree.proofs.Batch.{first_rest_length}
use Rattle.tree.proofs.Children.{count_replaced}
use Rattle.tree.proofs.Sizes.{Sizes}
use Rattle.tree.proofs.Sound.{SoundChild, Taken, heavy_low, heavy_high, batch_given, receive_sound}

module _ {K X : Type 0} where
  each_of : (P : Low K → High K → X → Type 0) (Q : X → Type 0) (lo : Low K) (hi : High K) (cs : Children K X) →
      ((lo : Low K) (hi : High K) (x : X) → P lo hi x → Q x) → EachIn P lo hi cs → EachPart Q cs
  each_of P Q lo hi (one x) f g = f lo hi x g
  each_of P Q lo hi (more x sk cs) f g = (f lo (until sk) x g.0, each_of P Q (from sk) hi cs f g.1)

module _ {K V : Type 0} {lt : K → K → Bool} (o : Ordered lt) (s : Shape) (sz : Sizes s) where
  heavy_taken : (h fewest : ℕ) (lo : Low K) (hi : High K) (t : Tree K V (suc h)) (next : ℕ) →
      SoundNode lt s s.capacity fewest (suc h) lo hi t → s.capacity < length t.entries + batch_of s →
      Taken V lt s h (heavy_low lt lo t) (heavy_high lt hi t)
      (receive lt s h next (batch lt s t) (heavy_child lt t)).parts
  heavy_taken h fewest lo hi t next g l =
      let b = batch_given o s sz h fewest lo hi t g l in
      receive_sound o s sz h next (batch lt s t) (heavy_child lt t) (heavy_low lt lo t) (heavy_high lt hi t)
      b.0 b.1 b.2

  child_holds : (h fewest : ℕ) (lo : Low K) (hi : High K) (t : Tree K V (suc h)) (next : ℕ) →
      SoundNode lt s s.capacity fewest (suc h) lo hi t → s.capacity < length t.entries + batch_of s →
      ChildHolds lt s h next t
  child_holds zero fewest lo hi t next g l =
      let b = batch_given o s sz 0 fewest lo hi t g l in
      omega (arith, b.0.1, b.2, merge_length o (batch lt s t) (heavy_child lt t).entries)
  child_holds (suc h) fewest lo hi t next g l =
      each_of (SoundChild V lt s (suc h)) (λ c. length c.entries ≤ s.capacity) _ _ _ (λ lo hi x p. p.1)
      (heavy_taken (suc h) fewest lo hi t next g l).each

  node_holds : (h fewest : ℕ) (lo : Low K) (hi : High K) (t : Tree K V (suc h)) →
      SoundNode lt s s.capacity fewest (suc h) lo hi t → s.capacity < length t.entries + batch_of s →
      HasRoom lt s (record { below = h; node = t })
  node_holds h fewest lo hi t g l =
      let b = batch_given o s sz h fewest lo hi t g l in
      let all = first_rest_length (for_heavy lt t) (batch_of s) t.entries in
      let i : ℕ = heavy_place lt t.entries t.children in
      record {
        moves = b.2;
        keeps = omega (arith, g.1, b.2, all);
        child = λ next. child_holds h fewest lo hi t next g l;
        fanout = λ next.
            let parts = (receive lt s h next (batch lt s t) (heavy_child lt t)).parts in
            omega (arith, g.2, (heavy_taken h fewest lo hi t next g l).few, count_replaced i parts t.children);
      }

  pub path_holds : (h fewest : ℕ) (lo : Low K) (hi : High K) (t : Tree K V (suc h)) →
      SoundNode lt s s.capacity fewest (suc h) lo hi t → s.capacity < length t.entries + batch_of s →
      AllByRecursion (HasRoom lt s) (path lt s h t)
  path_holds zero fewest lo hi t g l = (node_holds 0 fewest lo hi t g l, tt)
  path_holds (suc h) fewest lo hi t g l =
      let c = heavy_child lt t in
      let room = s.capacity - batch_of s in
      let b = batch_given o s sz (suc h) fewest lo hi t g l in (
        node_holds (suc h) fewest lo hi t g l,
        cond_both (too_full lt s c) (path lt s h c) [] (AllByRecursion (HasRoom lt s))
            (λ e. path_holds h (least_children_of s) _ _ c b.0 (omega (arith, ltb-true room (length c.entries) e)))
            (λ e. tt),
      )
