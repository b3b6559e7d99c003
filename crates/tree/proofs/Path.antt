-- Relief follows the path, since both choose the heavy child and ask whether it is too full; and the rule of a path
-- leaves no choice, since a node has one heavy child.
use Rattle.std.proofs.Common.{◌≡◌, ℕ, zero, suc, ◌-◌, ◌<◌, ◌≤◌, Bool, true, false, cond, List, [], ◌∷◌, map, length, sym, refl, ap, ◌∙◌, subst, arith}
use lib.ListN.{length-map}
use Rattle.std.proofs.lemmas.Bool.{cond_both, lt-ltb, le-ltb, ltb-true, ltb-false, cond-true, cond-false}
use Rattle.shape.specs.Shape.{Shape, batch_of}
use Rattle.tree.specs.Order.{Ordered}
use Rattle.tree.specs.Entries.{Entry, merge, without_tombstones}
use Rattle.tree.specs.Children.{Children}
use Rattle.tree.specs.Tree.{Node, Tree}
use Rattle.tree.specs.Path.{PathNode, heavy_child, batch, staying, too_full, path_below, path, IsPath}
use Rattle.tree.specs.Relief.{Relieved, untouched, move_batch, receive}
use Rattle.tree.proofs.Sizes.{Sizes}
use Rattle.tree.proofs.Splits.{LeafSplit, whole, halved, InnerSplit, kept, split, leaf_split, inner_split}

module _ {K V : Type 0} {lt : K → K → Bool} (o : Ordered lt) (s : Shape) where
  -- a split moves nothing, and takes at most one slot
  pub leaf_next : (slot next : ℕ) (es : List (Entry K V)) {out : Relieved K V Unit} → LeafSplit s slot next es out →
      (out.movers ≡ []) × (next ≤ out.next) × (out.next ≤ suc next)
  leaf_next slot next es (whole l) = (refl, omega arith, omega arith)
  leaf_next slot next es (halved l r rs e) = (refl, omega arith, omega arith)

  pub inner_next : {C : Type 0} (movers : List ℕ) (slot next : ℕ) (es : List (Entry K V))
      (cs : Children K (Node K V C)) {out : Relieved K V (Children K (Node K V C))} →
      InnerSplit lt s movers slot next es cs out → (out.movers ≡ movers) × (next ≤ out.next) × (out.next ≤ suc next)
  inner_next movers slot next es cs (kept l) = (refl, omega arith, omega arith)
  inner_next movers slot next es cs (split l c e u) = (refl, omega arith, omega arith)

module _ {K V : Type 0} {lt : K → K → Bool} (o : Ordered lt) (s : Shape) (sz : Sizes s) where
  -- the nodes that move a batch are those of the path
  pub movers_path : (h next : ℕ) (t : Tree K V (suc h)) →
      (move_batch lt s (receive lt s h) next t).movers ≡ map (λ n. n.node.slot) (path lt s h t)
  unfolding move_batch
  movers_path zero next t =
      let c = heavy_child lt t in
      let ms = batch lt s t in
      let out = receive lt s 0 next ms c in
      (inner_next o s (t.slot ∷ out.movers) t.slot out.next (staying lt s t) _ (inner_split lt s _ _ _ _ _ sz)).0
      ∙ ap (λ ns. t.slot ∷ ns)
      (leaf_next o s c.slot next (without_tombstones (merge lt ms c.entries)) (leaf_split lt s _ _ _)).0
  movers_path (suc h) next t =
      let c = heavy_child lt t in
      let ms = batch lt s t in
      let out = receive lt s (suc h) next ms c in
      let ih = movers_path h next c in
      (inner_next o s (t.slot ∷ out.movers) t.slot out.next (staying lt s t) _ (inner_split lt s _ _ _ _ _ sz)).0
      ∙ ap (λ ns. t.slot ∷ ns)
      (elim (too_full lt s c) as
      (λ b. (cond b (move_batch lt s (receive lt s h) next c) (untouched next c)).movers
      ≡ map (λ n. n.node.slot) (cond b (path lt s h c) []))
      [ true ↦ ih | false ↦ refl ])

  pub moves_path : (h next : ℕ) (t : Tree K V (suc h)) →
      length (move_batch lt s (receive lt s h) next t).movers ≡ length (path lt s h t)
  moves_path h next t = ap length (movers_path h next t) ∙ length-map (path lt s h t) (λ n. n.node.slot)

module _ {K V : Type 0} (lt : K → K → Bool) (s : Shape) where
  pub is_path : (h : ℕ) (t : Tree K V (suc h)) → IsPath lt s (path lt s h t)
  is_path zero t = tt
  is_path (suc h) t =
      let room = s.capacity - batch_of s in
      let c = heavy_child lt t in
      cond_both (too_full lt s c) (path lt s h c) [] (λ ns. IsPath lt s (record { below = suc h; node = t } ∷ ns))
      (λ e. (refl, ltb-true room (length c.entries) e, is_path h c))
      (λ e. ltb-false room (length c.entries) e)

  pub only_path : (h : ℕ) (t : Tree K V (suc h)) (ns : List (PathNode K V)) →
      IsPath lt s (record { below = h; node = t } ∷ ns) → ns ≡ path_below lt s h t
  only_path zero t [] p = refl
  only_path zero t (b ∷ ns) p = let z : ◌≡◌ {A = ℕ} 0 1 = cc p.0 in absurd (omega arith)
  only_path (suc h) t [] p =
      let c = heavy_child lt t in
      sym (cond-false (too_full lt s c) (path lt s h c) [] (le-ltb (s.capacity - batch_of s) (length c.entries) p))
  only_path (suc h) t (b ∷ ns) p =
      let c = heavy_child lt t in
      let here : PathNode K V = record { below = h; node = c } in
      let same : here ≡ b = cc p.0 in
      let full = subst (λ (n : PathNode K V). s.capacity - batch_of s < length n.node.entries) (sym same) p.1 in
      let rest = only_path h c ns (subst (λ (n : PathNode K V). IsPath lt s (n ∷ ns)) (sym same) p.2) in
      let yes : too_full lt s c ≡ true = lt-ltb (s.capacity - batch_of s) (length c.entries) full in
      ap (λ (n : PathNode K V). n ∷ ns) (sym same) ∙ ap (λ ms. here ∷ ms) rest
      ∙ sym (cond-true (too_full lt s c) (path lt s h c) [] yes)

  -- a path has no more nodes than there are levels above the leaf nodes
  pub path_length : (h : ℕ) (t : Tree K V (suc h)) → length (path lt s h t) ≤ suc h
  path_length zero t = omega arith
  path_length (suc h) t =
      let ih = path_length h (heavy_child lt t) in
      cond_both (too_full lt s (heavy_child lt t)) (path lt s h (heavy_child lt t)) []
      (λ ns. suc (length ns) ≤ suc (suc h)) (λ e. omega arith) (λ e. omega arith)
