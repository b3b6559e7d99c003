-- Over a list of changes each law adds up what it says of one change, starting from the empty index.
use Rattle.std.proofs.Common.{◌≡◌, ℕ, zero, suc, ◌+◌, ◌-◌, ◌*◌, ◌≤◌, Bool, List, [], ◌∷◌, length, sym, refl, ap, ◌∙◌, mul-le-mul_left, arith}
use Rattle.shape.specs.Shape.{Shape, batch_of, changes_per_leaf_of}
use Rattle.tree.specs.Order.{Ordered}
use Rattle.tree.specs.Entries.{Entry, least, read}
use Rattle.tree.specs.Map.{KeysAscend, look_up, map_after}
use Rattle.tree.specs.Children.{Children, one, more, sum_of}
use Rattle.tree.specs.Tree.{Tree, levels, find_in, leaves, weigh}
use Rattle.tree.specs.Sound.{Sound}
use Rattle.tree.specs.Change.{change}
use Rattle.tree.specs.History.{weight, leaves_in, potential_of_leaf, leaf_potential, after}
use Rattle.tree.proofs.Sizes.{Sizes}
use Rattle.tree.proofs.Change.{change_follows, after_sound}
use Rattle.tree.proofs.Slots.{after_once, change_grows}
use Rattle.tree.proofs.Levels.{ten_levels}
use Rattle.tree.proofs.Limits.{change_weight, change_potential}
use Rattle.tree.proofs.Map.{look_changed, changed_ascends}

module _ {K V : Type 0} {lt : K → K → Bool} (o : Ordered lt) (s : Shape) (sz : Sizes s) where
  pub after_count : (es : List (Entry K V)) → (after lt s es).index.changes ≡ length es
  after_count [] = refl
  after_count (e ∷ es) = (change_grows o s sz e (after lt s es).index).3 ∙ ap suc (after_count es)

  pub after_map : (es : List (Entry K V)) →
      KeysAscend lt least (map_after lt es)
      × ((k : K) → find_in lt (after lt s es).index k ≡ look_up lt k (map_after lt es))
  after_map [] = (tt, λ k. refl)
  after_map (e ∷ es) =
      let ih = after_map es in
      let i = (after lt s es).index in (
        changed_ascends o e.key e.value (map_after lt es) ih.0,
        λ k. (change_follows o s sz e i k (after_sound o s sz es)).1 ∙ ap (read lt k (e ∷ [])) (ih.1 k)
            ∙ sym (look_changed o k e.key e.value (map_after lt es) ih.0),
      )

  -- n·(levels − 1) bounds what was moved with what is still to move
  after_weight : (es : List (Entry K V)) →
      (after lt s es).moved * batch_of s + weight (after lt s es).index
      ≤ (after lt s es).index.changes * (after lt s es).index.height
  after_weight [] = omega arith
  after_weight (e ∷ es) =
      let i = (after lt s es).index in
      let g = change_grows o s sz e i in
      let higher : i.height ≤ (change lt s e i).index.height = omega (arith, g.2) in
      omega (
        arith,
        after_weight es,
        change_weight o s sz e i (after_sound o s sz es),
        mul-le-mul_left i.changes higher,
        ap (λ n. n * (change lt s e i).index.height) g.3,
      )

  pub after_batches : (es : List (Entry K V)) →
      (after lt s es).moved * batch_of s ≤ (after lt s es).index.changes * (levels (after lt s es).index - 1)
  after_batches es =
      let i = (after lt s es).index in
      let below : levels i - 1 ≡ i.height = omega arith in
      omega (arith, after_weight es, ap (λ n. i.changes * n) below)

  after_potential : (es : List (Entry K V)) →
      leaf_potential s (after lt s es).index ≤ (after lt s es).index.changes + changes_per_leaf_of s
  after_potential [] = omega arith
  after_potential (e ∷ es) =
      let i = (after lt s es).index in
      omega (
        arith,
        after_potential es,
        change_potential o s sz e i (after_sound o s sz es),
        (change_grows o s sz e i).3,
      )

  potential_leaves :
      (h : ℕ) (t : Tree K V h) → leaves h t * changes_per_leaf_of s ≤ weigh (λ h. 1) (potential_of_leaf s) h t
  potential_leaves zero t = omega arith
  potential_leaves (suc h) t =
      omega (arith, sums (leaves h) (weigh (λ h. 1) (potential_of_leaf s) h) t.children (potential_leaves h))
    where
      sums : {X : Type 0} (v w : X → ℕ) (cs : Children K X) → ((x : X) → v x * changes_per_leaf_of s ≤ w x) →
          sum_of v cs * changes_per_leaf_of s ≤ sum_of w cs
      sums v w (one x) f = f x
      sums v w (more x sk cs) f = omega (arith, f x, sums v w cs f)

  pub after_leaves : (es : List (Entry K V)) →
      (leaves_in (after lt s es).index - 1) * changes_per_leaf_of s ≤ (after lt s es).index.changes
  after_leaves es =
      let i = (after lt s es).index in
      let l = leaves_in i in
      let pos : 1 ≤ l = leaf_some i.height i.root in
      let one_less : suc (l - 1) ≡ l = omega arith in
      omega (
        arith,
        after_potential es,
        potential_leaves i.height i.root,
        ap (λ n. n * changes_per_leaf_of s) one_less,
      )
    where
      leaf_some : (h : ℕ) (t : Tree K V h) → 1 ≤ leaves h t
      leaf_some zero t = omega arith
      leaf_some (suc h) t = some (leaves h) t.children (leaf_some h)
        where
          some : {X : Type 0} (w : X → ℕ) (cs : Children K X) → ((x : X) → 1 ≤ w x) → 1 ≤ sum_of w cs
          some w (one x) f = f x
          some w (more x sk cs) f = omega (arith, f x)

  pub within_slots : (es : List (Entry K V)) → (after lt s es).index.used ≤ 1024 → Sound lt s (after lt s es).index
  within_slots es l =
      let g = after_sound o s sz es in
      let once = after_once o s sz es in
      record { root = g; slots = once; depth = ten_levels lt s sz (after lt s es).index g once l }
