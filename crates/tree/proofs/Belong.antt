-- A key belongs to one child: it lies in that child's range, and the children say of it what that child says.
use Rattle.std.proofs.Common.{◌≡◌, ℕ, zero, suc, ◌<◌, Bool, true, cond, sym, refl, arith}
use Rattle.std.proofs.lemmas.Bool.{eqb-true, eq-eqb}
use Rattle.tree.specs.Order.{Below, Ordered, compare_by, pick}
use Rattle.tree.specs.Entries.{Low, from, past, High, until, AboveLow, BelowHigh}
use Rattle.tree.specs.Children.{Children, one, more, count, child_at, join, replace_at, place_of, ask_child, belongs}
use Rattle.tree.specs.Children.{SKeysAscend}
use Rattle.tree.proofs.Compare.{is_less, is_equal, is_greater, compared}
use Rattle.tree.proofs.Bounds.{not_above, same_not_below}
use Rattle.tree.proofs.Children.{low_at, high_at}

module _ {K X : Type 0} {lt : K → K → Bool} (o : Ordered lt) where
  place_first : (k sk : K) (x : X) (cs : Children K X) → place_of lt k (more x sk cs) ≡ 0 → Below lt k sk
  place_first k sk x cs =
      let n = suc (place_of lt k cs) in
      elim (compared o k sk) as (λ d v. pick d 0 n n ≡ 0 → Below lt k sk) [
        | is_less p ↦ λ e. p
        | is_equal p ↦ λ e. absurd (omega arith)
        | is_greater p ↦ λ e. absurd (omega arith)
      ]

  place_later : (k sk : K) (x : X) (cs : Children K X) (i : ℕ) → place_of lt k (more x sk cs) ≡ suc i →
      (Below lt k sk → ⊥) × (place_of lt k cs ≡ i)
  place_later k sk x cs i =
      let n = suc (place_of lt k cs) in
      elim (compared o k sk) as (λ d v. pick d 0 n n ≡ suc i → (Below lt k sk → ⊥) × (place_of lt k cs ≡ i)) [
        | is_less p ↦ λ e. absurd (omega arith)
        | is_equal p ↦ λ e. (same_not_below o sk k (sym p), omega arith)
        | is_greater p ↦ λ e. (not_above o sk k p, omega arith)
      ]

  -- what belongs to a child lies in its range
  pub belongs_in : (i : ℕ) (lo : Low K) (hi : High K) (cs : Children K X) (k : K) →
      belongs lt cs i k ≡ true → AboveLow lt lo k → BelowHigh lt hi k →
      AboveLow lt (low_at i lo cs) k × BelowHigh lt (high_at i hi cs) k
  belongs_in i lo hi (one x) k e l u = (l, u)
  belongs_in zero lo hi (more x sk cs) k e l u =
      (l, place_first k sk x cs (eqb-true (place_of lt k (more x sk cs)) 0 e))
  belongs_in (suc i) lo hi (more x sk cs) k e l u =
      let p = place_later k sk x cs i (eqb-true (place_of lt k (more x sk cs)) (suc i) e) in
      belongs_in i (from sk) hi cs k (eq-eqb (place_of lt k cs) i p.1) p.0 u

module _ {K X B : Type 0} {lt : K → K → Bool} (o : Ordered lt) (ask : K → X → B) where
  pub ask_join : (lo : Low K) (k : K) (new : Children K X) (sk : K) (cs : Children K X) →
      SKeysAscend lt lo (until sk) new →
      let right = ask_child lt ask k cs in
      ask_child lt ask k (join new sk cs) ≡ pick (compare_by lt k sk) (ask_child lt ask k new) right right
  ask_join lo k (one x) sk cs h = refl
  ask_join lo k (more x tk new) sk cs h =
      let ih = ask_join (past tk) k new sk cs h.2 in
      let l = h.1 in
      grind (arith, o.irreflexive, o.transitive, o.total)

  pub ask_replaced : (i : ℕ) (lo : Low K) (hi : High K) (k : K) (new cs : Children K X) → i < count cs →
      SKeysAscend lt lo (high_at i hi cs) new →
      ask_child lt ask k (replace_at i new cs)
      ≡ cond (belongs lt cs i k) (ask_child lt ask k new) (ask_child lt ask k cs)
  ask_replaced zero lo hi k new (one x) l n = refl
  ask_replaced (suc i) lo hi k new (one x) l n = absurd (omega arith)
  ask_replaced zero lo hi k new (more x sk cs) l n =
      let joined = ask_join lo k new sk cs n in
      grind arith
  ask_replaced (suc i) lo hi k new (more x sk cs) l n =
      let ih = ask_replaced i lo hi k new cs (omega arith) n in
      grind arith

  pub ask_at : (i : ℕ) (k : K) (cs : Children K X) → belongs lt cs i k ≡ true →
      ask_child lt ask k cs ≡ ask k (child_at i cs)
  ask_at i k (one x) e = refl
  ask_at zero k (more x sk cs) e = grind arith
  ask_at (suc i) k (more x sk cs) e =
      let ih : belongs lt cs i k ≡ true → ask_child lt ask k cs ≡ ask k (child_at i cs) = ask_at i k cs in
      grind arith
