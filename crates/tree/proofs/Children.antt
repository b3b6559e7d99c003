-- What holds of children one by one, or of a sum over them, holds after one of them is replaced by several: each fact
-- follows the recursion of the definition.
use Rattle.std.proofs.Common.{◌≡◌, ℕ, zero, suc, ◌+◌, ◌<◌, Some, refl, ap, arith}
use Rattle.tree.specs.Entries.{Low, from, High, until}
use Rattle.tree.specs.Children.{Children, one, more, Halves, count, sum_of, child_at, join, replace_at, behind}
use Rattle.tree.specs.Children.{divide_after, EachIn}

module _ {K X : Type 0} where
  pub count_join : (new : Children K X) (sk : K) (cs : Children K X) → count (join new sk cs) ≡ count new + count cs
  count_join (one x) sk cs = omega arith
  count_join (more x tk new) sk cs = omega (arith, count_join new sk cs)

  pub sum_join : (w : X → ℕ) (new : Children K X) (sk : K) (cs : Children K X) →
      sum_of w (join new sk cs) ≡ sum_of w new + sum_of w cs
  sum_join w (one x) sk cs = refl
  sum_join w (more x tk new) sk cs = omega (arith, sum_join w new sk cs)

  pub count_replaced : (i : ℕ) (new cs : Children K X) → suc (count (replace_at i new cs)) ≡ count cs + count new
  count_replaced i new (one x) = omega arith
  count_replaced zero new (more x sk cs) = omega (arith, count_join new sk cs)
  count_replaced (suc i) new (more x sk cs) = omega (arith, count_replaced i new cs)

  pub sum_replaced : (w : X → ℕ) (i : ℕ) (new cs : Children K X) →
      sum_of w (replace_at i new cs) + w (child_at i cs) ≡ sum_of w cs + sum_of w new
  sum_replaced w i new (one x) = omega arith
  sum_replaced w zero new (more x sk cs) = omega (arith, sum_join w new sk cs)
  sum_replaced w (suc i) new (more x sk cs) = omega (arith, sum_replaced w i new cs)

  -- the range of child i
  abbrev pub low_at : ℕ → Low K → Children K X → Low K
  low_at i lo (one x) = lo
  low_at zero lo (more x sk cs) = lo
  low_at (suc i) lo (more x sk cs) = low_at i (from sk) cs

  abbrev pub high_at : ℕ → High K → Children K X → High K
  high_at i hi (one x) = hi
  high_at zero hi (more x sk cs) = until sk
  high_at (suc i) hi (more x sk cs) = high_at i hi cs

  pub divided : (n : ℕ) (cs : Children K X) → suc n < count cs →
      (c : Halves K X)
      × (divide_after n cs ≡ Some c)
      × (cs ≡ join c.front c.middle c.back)
      × (count c.front ≡ suc n)
  divided n (one x) h = absurd (omega arith)
  divided zero (more x sk cs) h = (record { front = one x; middle = sk; back = cs }, refl, refl, refl)
  divided (suc n) (more x sk cs) h =
      let c = divided n cs (omega arith) in (
        record { front = more x sk c.0.front; middle = c.0.middle; back = c.0.back },
        ap (behind x sk) c.1,
        ap (more x sk) c.2,
        ap suc c.3,
      )

module _ {K X : Type 0} (P : Low K → High K → X → Type 0) where
  pub each_at : (i : ℕ) (lo : Low K) (hi : High K) (cs : Children K X) → EachIn P lo hi cs →
      P (low_at i lo cs) (high_at i hi cs) (child_at i cs)
  each_at i lo hi (one x) h = h
  each_at zero lo hi (more x sk cs) h = h.0
  each_at (suc i) lo hi (more x sk cs) h = each_at i (from sk) hi cs h.1

  pub each_join : (lo : Low K) (hi : High K) (new : Children K X) (sk : K) (cs : Children K X) →
      EachIn P lo (until sk) new → EachIn P (from sk) hi cs → EachIn P lo hi (join new sk cs)
  each_join lo hi (one x) sk cs h g = (h, g)
  each_join lo hi (more x tk new) sk cs h g = (h.0, each_join (from tk) hi new sk cs h.1 g)

  pub each_unjoin : (lo : Low K) (hi : High K) (new : Children K X) (sk : K) (cs : Children K X) →
      EachIn P lo hi (join new sk cs) → EachIn P lo (until sk) new × EachIn P (from sk) hi cs
  each_unjoin lo hi (one x) sk cs h = h
  each_unjoin lo hi (more x tk new) sk cs h =
      let i = each_unjoin (from tk) hi new sk cs h.1 in
      ((h.0, i.0), i.1)

  pub each_replaced : (i : ℕ) (lo : Low K) (hi : High K) (new cs : Children K X) → EachIn P lo hi cs →
      EachIn P (low_at i lo cs) (high_at i hi cs) new → EachIn P lo hi (replace_at i new cs)
  each_replaced i lo hi new (one x) h g = g
  each_replaced zero lo hi new (more x sk cs) h g = each_join lo hi new sk cs g h.1
  each_replaced (suc i) lo hi new (more x sk cs) h g = (h.0, each_replaced i (from sk) hi new cs h.1 g)

  pub each_weaker : (Q : Low K → High K → X → Type 0) (lo : Low K) (hi : High K) (cs : Children K X) →
      ((lo : Low K) (hi : High K) (x : X) → P lo hi x → Q lo hi x) → EachIn P lo hi cs → EachIn Q lo hi cs
  each_weaker Q lo hi (one x) f h = f lo hi x h
  each_weaker Q lo hi (more x sk cs) f h = (f lo (until sk) x h.0, each_weaker Q (from sk) hi cs f h.1)
