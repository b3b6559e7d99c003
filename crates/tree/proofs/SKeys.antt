-- S-keys stay strictly ascending when a child is replaced by its halves, if the key between the halves is strictly
-- above the child's low end: that end may be an s-key itself.
use Rattle.std.proofs.Common.{◌≡◌, ℕ, zero, suc, ◌<◌, Bool, refl, subst, arith}
use Rattle.tree.specs.Order.{Ordered}
use Rattle.tree.specs.Entries.{Low, from, past, High, until, AboveLow, BelowHigh}
use Rattle.tree.specs.Children.{Children, one, more, count, join, replace_at, SKeysAscend}
use Rattle.tree.proofs.Bounds.{strictly, above_up, above_strictly, above_weaker, below_down}
use Rattle.tree.proofs.Children.{low_at, high_at}

module _ {K X : Type 0} where
  strictly_at :
      (i : ℕ) (sk : K) (cs : Children K X) → strictly (low_at i (from sk) cs) ≡ strictly (low_at i (past sk) cs)
  strictly_at i sk (one x) = refl
  strictly_at zero sk (more x tk cs) = refl
  strictly_at (suc i) sk (more x tk cs) = refl

module _ {K X : Type 0} {lt : K → K → Bool} (o : Ordered lt) where
  pub skeys_weaker : (lo : Low K) (hi : High K) (cs : Children K X) →
      SKeysAscend lt (strictly lo) hi cs → SKeysAscend lt lo hi cs
  skeys_weaker lo hi (one x) h = tt
  skeys_weaker lo hi (more x sk cs) h = (above_weaker o lo sk h.0, h.1, h.2)

  pub skeys_join : (lo : Low K) (hi : High K) (new : Children K X) (sk : K) (cs : Children K X) →
      SKeysAscend lt lo (until sk) new → AboveLow lt lo sk → BelowHigh lt hi sk → SKeysAscend lt (past sk) hi cs →
      SKeysAscend lt lo hi (join new sk cs)
  skeys_join lo hi (one x) sk cs h a u g = (a, u, g)
  skeys_join lo hi (more x tk new) sk cs h a u g =
      (h.0, below_down o hi tk sk u h.1, skeys_join (past tk) hi new sk cs h.2 h.1 u g)

  -- the key between two groups is strictly above the low end if the first group has an s-key of its own
  pub skeys_unjoin : (lo : Low K) (hi : High K) (new : Children K X) (sk : K) (cs : Children K X) →
      SKeysAscend lt lo hi (join new sk cs) →
      SKeysAscend lt lo (until sk) new
      × AboveLow lt lo sk
      × BelowHigh lt hi sk
      × SKeysAscend lt (past sk) hi cs
      × (1 < count new → AboveLow lt (strictly lo) sk)
  skeys_unjoin lo hi (one x) sk cs h = (tt, h.0, h.1, h.2, λ l. absurd (omega arith))
  skeys_unjoin lo hi (more x tk new) sk cs h =
      let i = skeys_unjoin (past tk) hi new sk cs h.2 in
      let above = above_up o lo tk sk h.0 i.1 in
      ((h.0, i.1, i.0), above, i.2, i.3, λ l. above_strictly o lo tk sk h.0 i.1)

  pub skeys_replaced : (i : ℕ) (lo : Low K) (hi : High K) (new cs : Children K X) → SKeysAscend lt lo hi cs →
      SKeysAscend lt (strictly (low_at i lo cs)) (high_at i hi cs) new → SKeysAscend lt lo hi (replace_at i new cs)
  skeys_replaced i lo hi new (one x) h g = skeys_weaker lo hi new g
  skeys_replaced zero lo hi new (more x sk cs) h g =
      skeys_join lo hi new sk cs (skeys_weaker lo (until sk) new g) h.0 h.1 h.2
  skeys_replaced (suc i) lo hi new (more x sk cs) h g =
      let strict = subst (λ l. SKeysAscend lt l (high_at i hi cs) new) (strictly_at i sk cs) g in
      (h.0, h.1, skeys_replaced i (past sk) hi new cs h.2 strict)
