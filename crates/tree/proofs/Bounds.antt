-- How the ends of a range follow a key that moves up or down: by transitivity alone.
use Rattle.std.proofs.Common.{◌≡◌, Bool, sym, subst}
use Rattle.tree.specs.Order.{Below, Ordered}
use Rattle.tree.specs.Entries.{Low, least, from, past, High, most, until, AboveLow, BelowHigh}
use Rattle.tree.proofs.Compare.{is_less, is_equal, is_greater, compared}

module _ {K : Type 0} where
  -- the low end, with its own key left out
  abbrev pub strictly : Low K → Low K
  strictly least = least
  strictly (from a) = past a
  strictly (past a) = past a

module _ {K : Type 0} {lt : K → K → Bool} (o : Ordered lt) where
  pub not_above : (a b : K) → Below lt a b → Below lt b a → ⊥
  not_above a b l m = o.irreflexive a (o.transitive a b a l m)

  pub same_not_below : (a b : K) → a ≡ b → Below lt b a → ⊥
  same_not_below a b e l = o.irreflexive a (subst (λ k. Below lt k a) (sym e) l)

  pub above_up : (lo : Low K) (a b : K) → AboveLow lt lo a → Below lt a b → AboveLow lt lo b
  above_up least a b h l = tt
  above_up (from c) a b h l = λ p. h (o.transitive a b c l p)
  above_up (past c) a b h l = o.transitive c a b h l

  -- above a key of the range is strictly above the low end
  pub above_strictly : (lo : Low K) (a b : K) → AboveLow lt lo a → Below lt a b → AboveLow lt (strictly lo) b
  above_strictly least a b h l = tt
  above_strictly (from c) a b h l =
      elim (compared o a c) as (λ w v. Below lt c b) [
        | is_less p ↦ absurd (h p)
        | is_equal p ↦ subst (λ x. Below lt x b) p l
        | is_greater p ↦ o.transitive c a b p l
      ]
  above_strictly (past c) a b h l = o.transitive c a b h l

  pub above_weaker : (lo : Low K) (a : K) → AboveLow lt (strictly lo) a → AboveLow lt lo a
  above_weaker least a h = tt
  above_weaker (from c) a h = λ p. not_above a c p h
  above_weaker (past c) a h = h

  pub below_down : (hi : High K) (a b : K) → BelowHigh lt hi b → Below lt a b → BelowHigh lt hi a
  below_down most a b h l = tt
  below_down (until c) a b h l = o.transitive a b c l h
