-- Ascending entries divide at a key into two ascending lists that together say what the whole list says.
use Rattle.std.proofs.Common.{◌≡◌, ℕ, zero, suc, ◌+◌, ◌<◌, Bool, List, [], ◌∷◌, length, take, drop, Option, Less, Equal, Greater, sym, refl, subst, arith}
use Rattle.tree.specs.Order.{Below, Ordered, compare_by, pick}
use Rattle.tree.specs.Entries.{Entry, Low, from, past, High, until, AboveLow, BelowHigh, Ascending, read}
use Rattle.tree.specs.Entries.{entries_below, entries_from}
use Rattle.tree.proofs.Compare.{is_less, is_equal, is_greater, compared}
use Rattle.tree.proofs.Bounds.{strictly, not_above, same_not_below, above_up, above_strictly}
use Rattle.tree.proofs.Merge.{absent}

module _ {K V : Type 0} {lt : K → K → Bool} (o : Ordered lt) where
  pub below_ascends : (lo : Low K) (hi : High K) (sk : K) (es : List (Entry K V)) → Ascending lt lo hi es →
      Ascending lt lo (until sk) (entries_below lt sk es)
  below_ascends lo hi sk [] h = tt
  below_ascends lo hi sk (x ∷ xs) h =
      elim (compared o x.key sk) as (λ d v. Ascending lt lo (until sk) (pick d (x ∷ entries_below lt sk xs) [] []))
      [ is_less p ↦ (h.0, p, below_ascends (past x.key) hi sk xs h.2) | is_equal p ↦ tt | is_greater p ↦ tt ]

  pub from_ascends : (lo : Low K) (hi : High K) (sk : K) (es : List (Entry K V)) → Ascending lt lo hi es →
      Ascending lt (from sk) hi (entries_from lt sk es)
  from_ascends lo hi sk [] h = tt
  from_ascends lo hi sk (x ∷ xs) h =
      elim (compared o x.key sk) as
      (λ d v. Ascending lt (from sk) hi (pick d (entries_from lt sk xs) (x ∷ xs) (x ∷ xs))) [
        | is_less p ↦ from_ascends (past x.key) hi sk xs h.2
        | is_equal p ↦ (same_not_below o sk x.key (sym p), h.1, h.2)
        | is_greater p ↦ (not_above o sk x.key p, h.1, h.2)
      ]

  pub below_from : (sk : K) (es : List (Entry K V)) →
      length (entries_below lt sk es) + length (entries_from lt sk es) ≡ length es
  below_from sk [] = refl
  below_from sk (x ∷ xs) = let ih = below_from sk xs in grind arith

  pub read_divided : (lo : Low K) (hi : High K) (k sk : K) (es : List (Entry K V)) (r : Option V) →
      Ascending lt lo hi es →
      let above = read lt k (entries_from lt sk es) r in
      pick (compare_by lt k sk) (read lt k (entries_below lt sk es) r) above above ≡ read lt k es r
  read_divided lo hi k sk [] r h =
      elim (compare_by lt k sk) as (λ d. pick d r r r ≡ r) [ Less ↦ refl | Equal ↦ refl | Greater ↦ refl ]
  read_divided lo hi k sk (x ∷ xs) r h =
      let ih = read_divided (past x.key) hi k sk xs r h.2 in
      let none : Below lt k x.key → read lt k xs r ≡ r =
      λ b. absent o (past x.key) hi k xs r h.2 (not_above o k x.key b) in
      grind (arith, o.irreflexive, o.transitive, o.total)

  -- a division by place is the division at the key that stands there
  pub divided_at :
      (n : ℕ) (lo : Low K) (hi : High K) (es : List (Entry K V)) (r : Entry K V) (rs : List (Entry K V)) →
      Ascending lt lo hi es → drop n es ≡ r ∷ rs →
      (take n es ≡ entries_below lt r.key es)
      × (drop n es ≡ entries_from lt r.key es)
      × AboveLow lt lo r.key
      × BelowHigh lt hi r.key
      × (0 < n → AboveLow lt (strictly lo) r.key)
  divided_at zero lo hi [] r rs h e = let z : ◌≡◌ {A = ℕ} 0 1 = cc in absurd (omega arith)
  divided_at zero lo hi (x ∷ xs) r rs h e = let i : x ≡ r = cc in (
    grind (arith, o.irreflexive, o.transitive, o.total),
    grind (arith, o.irreflexive, o.transitive, o.total),
    subst (λ (y : Entry K V). AboveLow lt lo y.key) i h.0,
    subst (λ (y : Entry K V). BelowHigh lt hi y.key) i h.1,
    λ l. absurd (omega arith),
  )
  divided_at (suc n) lo hi [] r rs h e = let z : ◌≡◌ {A = ℕ} 0 1 = cc in absurd (omega arith)
  divided_at (suc n) lo hi (x ∷ xs) r rs h e =
      let ih = divided_at n (past x.key) hi xs r rs h.2 e in (
        grind (arith, o.irreflexive, o.transitive, o.total),
        grind (arith, o.irreflexive, o.transitive, o.total),
        above_up o lo x.key r.key h.0 ih.2,
        ih.3,
        λ l. above_strictly o lo x.key r.key h.0 ih.2,
      )
