-- Insertion and merging keep entries in order, and what they say of a key is what the newer entries say, else the older
-- ones: by induction on the list, with a comparison of two keys at each step.
use Rattle.std.proofs.Common.{◌≡◌, suc, ◌+◌, ◌≤◌, Bool, List, [], ◌∷◌, length, Option, sym, refl, ap, ◌∙◌, subst, arith}
use Rattle.tree.specs.Order.{Ordered, pick}
use Rattle.tree.specs.Entries.{Entry, Low, past, High, AboveLow, BelowHigh, Ascending, read, insert, merge}
use Rattle.tree.proofs.Compare.{is_less, is_equal, is_greater, compared}
use Rattle.tree.proofs.Bounds.{not_above, above_up}

module _ {K V : Type 0} {lt : K → K → Bool} (o : Ordered lt) where
  pub insert_length : (e : Entry K V) (es : List (Entry K V)) → length (insert lt e es) ≤ suc (length es)
  insert_length e [] = omega arith
  insert_length e (x ∷ xs) = let ih = insert_length e xs in grind arith

  pub insert_ascends : (lo : Low K) (hi : High K) (e : Entry K V) (es : List (Entry K V)) →
      AboveLow lt lo e.key → BelowHigh lt hi e.key → Ascending lt lo hi es → Ascending lt lo hi (insert lt e es)
  insert_ascends lo hi e [] l u h = (l, u, tt)
  insert_ascends lo hi e (x ∷ xs) l u h =
      elim (compared o e.key x.key) as
      (λ d v. Ascending lt lo hi (pick d (e ∷ x ∷ xs) (e ∷ xs) (x ∷ insert lt e xs))) [
        | is_less p ↦ (l, u, (p, h.1, h.2))
        | is_equal p ↦ (l, u, subst (λ a. Ascending lt (past a) hi xs) (sym p) h.2)
        | is_greater p ↦ (h.0, h.1, insert_ascends (past x.key) hi e xs p u h.2)
      ]

  pub read_insert : (lo : Low K) (hi : High K) (k : K) (e : Entry K V) (es : List (Entry K V)) (r : Option V) →
      Ascending lt lo hi es → read lt k (insert lt e es) r ≡ read lt k (e ∷ []) (read lt k es r)
  read_insert lo hi k e [] r h = refl
  read_insert lo hi k e (x ∷ xs) r h =
      let ih = read_insert (past x.key) hi k e xs r h.2 in
      grind (arith, o.irreflexive, o.transitive, o.total)

  -- the low end of a range can fall
  pub ascends_lower : (lo : Low K) (hi : High K) (a : K) (es : List (Entry K V)) → AboveLow lt lo a →
      Ascending lt (past a) hi es → Ascending lt lo hi es
  ascends_lower lo hi a [] l h = tt
  ascends_lower lo hi a (x ∷ xs) l h = (above_up o lo a x.key l h.0, h.1, h.2)

  pub merge_length : (xs ys : List (Entry K V)) → length (merge lt xs ys) ≤ length xs + length ys
  merge_length [] ys = omega arith
  merge_length (x ∷ xs) ys = omega (arith, merge_length xs ys, insert_length x (merge lt xs ys))

  pub merge_ascends : (lo : Low K) (hi : High K) (xs ys : List (Entry K V)) → Ascending lt lo hi xs →
      Ascending lt lo hi ys → Ascending lt lo hi (merge lt xs ys)
  merge_ascends lo hi [] ys h g = g
  merge_ascends lo hi (x ∷ xs) ys h g =
      let rest = ascends_lower lo hi x.key xs h.0 h.2 in
      insert_ascends lo hi x (merge lt xs ys) h.0 h.1 (merge_ascends lo hi xs ys rest g)

  pub read_merge : (lo : Low K) (hi : High K) (k : K) (xs ys : List (Entry K V)) (r : Option V) →
      Ascending lt lo hi xs → Ascending lt lo hi ys →
      read lt k (merge lt xs ys) r ≡ read lt k xs (read lt k ys r)
  read_merge lo hi k [] ys r h g = refl
  read_merge lo hi k (x ∷ xs) ys r h g =
      let rest = ascends_lower lo hi x.key xs h.0 h.2 in
      read_insert lo hi k x (merge lt xs ys) r (merge_ascends lo hi xs ys rest g)
      ∙ ap (read lt k (x ∷ [])) (read_merge lo hi k xs ys r rest g)

  -- a key below the range has no entry
  pub absent : (lo : Low K) (hi : High K) (k : K) (es : List (Entry K V)) (r : Option V) → Ascending lt lo hi es →
      (AboveLow lt lo k → ⊥) → read lt k es r ≡ r
  absent lo hi k [] r h n = refl
  absent lo hi k (x ∷ xs) r h n =
      elim (compared o k x.key) as (λ d v. pick d (read lt k xs r) x.value (read lt k xs r) ≡ r) [
        | is_less p ↦ absent (past x.key) hi k xs r h.2 (not_above o k x.key p)
        | is_equal p ↦ absurd (n (subst (AboveLow lt lo) (sym p) h.0))
        | is_greater p ↦ absurd (n (above_up o lo x.key k h.0 p))
      ]
