-- The first n entries that pass a test, and the rest, are together the whole list: nothing is lost, added or reordered.
use Rattle.std.proofs.Common.{◌≡◌, ℕ, zero, suc, ◌+◌, ◌≤◌, Bool, true, false, cond, List, [], ◌∷◌, length, Option, refl, subst, arith}
use Rattle.std.proofs.lemmas.Bool.{cond_both}
use Rattle.tree.specs.Order.{Below, Ordered}
use Rattle.tree.specs.Entries.{Entry, Low, past, High, AboveLow, BelowHigh, Ascending, read, first_of, rest_of, tally}
use Rattle.tree.proofs.Bounds.{same_not_below, above_up}
use Rattle.tree.proofs.Merge.{ascends_lower, absent}

module _ {K V : Type 0} {lt : K → K → Bool} (o : Ordered lt) where
  -- the entries taken lie in any range that the test keeps them in
  pub first_ascends : (p : K → Bool) (n : ℕ) (lo lo' : Low K) (hi hi' : High K) (es : List (Entry K V)) →
      ((k : K) → p k ≡ true → AboveLow lt lo k → BelowHigh lt hi k → AboveLow lt lo' k × BelowHigh lt hi' k) →
      Ascending lt lo hi es → Ascending lt lo' hi' (first_of p n es)
  first_ascends p zero lo lo' hi hi' es f h = tt
  first_ascends p (suc n) lo lo' hi hi' [] f h = tt
  first_ascends p (suc n) lo lo' hi hi' (x ∷ xs) f h =
      let a = x.key in
      let up = λ (k : K) (l : Below lt a k). above_up o lo a k h.0 l in
      cond_both (p a) (x ∷ first_of p n xs) (first_of p (suc n) xs) (Ascending lt lo' hi')
      (λ e.
      let here = f a e h.0 h.1 in
      let rest = first_ascends p n (past a) (past a) hi hi' xs (λ k t l u. (l, (f k t (up k l) u).1)) h.2 in
      (here.0, here.1, rest))
      (λ e. first_ascends p (suc n) (past a) lo' hi hi' xs (λ k t l u. f k t (up k l) u) h.2)

  pub rest_ascends : (p : K → Bool) (n : ℕ) (lo : Low K) (hi : High K) (es : List (Entry K V)) →
      Ascending lt lo hi es → Ascending lt lo hi (rest_of p n es)
  rest_ascends p zero lo hi es h = h
  rest_ascends p (suc n) lo hi [] h = tt
  rest_ascends p (suc n) lo hi (x ∷ xs) h =
      elim (p x.key) as (λ b. Ascending lt lo hi (cond b (rest_of p n xs) (x ∷ rest_of p (suc n) xs))) [
        | true ↦ ascends_lower o lo hi x.key (rest_of p n xs) h.0 (rest_ascends p n (past x.key) hi xs h.2)
        | false ↦ (h.0, h.1, rest_ascends p (suc n) (past x.key) hi xs h.2)
      ]

  pub read_first_rest : (p : K → Bool) (n : ℕ) (lo : Low K) (hi : High K) (k : K) (es : List (Entry K V))
      (r : Option V) → Ascending lt lo hi es →
      read lt k (rest_of p n es) (read lt k (first_of p n es) r) ≡ read lt k es r
  read_first_rest p zero lo hi k es r h = refl
  read_first_rest p (suc n) lo hi k [] r h = refl
  read_first_rest p (suc n) lo hi k (x ∷ xs) r h =
      let ih = read_first_rest p n (past x.key) hi k xs r h.2 in
      let ih2 = read_first_rest p (suc n) (past x.key) hi k xs r h.2 in
      let rest = rest_ascends p n (past x.key) hi xs h.2 in
      let none : (v : Option V) → k ≡ x.key → read lt k (rest_of p n xs) v ≡ v =
      λ v e. absent o (past x.key) hi k (rest_of p n xs) v rest (same_not_below o k x.key e) in
      grind (arith, o.irreflexive, o.transitive, o.total)

  -- what does not pass is not among the entries taken
  pub not_first : (p : K → Bool) (n : ℕ) (k : K) (es : List (Entry K V)) (r : Option V) → p k ≡ false →
      read lt k (first_of p n es) r ≡ r
  not_first p zero k es r h = refl
  not_first p (suc n) k [] r h = refl
  not_first p (suc n) k (x ∷ xs) r h =
      let i = not_first p n k xs r h in
      let j = not_first p (suc n) k xs r h in
      let a : k ≡ x.key → p x.key ≡ false = λ e. subst (λ y. p y ≡ false) e h in
      grind arith

module _ {K V : Type 0} where
  pub first_rest_length : (p : K → Bool) (n : ℕ) (es : List (Entry K V)) →
      length (first_of p n es) + length (rest_of p n es) ≡ length es
  first_rest_length p zero es = omega arith
  first_rest_length p (suc n) [] = refl
  first_rest_length p (suc n) (x ∷ xs) =
      let i = first_rest_length p n xs in
      let j = first_rest_length p (suc n) xs in
      grind arith

  pub first_length : (p : K → Bool) (n : ℕ) (es : List (Entry K V)) → n ≤ tally p es → length (first_of p n es) ≡ n
  first_length p zero es h = refl
  first_length p (suc n) [] h = omega arith
  first_length p (suc n) (x ∷ xs) h =
      let i = first_length p n xs in
      let j = first_length p (suc n) xs in
      grind arith
