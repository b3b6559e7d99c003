-- The merge entry by entry is the insertion of one mover after the other, since an entry below all movers comes first
-- in both; and a merged list has the keys of both lists and no others.
use Rattle.std.proofs.Common.{◌≡◌, Bool, ◌||◌, List, [], ◌∷◌, sym, refl, ap, ◌∙◌, subst, arith}
use Rattle.tree.specs.Order.{Below, Ordered, pick}
use Rattle.tree.specs.Entries.{Entry, Low, past, High, BelowHigh, Ascending, has, insert, merge, merge_next}
use Rattle.tree.specs.Entries.{merge_lists}
use Rattle.tree.proofs.Compare.{is_less, is_equal, is_greater, compared}
use Rattle.tree.proofs.Merge.{ascends_lower, merge_ascends}

module _ {K V : Type 0} {lt : K → K → Bool} (o : Ordered lt) where
  -- an entry below all others goes to the front
  insert_front : (hi : High K) (e : Entry K V) (es : List (Entry K V)) → Ascending lt (past e.key) hi es →
      insert lt e es ≡ e ∷ es
  insert_front hi e [] h = refl
  insert_front hi e (x ∷ xs) h =
      let l = h.0 in
      let irreflexive = o.irreflexive in
      let transitive = o.transitive in
      grind (arith, irreflexive, transitive)

  insert_behind : (x y : Entry K V) (es : List (Entry K V)) → Below lt y.key x.key →
      insert lt x (y ∷ es) ≡ y ∷ insert lt x es
  insert_behind x y es l = grind (arith, o.irreflexive, o.transitive, o.total)

  merge_front : (hi : High K) (y : Entry K V) (xs ys : List (Entry K V)) → Ascending lt (past y.key) hi xs →
      merge lt xs (y ∷ ys) ≡ y ∷ merge lt xs ys
  merge_front hi y [] ys h = refl
  merge_front hi y (x ∷ xs) ys h =
      ap (insert lt x) (merge_front hi y xs ys (ascends_lower o (past y.key) hi x.key xs h.0 h.2))
      ∙ insert_behind x y (merge lt xs ys) h.0

  next_is : (lo : Low K) (hi : High K) (x : Entry K V) (xs : List (Entry K V))
      (rest : List (Entry K V) → List (Entry K V)) (ys : List (Entry K V)) →
      BelowHigh lt hi x.key → Ascending lt (past x.key) hi xs → Ascending lt lo hi ys →
      ((lo : Low K) (zs : List (Entry K V)) → Ascending lt lo hi zs → rest zs ≡ merge lt xs zs) →
      merge_next lt x rest ys ≡ insert lt x (merge lt xs ys)
  next_is lo hi x xs rest [] u h g r =
      ap (λ zs. x ∷ zs) (r (past x.key) [] tt)
      ∙ sym (insert_front hi x (merge lt xs []) (merge_ascends o (past x.key) hi xs [] h tt))
  next_is lo hi x xs rest (y ∷ ys) u h g r =
      elim (compared o x.key y.key) as
      (λ d v. pick d (x ∷ rest (y ∷ ys)) (x ∷ rest ys) (y ∷ merge_next lt x rest ys)
      ≡ insert lt x (merge lt xs (y ∷ ys))) [
        | is_less p ↦
            let a = merge_ascends o (past x.key) hi xs (y ∷ ys) h (p, g.1, g.2) in
            ap (λ zs. x ∷ zs) (r (past x.key) (y ∷ ys) (p, g.1, g.2))
            ∙ sym (insert_front hi x (merge lt xs (y ∷ ys)) a)
        | is_equal p ↦
            let e = merge_front hi y xs ys (subst (λ k. Ascending lt (past k) hi xs) p h) in
            let q = r (past y.key) ys g.2 in
            let irreflexive = o.irreflexive in
            rw e (grind (arith, irreflexive))
        | is_greater p ↦
            let ih = next_is (past y.key) hi x xs rest ys u h g.2 r in
            rw (merge_front hi y xs ys (ascends_lower o (past y.key) hi x.key xs p h))
            (ap (λ zs. y ∷ zs) ih ∙ sym (insert_behind x y (merge lt xs ys) p))
      ]

  pub lists_merge : (lo lo' : Low K) (hi : High K) (xs ys : List (Entry K V)) → Ascending lt lo hi xs →
      Ascending lt lo' hi ys → merge_lists lt xs ys ≡ merge lt xs ys
  lists_merge lo lo' hi [] ys h g = refl
  lists_merge lo lo' hi (x ∷ xs) ys h g =
      next_is lo' hi x xs (merge_lists lt xs) ys h.1 h.2 g
      (λ l zs a. lists_merge (past x.key) l hi xs zs h.2 a)

  has_insert : (k : K) (e : Entry K V) (es : List (Entry K V)) →
      has lt k (insert lt e es) ≡ (has lt k (e ∷ []) || has lt k es)
  has_insert k e [] = grind arith
  has_insert k e (x ∷ xs) =
      let ih = has_insert k e xs in
      grind (arith, o.irreflexive, o.transitive, o.total)

  pub has_merge : (k : K) (xs ys : List (Entry K V)) → has lt k (merge lt xs ys) ≡ (has lt k xs || has lt k ys)
  has_merge k [] ys = refl
  has_merge k (x ∷ xs) ys =
      let ih = has_merge k xs ys in
      let i = has_insert k x (merge lt xs ys) in
      grind arith
