-- One leaf page decides a search: entries ascend, so those on the pages before it are below the key, and those on the
-- pages after it above.
use Rattle.std.proofs.Common.{◌≡◌, ℕ, zero, suc, ◌+◌, ◌*◌, ◌<◌, Bool, true, false, List, [], ◌∷◌, ◌++◌, length, take, drop, Option, Ordering, Less, Equal, Greater, sym, refl, ap, ◌∙◌, subst, suc-mul, arith}
use Rattle.std.specs.Ordering.{is_lt, ordering_reverse}
use Rattle.std.proofs.lemmas.List.{take-append-drop, length-take-le, length-drop, drop-drop}
use Rattle.tree.specs.Order.{Ordered, Below, ordering_of}
use Rattle.tree.specs.Entries.{Low, past, High, Ascending, read}
use Rattle.tree.specs.Keys.{key_below}
use Rattle.tree.proofs.Keys.{kinds_order_keys}
use Rattle.layout.specs.Pages.{ByteEntry}
use Rattle.layout.specs.Slots.{first_key}
use Rattle.layout.specs.Search.{rank, PageFor, SearchByFirstKeys, ComparesAsTheTree}

module _ {lt : List ℕ → List ℕ → Bool} (o : Ordered lt) (hi : High (List ℕ)) (key : List ℕ) where
  -- entries in two groups

  ascending_front : (lo : Low (List ℕ)) (xs ys : List ByteEntry) → Ascending lt lo hi (xs ++ ys) → Ascending lt lo hi xs
  ascending_front lo [] ys a = tt
  ascending_front lo (x ∷ xs) ys a = (a.0, a.1, ascending_front (past x.key) xs ys a.2)

  ascending_back :
      (lo : Low (List ℕ)) (xs ys : List ByteEntry) → Ascending lt lo hi (xs ++ ys)
      → (lo' : Low (List ℕ)) × Ascending lt lo' hi ys
  ascending_back lo [] ys a = (lo, a)
  ascending_back lo (x ∷ xs) ys a = ascending_back (past x.key) xs ys a.2

  above_past :
      (k : List ℕ) (xs : List ByteEntry) (e : ByteEntry) (ys : List ByteEntry)
      → Ascending lt (past k) hi (xs ++ e ∷ ys) → Below lt k e.key
  above_past k [] e ys a = a.0
  above_past k (x ∷ xs) e ys a =
      o.transitive k x.key e.key a.0 (above_past x.key xs e ys a.2)

  -- a key that is not below e is above all entries before e
  from_entry :
      (lo : Low (List ℕ)) (xs : List ByteEntry) (e : ByteEntry) (ys : List ByteEntry) (older : Option (List ℕ))
      → Ascending lt lo hi (xs ++ e ∷ ys) → lt key e.key ≡ false
      → (read lt key (xs ++ e ∷ ys) older ≡ read lt key (e ∷ ys) older)
      × (rank lt key (xs ++ e ∷ ys) ≡ length xs + rank lt key (e ∷ ys))
  from_entry lo [] e ys older a n = (refl, omega arith)
  from_entry lo (x ∷ xs) e ys older a n =
      let b = above_past x.key xs e ys a.2 in
      let ih = from_entry (past x.key) xs e ys older a.2 n in
      let i0 = ih.0 in
      let i1 = ih.1 in
      let below : lt x.key key ≡ true = grind (arith, o.irreflexive, o.transitive, o.total) in
      let not_above : lt key x.key ≡ false = grind (arith, o.irreflexive, o.transitive) in
      (rw (not_above, below) i0, rw below (omega (arith, i1)))

  -- a key below the first entry is in none of them
  abbrev BelowFirst : List ByteEntry → Type 0
  BelowFirst es = 0 < length es → lt key (first_key es) ≡ true

  below_first :
      (lo : Low (List ℕ)) (es : List ByteEntry) (older : Option (List ℕ)) → Ascending lt lo hi es → BelowFirst es
      → (read lt key es older ≡ older) × (rank lt key es ≡ 0)
  below_first lo [] older a h = (refl, refl)
  below_first lo (x ∷ xs) older a h =
      let b = h (omega arith) in
      let not_below : lt x.key key ≡ false = grind (arith, o.irreflexive, o.transitive) in
      let ih = below_first (past x.key) xs older a.2 (next xs a.2 b) in
      (rw b ih.0, rw not_below ih.1)
    where
      next : (es : List ByteEntry) → Ascending lt (past x.key) hi es → lt key x.key ≡ true → BelowFirst es
      next [] a b l = absurd (omega arith)
      next (e ∷ es) a b l = o.transitive key x.key e.key b a.0

  -- entries whose first is above the key add nothing to those before them
  before_group :
      (lo lo' : Low (List ℕ)) (xs ys : List ByteEntry) (older : Option (List ℕ)) → Ascending lt lo hi xs
      → Ascending lt lo' hi ys → BelowFirst ys
      → (read lt key (xs ++ ys) older ≡ read lt key xs older) × (rank lt key (xs ++ ys) ≡ rank lt key xs)
  before_group lo lo' [] ys older a b h = below_first lo' ys older b h
  before_group lo lo' (x ∷ xs) ys older a b h =
      let ih = before_group (past x.key) lo' xs ys older a.2 b h in
      let i0 = ih.0 in
      let i1 = ih.1 in
      (rw i0, rw i1)

  first_from :
      (n : ℕ) (es : List ByteEntry) → n < length es → (e : ByteEntry) × (ys : List ByteEntry) × (drop n es ≡ e ∷ ys)
  first_from n [] l = absurd (omega arith)
  first_from zero (e ∷ es) l = (e, es, refl)
  first_from (suc n) (e ∷ es) l = first_from n es (omega arith)

  page_decides :
      (lo : Low (List ℕ)) (E j : ℕ) (es : List ByteEntry) (older : Option (List ℕ)) → Ascending lt lo hi es
      → PageFor lt E j key es
      → (read lt key es older ≡ read lt key (take E (drop (j * E) es)) older)
      × (rank lt key es ≡ j * E + rank lt key (take E (drop (j * E) es)))
  page_decides lo E j es older a h =
      let n = j * E in
      let here = drop n es in
      let page = take E here in
      let rest = drop E here in
      let f = first_from n es h.filled in
      let e = f.0 in
      let ys = f.1 in
      let d : here ≡ e ∷ ys = f.2 in
      let cut : es ≡ take n es ++ e ∷ ys =
      sym (take-append-drop n es) ∙ ap (λ x. take n es ++ x) d in
      let all : Ascending lt lo hi (take n es ++ e ∷ ys) = subst (λ x. Ascending lt lo hi x) cut a in
      let not_below : lt key e.key ≡ false = rw d at h.from_here in
      let front = from_entry lo (take n es) e ys older all not_below in
      let back = ascending_back lo (take n es) (e ∷ ys) all in
      let both : Ascending lt back.0 hi (page ++ rest) =
      subst (λ x. Ascending lt back.0 hi x) (sym d ∙ sym (take-append-drop E here)) back.1 in
      let after = ascending_back back.0 page rest both in
      let m = suc-mul j E in
      let place : drop (suc j * E) es ≡ rest =
      ap (λ i. drop i es) (omega arith) ∙ sym (drop-drop E n es) in
      let next : BelowFirst rest =
      λ l. let g = h.before_next (omega (arith, length-drop E here, length-drop n es)) in
      ap (λ x. lt key (first_key x)) (sym place) ∙ g in
      let group =
      before_group back.0 after.0 page rest older (ascending_front back.0 page rest both) after.1 next in
      let whole : e ∷ ys ≡ page ++ rest = sym d ∙ sym (take-append-drop E here) in
      let size : length (take n es) ≡ n = length-take-le n es (omega (arith, h.filled)) in (
        ap (λ x. read lt key x older) cut ∙ front.0 ∙ ap (λ x. read lt key x older) whole ∙ group.0,
        ap (rank lt key) cut ∙ front.1 ∙ omega (arith, size, ap (rank lt key) whole, group.1),
      )

pub search_by_first_keys : SearchByFirstKeys
search_by_first_keys lt o = (
  λ lo hi per_page j key es older a h. page_decides o hi key lo per_page j es older a h,
  λ lo hi key es older a h. below_first o hi key lo es older a h,
)

-- the three answers of a comparison, by the two tests
by_tests : (d : Ordering) → ordering_of (is_lt d) (is_lt (ordering_reverse d)) ≡ d
by_tests Less = refl
by_tests Equal = refl
by_tests Greater = refl

pub compares_as_the_tree : ComparesAsTheTree
compares_as_the_tree kind law a b v w =
    let e : key_below kind a b ≡ is_lt (kind.order a b) = (kinds_order_keys kind law).1 a b v w in
    let f : key_below kind b a ≡ is_lt (kind.order b a) = (kinds_order_keys kind law).1 b a w v in
    ap (λ x. ordering_of x (key_below kind b a)) e ∙ ap (ordering_of (is_lt (kind.order a b))) f
    ∙ ap (λ d. ordering_of (is_lt (kind.order a b)) (is_lt d)) (law.mirrored a b) ∙ by_tests (kind.order a b)
