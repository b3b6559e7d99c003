-- A d-tree over its head page and leaf pages: the entries of the pages, one page after the other, are the list cut into
-- groups of E, so the inspection accepts exactly the encoded pages.
use Rattle.std.proofs.Common.{◌≡◌, ℕ, zero, suc, ◌+◌, ◌-◌, ◌*◌, ◌%◌, ◌<◌, ◌≤◌, min, Bool, true, ◌&&◌, eqb, List, [], ◌∷◌, ◌++◌, length, get_or, take, drop, Ok, sym, refl, ap, ◌∙◌, subst, inl, inr, mul-le-mul_right, mod-lt, suc-mul, div-add-mod', zero-mul, arith, take-add}
use Rattle.std.specs.List.{flat_map, AllByRecursion}
use Rattle.std.proofs.ByRecursion.{All-take, All-drop, All-append, All-weaker, All-get_or}
use Rattle.std.proofs.lemmas.Bool.{and_parts, eqb-true, eq-eqb, cases_lt}
use Rattle.std.proofs.lemmas.List.{take-append-drop, length-take-le, length-take, length-drop, length-append, take_at, drop_at, take_all, drop_all, drop-drop, nil_from_length, append-nil, append_assoc}
use Rattle.layout.specs.Holds.{ValidEntry}
use Rattle.records.specs.Kind.{Kind, Lawful, record_width}
use Rattle.shape.specs.Shape.{ceiling}
use Rattle.tree.specs.Entries.{Low, past, High, Ascending}
use Rattle.layout.specs.Pages.{padded, head_page, leaf_page, ByteEntry}
use Rattle.layout.specs.Checked.{zeros}
use Rattle.layout.specs.Slots.{first_key, first_keys}
use Rattle.layout.specs.LeafPages.{ordered_below, low_after, inspect_leaf_pages, inspect_d_tree}
use Rattle.layout.specs.declared.faults.Rule.TheVariants.{HeadPage}
use Rattle.layout.proofs.Checked.{test_ok, then_ok, page_is, padded_rest}
use Rattle.layout.proofs.LeafPage.{GoodEntry, FirstIs, leaf_page_holds, leaf_page_accepted}

-- page p is a whole page of bytes
pub record WholePage (page : ℕ → List ℕ) (p : ℕ) : Type 0 where
  pub long : length (page p) ≡ 512
  pub bytes : AllByRecursion (λ b. b < 256) (page p)

-- n pages of E entries are just enough for s
record JustEnough (n E s : ℕ) : Type 0 where
  pub some : 1 ≤ E
  pub enough : s ≤ n * E
  pub tight : n * E < s + E

one_less : (n E s : ℕ) → JustEnough (suc n) E s → JustEnough n E (s - E)
one_less n E s f =
    let m = suc-mul n E in
    record { some = f.some; enough = omega (arith, f.enough); tight = omega (arith, f.tight, f.some) }

just_enough : (E s : ℕ) → 1 ≤ E → JustEnough (ceiling s E) E s
just_enough E s h =
    let d = div-add-mod' (s + (E - 1)) E in
    let m : (s + (E - 1)) % E < E = mod-lt (s + (E - 1)) h in
    record { some = h; enough = omega arith; tight = omega arith }

-- ascending entries in two groups

module _ (lt : List ℕ → List ℕ → Bool) (hi : High (List ℕ)) where
  ascending_append :
      (lo : Low (List ℕ)) (xs ys : List ByteEntry) → Ascending lt lo hi xs
      → Ascending lt (low_after lo xs) hi ys → Ascending lt lo hi (xs ++ ys)
  ascending_append lo [] ys a b = b
  ascending_append lo (x ∷ xs) ys a b = (a.0, a.1, ascending_append (past x.key) xs ys a.2 b)

  pub ascending_take :
      (lo : Low (List ℕ)) (n : ℕ) (xs : List ByteEntry) → Ascending lt lo hi xs
      → Ascending lt lo hi (take n xs)
  ascending_take lo zero xs a = tt
  ascending_take lo (suc n) [] a = tt
  ascending_take lo (suc n) (x ∷ xs) a = (a.0, a.1, ascending_take (past x.key) n xs a.2)

  pub ascending_drop :
      (lo : Low (List ℕ)) (n : ℕ) (xs : List ByteEntry) → Ascending lt lo hi xs
      → Ascending lt (low_after lo (take n xs)) hi (drop n xs)
  ascending_drop lo zero xs a = a
  ascending_drop lo (suc n) [] a = tt
  ascending_drop lo (suc n) (x ∷ xs) a = ascending_drop (past x.key) n xs a.2

-- a group of entries that fills a page, or is the last

take-group :
    (E s : ℕ) (xs ys : List ByteEntry) → length xs ≡ min E s → length ys ≡ s - E → take E (xs ++ ys) ≡ xs
take-group E s xs ys a b =
    elim (cases_lt s E) [
      | inl h ↦
          let e : ys ≡ [] = nil_from_length ys (omega arith) in
          rw (e, append-nil) (take_all E xs (omega arith))
      | inr h ↦ take_at xs ys E (omega arith)
    ]

drop-group :
    (E s : ℕ) (xs ys : List ByteEntry) → length xs ≡ min E s → length ys ≡ s - E → drop E (xs ++ ys) ≡ ys
drop-group E s xs ys a b =
    elim (cases_lt s E) [
      | inl h ↦
          let e : ys ≡ [] = nil_from_length ys (omega arith) in
          rw (e, append-nil) (drop_all E xs (omega arith))
      | inr h ↦ drop_at xs ys E (omega arith)
    ]

-- the first keys of pages

first_key_lem :
    (first : List ℕ) (xs ys : List ByteEntry) → FirstIs first xs → 1 ≤ length xs → first_key (xs ++ ys) ≡ first
first_key_lem first [] ys f h = absurd (omega arith)
first_key_lem first (x ∷ xs) ys f h = f

first_long :
    {kind : Kind} → Lawful kind → (leaf : Bool) (es : List ByteEntry) → 1 ≤ length es
    → AllByRecursion (GoodEntry kind leaf) es
    → length (first_key es) ≡ kind.key_width
first_long law leaf [] h o = absurd (omega arith)
first_long law leaf (e ∷ es) h o = law.key_long e.key o.0.0.0

first_of_group : (n : ℕ) (es : List ByteEntry) (first : List ℕ) → first_key es ≡ first → FirstIs first (take n es)
first_of_group zero es first h = tt
first_of_group (suc n) [] first h = tt
first_of_group (suc n) (e ∷ es) first h = h

-- the bytes of the first keys, one after the other
abbrev first_bytes : ℕ → ℕ → List ByteEntry → List ℕ
first_bytes n E es = flat_map (λ key. key) (first_keys n E es)

length-first_keys : (n E : ℕ) (es : List ByteEntry) → length (first_keys n E es) ≡ n
unfolding first_keys
length-first_keys zero E es = refl
length-first_keys (suc n) E es = ap suc (length-first_keys n E (drop E es))

split_firsts :
    (w : ℕ) (a b bytes : List ℕ) (n : ℕ) → length a ≡ w → a ++ b ≡ take w bytes ++ take n (drop w bytes)
    → (a ≡ take w bytes) × (b ≡ take n (drop w bytes))
split_firsts w a b bytes n l h =
    let rest = take n (drop w bytes) in
    let room : w ≤ length bytes =
    omega (
      arith,
      ap length h,
      length-append a b,
      length-append (take w bytes) rest,
      length-take w bytes,
      length-take n (drop w bytes),
      length-drop w bytes,
    ) in
    let t : length (take w bytes) ≡ w = length-take-le w bytes room in (
      sym (take_at a b w l) ∙ ap (take w) h ∙ take_at (take w bytes) rest w t,
      sym (drop_at a b w l) ∙ ap (drop w) h ∙ drop_at (take w bytes) rest w t,
    )

module _ (kind : Kind) (E : ℕ) (page : ℕ → List ℕ) where
  -- n leaf pages from page p on hold the entries, E to a page
  abbrev pub LeavesHold : ℕ → ℕ → List ByteEntry → Type 0
  LeavesHold zero p es = Unit {0}
  LeavesHold (suc n) p es = (page p ≡ leaf_page kind (take E es)) × LeavesHold n (p + 1) (drop E es)

  pub leaves_each :
      (n p : ℕ) (es : List ByteEntry) → LeavesHold n p es → (j : ℕ) → j < n
      → page (p + j) ≡ leaf_page kind (take E (drop (j * E) es))
  leaves_each zero p es h j l = absurd (omega arith)
  leaves_each (suc n) p es h zero l =
      let a : p + 0 ≡ p = omega arith in rw (a, zero-mul E) h.0
  leaves_each (suc n) p es h (suc j) l =
      let a : p + suc j ≡ p + 1 + j = omega arith in
      let b : suc j * E ≡ E + j * E = omega (arith, suc-mul j E) in
      rw (a, b, ← drop-drop (j * E) E es) (leaves_each n (p + 1) (drop E es) h.1 j (omega arith))

  pub leaves_all :
      (n p : ℕ) (es : List ByteEntry)
      → ((j : ℕ) → j < n → page (p + j) ≡ leaf_page kind (take E (drop (j * E) es))) → LeavesHold n p es
  leaves_all zero p es h = tt
  leaves_all (suc n) p es h = (
    let a : p + 0 ≡ p = omega arith in
        let e : page (p + 0) ≡ leaf_page kind (take E (drop (0 * E) es)) = h 0 (omega arith) in
        rw (a, zero-mul E) at e,
    leaves_all n (p + 1) (drop E es) (λ j l.
        let a : p + suc j ≡ p + 1 + j = omega arith in
        let b : suc j * E ≡ E + j * E = omega (arith, suc-mul j E) in
        let e : page (p + suc j) ≡ leaf_page kind (take E (drop (suc j * E) es)) = h (suc j) (omega arith) in
        sym (ap page a) ∙ e ∙ ap (λ i. leaf_page kind (take E (drop i es))) b
        ∙ ap (λ xs. leaf_page kind (take E xs)) (sym (drop-drop (j * E) E es))),
  )

module _ (kind : Kind) (E : ℕ) (page : ℕ → List ℕ) (leaf : Bool) (hi : High (List ℕ)) where
  -- s entries on n leaf pages from page p on, whose first keys have the bytes `firsts`
  record LeavesHeld (n s : ℕ) (lo : Low (List ℕ)) (firsts : List ℕ) (p : ℕ) (es : List ByteEntry) : Type 0 where
    pub count : length es ≡ s
    pub ascending : Ascending (ordered_below kind) lo hi es
    pub good : AllByRecursion (GoodEntry kind leaf) es
    pub starts : first_bytes n E es ≡ take (n * kind.key_width) firsts
    pub leaves : LeavesHold kind E page n p es

  -- s entries of a node whose head page is p
  pub record DTreeHeld (s : ℕ) (lo : Low (List ℕ)) (p : ℕ) (es : List ByteEntry) : Type 0 where
    pub count : length es ≡ s
    pub ascending : Ascending (ordered_below kind) lo hi es
    pub good : AllByRecursion (GoodEntry kind leaf) es
    pub head : page p ≡ head_page (first_keys (ceiling s E) E es)
    pub leaves : LeavesHold kind E page (ceiling s E) (p + 1) es

  module _ (fits : 9 + E * record_width kind ≤ 512) where
    leaves_hold :
        (n s : ℕ) (lo : Low (List ℕ)) (firsts : List ℕ) (p : ℕ) (es : List ByteEntry) → JustEnough n E s
        → ((q : ℕ) → p ≤ q → q < p + n → WholePage page q)
        → inspect_leaf_pages kind E page leaf hi n s lo firsts p ≡ Ok es → LeavesHeld n s lo firsts p es
    unfolding inspect_leaf_pages first_keys
    leaves_hold zero s lo firsts p es f pages h =
        let e : es ≡ [] = cc in
        let z : s ≡ 0 = omega (arith, f.enough, zero-mul E) in
        rw (e, z) (record { count = refl; ascending = tt; good = tt; starts = rw zero-mul; leaves = tt })
    leaves_hold (suc n) s lo firsts p es f pages h =
        let w = kind.key_width in
        let a = then_ok _ _ es h in
        let xs = a.0 in
        let b = then_ok _ _ es a.2 in
        let ys = b.0 in
        let e : xs ++ ys ≡ es = cc b.2 in
        let here = pages p (omega arith) (omega arith) in
        let le = mul-le-mul_right {m = min E s} {n = E} (record_width kind) (omega arith) in
        let x =
        leaf_page_holds kind leaf (min E s) lo hi (take w firsts) p (page p) xs here.long here.bytes (omega arith)
        a.1 in
        let y =
        leaves_hold n (s - E) (low_after lo xs) (drop w firsts) (p + 1) ys (one_less n E s f)
        (λ q l u. pages q (omega arith) (omega arith)) b.1 in
        let t = take-group E s xs ys x.count y.count in
        let d = drop-group E s xs ys x.count y.count in
        let m = suc-mul n E in
        let some : 1 ≤ length xs = omega (arith, x.count, f.some, f.tight) in
        let q : suc n * w ≡ w + n * w = omega (arith, suc-mul n w) in
        subst (λ z. LeavesHeld (suc n) s lo firsts p z) e (record {
          count = omega (arith, length-append xs ys, x.count, y.count);
          ascending = ascending_append (ordered_below kind) hi lo xs ys x.ascending y.ascending;
          good = All-append (GoodEntry kind leaf) xs ys x.good y.good;
          starts =
              rw (q, d, take-add w (n * w) firsts)
              (let u = first_key_lem (take w firsts) xs ys x.starts some in let v = y.starts in cc);
          leaves = (x.bytes ∙ ap (leaf_page kind) (sym t), rw d y.leaves);
        })

  module _ (law : Lawful kind) where
    leaves_accepted :
        E ≤ 64 → (n s : ℕ) (lo : Low (List ℕ)) (firsts : List ℕ) (p : ℕ) (es : List ByteEntry) → JustEnough n E s
        → LeavesHeld n s lo firsts p es → inspect_leaf_pages kind E page leaf hi n s lo firsts p ≡ Ok es
    unfolding inspect_leaf_pages first_keys
    leaves_accepted few zero s lo firsts p es f h =
        let e : es ≡ [] = nil_from_length es (omega (arith, h.count, f.enough, zero-mul E)) in
        ap Ok (sym e)
    leaves_accepted few (suc n) s lo firsts p es f h =
        let w = kind.key_width in
        let m = suc-mul n E in
        let xs = take E es in
        let ys = drop E es in
        let cx : length xs ≡ min E s = length-take E es ∙ ap (min E) h.count in
        let cy : length ys ≡ s - E = length-drop E es ∙ ap (λ x. x - E) h.count in
        let q : suc n * w ≡ w + n * w = omega (arith, suc-mul n w) in
        let some : 1 ≤ length es = omega (arith, h.count, f.some, f.tight) in
        let wide : length (first_key es) ≡ w = first_long law leaf es some h.good in
        let hd : first_key es ++ first_bytes n E ys ≡ take w firsts ++ take (n * w) (drop w firsts) =
        rw (q, take-add w (n * w) firsts) at h.starts in
        let parts = split_firsts w (first_key es) (first_bytes n E ys) firsts (n * w) wide hd in
        let x =
        leaf_page_accepted kind law leaf (min E s) lo hi (take w firsts) p (page p) xs (omega (arith, few)) (record {
          bytes = h.leaves.0;
          count = cx;
          ascending = ascending_take (ordered_below kind) hi lo E es h.ascending;
          good = All-take (GoodEntry kind leaf) E es h.good;
          starts = first_of_group E es (take w firsts) parts.0;
        }) in
        let y =
        leaves_accepted few n (s - E) (low_after lo xs) (drop w firsts) (p + 1) ys (one_less n E s f) (record {
          count = cy;
          ascending = ascending_drop (ordered_below kind) hi lo E es h.ascending;
          good = All-drop (GoodEntry kind leaf) E es h.good;
          starts = parts.1;
          leaves = h.leaves.1;
        }) in
        rw (x, y) (ap Ok (take-append-drop E es))

    length-firsts :
        (n s : ℕ) (es : List ByteEntry) → JustEnough n E s → length es ≡ s → AllByRecursion (GoodEntry kind leaf) es
        → length (first_bytes n E es) ≡ n * kind.key_width
    unfolding first_keys
    length-firsts zero s es f c o = sym (zero-mul kind.key_width)
    length-firsts (suc n) s es f c o =
        let m = suc-mul n E in
        let rest = drop E es in
        omega (
          arith,
          length-append (first_key es) (first_bytes n E rest),
          first_long law leaf es (omega (arith, f.some, f.tight)) o,
          length-firsts n (s - E) rest (one_less n E s f) (length-drop E es ∙ ap (λ x. x - E) c)
              (All-drop (GoodEntry kind leaf) E es o),
          suc-mul n kind.key_width,
        )

  front_head :
      (bytes : List ℕ) (n t : ℕ) (xs : List ℕ) → 1 ≤ length bytes → get_or bytes 0 0 ≡ t → xs ≡ take n (drop 1 bytes)
      → take (1 + n) bytes ≡ t ∷ xs
  front_head [] n t xs l a b = absurd (omega arith)
  front_head (x ∷ bytes) n t xs l a b = let e : 1 + n ≡ suc n = omega arith in rw (e, a, b)

  pub dtree_holds :
      9 + E * record_width kind ≤ 512 → 1 ≤ E → (s : ℕ) (lo : Low (List ℕ)) (p : ℕ) (es : List ByteEntry)
      → 1 + ceiling s E * kind.key_width ≤ 512 → ((q : ℕ) → p ≤ q → q < p + 1 + ceiling s E → WholePage page q)
      → inspect_d_tree kind E page leaf hi s lo p ≡ Ok es → DTreeHeld s lo p es
  unfolding inspect_d_tree head_page
  dtree_holds fits some s lo p es room pages h =
      let n = ceiling s E in
      let w = kind.key_width in
      let count = get_or (page p) 0 0 in
      let rest = drop (1 + n * w) (page p) in
      let after = inspect_leaf_pages kind E page leaf hi n s lo (drop 1 (page p)) (p + 1) in
      let a = test_ok (eqb count n && zeros rest) p HeadPage after es h in
      let b = and_parts (eqb count n) (zeros rest) a.0 in
      let x =
      leaves_hold fits n s lo (drop 1 (page p)) (p + 1) es (just_enough E s some)
      (λ q l u. pages q (omega arith) (omega arith)) a.1 in
      let here = pages p (omega arith) (omega arith) in
      let long : length (page p) ≡ 512 = here.long in
      let front : take (1 + n * w) (page p) ≡ n ∷ first_bytes n E es =
      front_head (page p) (n * w) n (first_bytes n E es) (omega arith) (eqb-true count n b.0) x.starts in
      record {
        count = x.count;
        ascending = x.ascending;
        good = x.good;
        head =
            page_is (1 + n * w) (page p) long room b.1
            ∙ ap padded (front ∙ ap (λ c. c ∷ first_bytes n E es) (sym (length-first_keys n E es)));
        leaves = x.leaves;
      }

  pub dtree_accepted :
      Lawful kind → 1 ≤ E → E ≤ 64 → (s : ℕ) (lo : Low (List ℕ)) (p : ℕ) (es : List ByteEntry)
      → DTreeHeld s lo p es → inspect_d_tree kind E page leaf hi s lo p ≡ Ok es
  unfolding inspect_d_tree head_page
  dtree_accepted law some few s lo p es h =
      let n = ceiling s E in
      let w = kind.key_width in
      let f = just_enough E s some in
      let firsts = first_bytes n E es in
      let lh = length-firsts law n s es f h.count h.good in
      let shape : page p ≡ padded (n ∷ firsts) =
      h.head ∙ ap (λ c. padded (c ∷ firsts)) (length-first_keys n E es) in
      let t1 : eqb (get_or (page p) 0 0) n ≡ true = eq-eqb (get_or (page p) 0 0) n (ap (λ x. get_or x 0 0) shape) in
      let t2 : zeros (drop (1 + n * w) (page p)) ≡ true =
      rw shape (padded_rest (1 + n * w) (n ∷ firsts) (omega (arith, lh))) in
      let hd : firsts ≡ take (n * w) (drop 1 (page p)) =
      sym (ap (λ x. take (n * w) (drop 1 x)) shape ∙ take_at firsts _ (n * w) lh) in
      let x =
      leaves_accepted law few n s lo (drop 1 (page p)) (p + 1) es f (record {
        count = h.count;
        ascending = h.ascending;
        good = h.good;
        starts = hd;
        leaves = h.leaves;
      }) in
      rw (t1, t2) x

-- what is read from the head page of a node with entries

first_valid :
    {kind : Kind} → Lawful kind → (es : List ByteEntry) → 1 ≤ length es → AllByRecursion (ValidEntry kind) es
    → kind.valid_key (first_key es) ≡ true
first_valid law [] h o = absurd (omega arith)
first_valid law (e ∷ es) h o = o.0.0

-- the keys of pages that are all filled
firsts_valid :
    {kind : Kind} → Lawful kind → (n E s : ℕ) (es : List ByteEntry) → JustEnough n E s → length es ≡ s
    → AllByRecursion (ValidEntry kind) es → AllByRecursion (λ key. kind.valid_key key ≡ true) (first_keys n E es)
unfolding first_keys
firsts_valid law zero E s es f c o = tt
firsts_valid {kind = kind} law (suc n) E s es f c o =
    let m = suc-mul n E in (
      first_valid law es (omega (arith, f.some, f.tight)) o,
      firsts_valid law n E (s - E) (drop E es) (one_less n E s f) (length-drop E es ∙ ap (λ x. x - E) c)
          (All-drop (ValidEntry kind) E es o),
    )

first_at :
    (n E : ℕ) (es : List ByteEntry) (j : ℕ) → j < n → get_or (first_keys n E es) j [] ≡ first_key (drop (j * E) es)
unfolding first_keys
first_at zero E es j l = absurd (omega arith)
first_at (suc n) E es zero l = rw (zero-mul E)
first_at (suc n) E es (suc j) l =
    let b : suc j * E ≡ E + j * E = omega (arith, suc-mul j E) in
    rw (b, ← drop-drop (j * E) E es) (first_at n E (drop E es) j (omega arith))

-- keys of one width, one after the other
key_at :
    (w : ℕ) (keys : List (List ℕ)) (rest : List ℕ) (j : ℕ) → AllByRecursion (λ key. length key ≡ w) keys
    → j < length keys
    → take w (drop (j * w) (flat_map (λ key. key) keys ++ rest)) ≡ get_or keys j []
key_at w [] rest j wide l = absurd (omega arith)
key_at w (key ∷ keys) rest zero wide l =
    rw (zero-mul w, append_assoc) (take_at key (flat_map (λ key. key) keys ++ rest) w wide.0)
key_at w (key ∷ keys) rest (suc j) wide l =
    let others = flat_map (λ key. key) keys in
    let b : suc j * w ≡ w + j * w = omega (arith, suc-mul j w) in
    let whole : drop w ((key ++ others) ++ rest) ≡ others ++ rest =
    ap (drop w) (append_assoc key others rest) ∙ drop_at key (others ++ rest) w wide.0 in
    rw (b, ← drop-drop (j * w) w ((key ++ others) ++ rest), whole)
    (key_at w keys rest j wide.1 (omega arith))

pub record HeadPageRead (kind : Kind) (E : ℕ) (page : List ℕ) (es : List ByteEntry) : Type 0 where
  pub count : get_or page 0 0 ≡ ceiling (length es) E
  pub keys :
      (j : ℕ) → j < ceiling (length es) E
      → take kind.key_width (drop (j * kind.key_width) (drop 1 page)) ≡ first_key (drop (j * E) es)
  pub valid : (j : ℕ) → j < ceiling (length es) E → kind.valid_key (first_key (drop (j * E) es)) ≡ true
  -- a page that is filled has an entry
  pub filled : (j : ℕ) → j < ceiling (length es) E → j * E < length es

pub head_page_read :
    (kind : Kind) → Lawful kind → (E : ℕ) (page : List ℕ) (es : List ByteEntry) → 1 ≤ E
    → AllByRecursion (ValidEntry kind) es
    → page ≡ head_page (first_keys (ceiling (length es) E) E es) → HeadPageRead kind E page es
unfolding head_page
head_page_read kind law E page es some valid e =
    let w = kind.key_width in
    let n = ceiling (length es) E in
    let keys = first_keys n E es in
    let f = just_enough E (length es) some in
    let good = firsts_valid law n E (length es) es f refl valid in
    let wide = All-weaker (λ key. kind.valid_key key ≡ true) (λ key. length key ≡ w) law.key_long keys good in
    let long = length-first_keys n E es in
    let at : (j : ℕ) → j < n → get_or keys j [] ≡ first_key (drop (j * E) es) = λ j l. first_at n E es j l in
    record {
      count = ap (λ x. get_or x 0 0) e ∙ long;
      keys = λ j l.
          ap (λ x. take w (drop (j * w) (drop 1 x))) e ∙ key_at w keys _ j wide (omega (arith, long)) ∙ at j l;
      valid = λ j l.
          ap kind.valid_key (sym (at j l))
          ∙ All-get_or (λ key. kind.valid_key key ≡ true) keys j [] (omega (arith, long)) good;
      filled = λ j l.
          omega (arith, f.tight, mul-le-mul_right {m = suc j} {n = n} E l, suc-mul j E);
    }
