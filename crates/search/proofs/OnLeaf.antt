-- The search of one leaf page: the keys in its row are those of its entries, so the place where the key divides the row
-- is its place among the entries, and the entry at it is the only one that can have the key.
use Rattle.std.proofs.Common.{◌≡◌, ℕ, ◌+◌, ◌<◌, ◌≤◌, Bool, true, false, cond, ◌&&◌, eqb, ltb, List, [], ◌∷◌, map, length, get_or, take, drop, None, Option, sym, refl, ap, ◌∙◌, subst, inl, inr, arith}
use Rattle.std.specs.List.{AllByRecursion}
use Rattle.std.specs.Str.{bytes_eq}
use Rattle.std.specs.Ordering.{is_lt}
use Rattle.std.proofs.ByRecursion.{All-drop}
use Rattle.std.proofs.lemmas.Slice.Eq.{bytes_eq-Decides}
use Rattle.std.proofs.lemmas.List.{drop_all, drop-map, length-drop, get_or_past}
use Rattle.std.proofs.lemmas.Bool.{cases_lt, cases_Bool, lt-ltb, le-ltb, both_ways, eq-eqb, false≢true}
use Rattle.records.specs.Kind.{Kind, Lawful, record_width}
use Rattle.tree.specs.Order.{Ordered}
use Rattle.tree.specs.Entries.{read}
use Rattle.tree.specs.Keys.{key_below}
use Rattle.tree.proofs.Keys.{key_ordered}
use Rattle.layout.specs.Pages.{ByteEntry, leaf_page}
use Rattle.layout.specs.Slots.{first_key}
use Rattle.layout.specs.LeafPages.{RawEntry, raw_entries_on, marks_on, value_unless, low_after}
use Rattle.layout.specs.Rows.{key_in, Divides}
use Rattle.layout.specs.Holds.{ValidKey, ValidEntry}
use Rattle.layout.proofs.RawEntries.{raw_at, raw_drop, raw_of, value_raw}
use Rattle.layout.proofs.LeafPage.{LeafPageRead, leaf_page_read}
use Rattle.layout.proofs.DTree.{ascending_drop}
use Rattle.search.specs.Found.{said_by, said_at, GoodEntries, PlaceOf}
use Rattle.search.specs.declared.d_tree.Place.{Place}
use Rattle.search.proofs.Divided.{divides_same, divides_row, before_by_tree, under, divided}
use Rattle.layout.proofs.Search.{search_by_first_keys}
use Rattle.stores.specs.Store.{page_at}

module _ (kind : Kind) (law : Lawful kind) (page : List ℕ) (es : List ByteEntry) (on : LeafPageRead kind page es) where
  abbrev w : ℕ
  w = kind.key_width

  abbrev raw : ℕ → RawEntry
  raw = raw_at kind.key_width kind.value_width (marks_on page) (drop 9 page)

  -- entry i on the page
  entry_on :
      (i : ℕ) (e : ByteEntry) (ys : List ByteEntry) → i < length es → drop i es ≡ e ∷ ys → raw i ≡ raw_of kind e
  entry_on i e ys l d =
      let a = raw_drop kind.key_width kind.value_width (length es) (marks_on page) (drop 9 page) i l in
      let b : drop i (raw_entries_on kind (length es) page) ≡ raw_of kind e ∷ map (raw_of kind) ys =
      ap (drop i) on.entries ∙ drop-map (raw_of kind) i es ∙ ap (map (raw_of kind)) d in
      cc

  module _ (key : List ℕ) (valid_key : ValidKey kind key) (good : GoodEntries kind es) where
    abbrev lt : List ℕ → List ℕ → Bool
    lt = key_below kind

    at_place : (i : ℕ) → i < length es → (e : ByteEntry) × (ys : List ByteEntry) × (drop i es ≡ e ∷ ys)
    at_place i l = go (drop i es) refl
      where
        go :
            (xs : List ByteEntry) → drop i es ≡ xs → (e : ByteEntry) × (ys : List ByteEntry) × (drop i es ≡ e ∷ ys)
        go [] d = absurd (omega (arith, length-drop i es, ap length d))
        go (e ∷ ys) d = (e, ys, d)

    key_on_lem : (i : ℕ) → i < length es → key_in w (record_width kind) (drop 9 page) i ≡ first_key (drop i es)
    key_on_lem i l =
        let f = at_place i l in
        ap (λ r. r.key) (entry_on i f.0 f.1 l f.2) ∙ sym (ap first_key f.2)

    key_valid : (i : ℕ) → i < length es → ValidKey kind (first_key (drop i es))
    key_valid i l =
        let f = at_place i l in
        let v = All-drop (ValidEntry kind) i es good.valid in
        let u : AllByRecursion (ValidEntry kind) (f.0 ∷ f.1) = subst (AllByRecursion (ValidEntry kind)) f.2 v in
        ap (λ xs. kind.valid_key (first_key xs)) f.2 ∙ u.0.0

    abbrev row : List ℕ
    row = drop 9 page

    -- whether key i of the row is below the key
    abbrev before : ℕ → Bool
    before i = is_lt (kind.order (key_in w (record_width kind) row i) key)

    -- the row divides as the entries do
    row_divides :
        (r : ℕ) → Divides before (length es) r
        → Divides (under (key_ordered kind law) good.high key es) (length es) r
    row_divides r d =
        divides_same _ _ (length es) r (λ i l.
        ap (λ k. is_lt (kind.order k key)) (key_on_lem i l)
        ∙ before_by_tree kind law (first_key (drop i es)) key (key_valid i l) valid_key) d

    abbrev said : ℕ → Option (List ℕ) → Option (List ℕ)
    said r older = said_at kind (marks_on page) (length es) row r key older

    -- the entry at the place has the key
    said_same :
        (r : ℕ) (older : Option (List ℕ)) (e : ByteEntry) (ys : List ByteEntry) → r < length es → drop r es ≡ e ∷ ys
        → e.key ≡ key → said r older ≡ read lt key (drop r es) older
    said_same r older e ys l d same =
        let o = key_ordered kind law in
        let is = entry_on r e ys l d in
        let a : ltb r (length es) ≡ true = lt-ltb r (length es) l in
        let b : bytes_eq (raw r).key key ≡ true =
        (bytes_eq-Decides (raw r).key key).1 (ap (λ x. x.key) is ∙ same) in
        let v : value_unless (raw r).marked (raw r).value ≡ e.value =
        ap (λ x. value_unless x.marked x.value) is ∙ value_raw kind.value_width e.value in
        let here : read lt key (e ∷ ys) older ≡ e.value = read_same o e ys older same in
        ap (λ t. cond (t && bytes_eq (raw r).key key) (value_unless (raw r).marked (raw r).value) older) a
        ∙ ap (λ t. cond t (value_unless (raw r).marked (raw r).value) older) b
        ∙ v ∙ sym here ∙ ap (λ xs. read lt key xs older) (sym d)
      where
        read_same :
            Ordered lt → (e : ByteEntry) (ys : List ByteEntry) (older : Option (List ℕ)) → e.key ≡ key
            → read lt key (e ∷ ys) older ≡ e.value
        read_same o e ys older same =
            let a : lt key e.key ≡ false = grind (arith, o.irreflexive) in
            let b : lt e.key key ≡ false = grind (arith, o.irreflexive) in
            rw (a, b)

    -- the entry at the place has another key, so no entry has the key
    said_other :
        (r : ℕ) (older : Option (List ℕ)) (e : ByteEntry) (ys : List ByteEntry) → r < length es → drop r es ≡ e ∷ ys
        → (e.key ≡ key → ⊥) → lt e.key key ≡ false → said r older ≡ read lt key (drop r es) older
    said_other r older e ys l d other n =
        let o = key_ordered kind law in
        let is = entry_on r e ys l d in
        let b : bytes_eq (raw r).key key ≡ false =
        not_same (raw r).key (λ q. other (sym (ap (λ x. x.key) is) ∙ q)) in
        let t = ltb r (length es) in
        let below : lt key e.key ≡ true =
        elim (cases_Bool (lt key e.key)) [
          | inl q ↦ q
          | inr q ↦ absurd (other (o.total e.key key n q))
        ] in
        let from = ascending_drop lt good.high good.low r es good.ascending in
        let low = low_after good.low (take r es) in
        let none = (search_by_first_keys lt o).1 low good.high key (drop r es) older from
        (λ s. ap (λ xs. lt key (first_key xs)) d ∙ below) in
        ap (λ x. cond (t && x) (value_unless (raw r).marked (raw r).value) older) b ∙ and_none t ∙ sym none.0
      where
        not_same : (a : List ℕ) → (a ≡ key → ⊥) → bytes_eq a key ≡ false
        not_same a h =
            elim (cases_Bool (bytes_eq a key)) [
              | inl q ↦ absurd (h ((bytes_eq-Decides a key).0 q))
              | inr q ↦ q
            ]

        and_none : (t : Bool) → cond (t && false) (value_unless (raw r).marked (raw r).value) older ≡ older
        and_none true = refl
        and_none false = refl

    said_at_lem :
        (r : ℕ) (older : Option (List ℕ)) → r < length es → lt (first_key (drop r es)) key ≡ false
        → said r older ≡ read lt key (drop r es) older
    said_at_lem r older l n =
        let f = at_place r l in
        let e = f.0 in
        let m : lt e.key key ≡ false = sym (ap (λ xs. lt (first_key xs) key) f.2) ∙ n in
        elim (cases_Bool (bytes_eq e.key key)) [
          | inl q ↦ said_same r older e f.1 l f.2 ((bytes_eq-Decides e.key key).0 q)
          | inr q ↦ said_other r older e f.1 l f.2
              (λ s. both_ways (bytes_eq e.key key) q ((bytes_eq-Decides e.key key).1 s)) m
        ]

    said_past : (r : ℕ) (older : Option (List ℕ)) → length es ≤ r → said r older ≡ read lt key (drop r es) older
    said_past r older l =
        let a : ltb r (length es) ≡ false = le-ltb r (length es) l in
        let b : drop r es ≡ [] = drop_all r es l in
        rw (a, b)

    -- the place found on the page is the key's
    pub page_place :
        (place : Place) → Divides before (length es) place.below
        → ((older : Option (List ℕ)) → said_by kind.value_width place.saying older ≡ said place.below older)
        → PlaceOf kind key es place
    page_place place d says =
        let r = place.below in
        let o = key_ordered kind law in
        let u = row_divides r d in
        let by : (older : Option (List ℕ)) → said r older ≡ read lt key (drop r es) older =
        λ older. elim (cases_lt r (length es)) [
          | inl l ↦ said_at_lem r older l (u.right l)
          | inr l ↦ said_past r older l
        ] in
        record {
          below = sym (divided o good.high key good.low es r None good.ascending u).1;
          says = λ older.
              says older ∙ by older
              ∙ sym (divided o good.high key good.low es r older good.ascending u).0;
        }

-- the search as the code runs it, on the page as it was read
pub leaf_found :
    (kind : Kind) → Lawful kind → (page buffer bytes : List ℕ) (es : List ByteEntry) (key : List ℕ)
    (w v n t marks : ℕ) (place : Place) → buffer ≡ page → page ≡ leaf_page kind es → length es ≡ t → t ≤ 64
    → GoodEntries kind es → ValidKey kind key → (w ≡ kind.key_width) × (v ≡ kind.value_width) → n ≡ t
    → bytes ≡ drop 9 buffer → marks ≡ marks_on buffer
    → Divides (λ i. is_lt (kind.order (key_in w (w + v) bytes i) key)) n place.below
    → ((older : Option (List ℕ))
    → said_by kind.value_width place.saying older ≡ said_at kind marks n bytes place.below key older)
    → PlaceOf kind key es place
leaf_found kind law page buffer bytes es key w v n t marks place is held long few good valid wide many rest mark d says
    =
    let on = leaf_page_read kind law page es (omega arith) good.valid held in
    let bs : bytes ≡ drop 9 page = rest ∙ ap (drop 9) is in
    let ms : marks ≡ marks_on page = mark ∙ ap marks_on is in
    let ns : n ≡ length es = many ∙ sym long in
    let r = place.below in
    let d₁ = divides_row (λ k. is_lt (kind.order k key)) kind.key_width kind.value_width (length es) w v n r
    (drop 9 page) bytes wide.0 wide.1 ns bs d in
    page_place kind law page es on key valid good place d₁ (λ older.
    says older ∙ ap (λ b. said_at kind marks n b r key older) bs
    ∙ ap (λ m. said_at kind m n (drop 9 page) r key older) ms
    ∙ ap (λ m. said_at kind (marks_on page) m (drop 9 page) r key older) ns)

-- a page with bytes on it is there
pub page_there :
    (pages : List (List ℕ)) (p : ℕ) (x : ℕ) (xs : List ℕ) → length pages ≤ p → page_at pages p ≡ x ∷ xs → ⊥
page_there pages p x xs l e =
    let a : get_or pages p [] ≡ [] = get_or_past pages p [] l in
    let z : ◌≡◌ {A = ℕ} 0 1 = cc in omega arith

pub leaf_there :
    (kind : Kind) (pages : List (List ℕ)) (p : ℕ) (es : List ByteEntry) → length pages ≤ p
    → page_at pages p ≡ leaf_page kind es → ⊥
unfolding leaf_page
leaf_there kind pages p es l e = page_there pages p _ _ l e

-- a page that holds so many entries counts them
pub leaf_counted :
    (kind : Kind) → Lawful kind → (page buffer : List ℕ) (es : List ByteEntry) (t : ℕ) → buffer ≡ page
    → page ≡ leaf_page kind es → length es ≡ t → t ≤ 64 → GoodEntries kind es → eqb (get_or buffer 0 0) t ≡ false → ⊥
leaf_counted kind law page buffer es t is held long few good other =
    let on = leaf_page_read kind law page es (omega arith) good.valid held in
    false≢true (sym other ∙ eq-eqb _ t (ap (λ x. get_or x 0 0) is ∙ on.count ∙ long))
