-- One leaf page: the inspection accepts it with some entries exactly when it is their encoding and they are good, since
-- each test is one part of that, and bytes and entries determine each other.
use Rattle.std.proofs.Common.{◌≡◌, ℕ, zero, suc, ◌+◌, ◌-◌, ◌*◌, ◌^◌, ◌<◌, ◌≤◌, Bool, true, false, ◌&&◌, eqb, List, [], ◌∷◌, ◌++◌, map, length, get_or, take, drop, replicate, is_some, Some, None, Ok, Option, sym, refl, ap, ◌∙◌, subst, inl, inr, append_assoc, arith, take-add, pow_pos, pow_mono}
use Rattle.std.specs.List.{flat_map, AllByRecursion}
use Rattle.std.proofs.lemmas.Slice.Eq.{bytes_eq-Decides}
use Rattle.std.proofs.ByRecursion.{All-take, All-drop, All-weaker}
use Rattle.std.proofs.lemmas.Bool.{and_parts, and_from, eqb-true, eq-eqb, ltb-true, lt-ltb, not-true, not_from_false, cases_Bool, both_ways}
use Rattle.std.proofs.lemmas.List.{length-take-le, length-drop, length-append, length-map, take_at, drop_at, drop-drop}
use Rattle.records.specs.Bytes.{word, bytes_of}
use Rattle.records.specs.Kind.{Kind, Lawful, record_width}
use Rattle.records.specs.BytesLemmas.{length-bytes_of, word_bytes_of, bytes_of_word}
use Rattle.tree.specs.Entries.{Low, least, from, past, High, most, until, AboveLow, BelowHigh, Ascending}
use Rattle.layout.specs.Pages.{padded, ByteEntry, value_bytes, entry_bytes, mark_of, mark_word, leaf_page}
use Rattle.layout.specs.Checked.{zeros}
use Rattle.layout.specs.Holds.{ValidValue, ValidEntry}
use Rattle.layout.specs.LeafPages.{
  RawEntry,
  raw_entries,
  value_unless,
  entry_of,
  marks_on,
  raw_entries_on,
  good_marks,
  ordered_below,
  above_low,
  below_high,
  good_key,
  good_keys,
  good_first,
  good_value,
  good_values,
  inspect_leaf_page,
}
use Rattle.layout.specs.declared.faults.Rule.TheVariants.{LeafCount, Marks, Keys, Values}
use Rattle.layout.proofs.Checked.{test_ok, zeros_replicate, page_is, padded_rest}
use Rattle.layout.proofs.RawEntries.{entries_back, marks_back, length-raw_entries, is_tombstone, raw_of, raw_of_lem}
use Rattle.layout.proofs.RawEntries.{entries_raw, marks_small, length-entries}

-- a leaf node has no tombstone
abbrev pub LiveIn : Bool → Option (List ℕ) → Type 0
LiveIn true o = is_some o ≡ true
LiveIn false o = Unit {0}

abbrev pub GoodEntry : Kind → Bool → ByteEntry → Type 0
GoodEntry kind leaf e = ValidEntry kind e × LiveIn leaf e.value

pub good_valid :
    (kind : Kind) (leaf : Bool) (es : List ByteEntry) → AllByRecursion (GoodEntry kind leaf) es
    → AllByRecursion (ValidEntry kind) es
good_valid kind leaf = All-weaker (GoodEntry kind leaf) (ValidEntry kind) (λ e h. h.0)

abbrev pub FirstIs : List ℕ → List ByteEntry → Type 0
FirstIs first [] = Unit {0}
FirstIs first (e ∷ es) = e.key ≡ first

-- the page holds these entries of a node, the first with the key that the head page names
pub record LeafPageHeld (kind : Kind) (leaf : Bool) (t : ℕ) (lo : Low (List ℕ)) (hi : High (List ℕ))
    (first page : List ℕ) (es : List ByteEntry) : Type 0 where
  pub bytes : page ≡ leaf_page kind es
  pub count : length es ≡ t
  pub ascending : Ascending (ordered_below kind) lo hi es
  pub good : AllByRecursion (GoodEntry kind leaf) es
  pub starts : FirstIs first es

-- tests of keys

above_is :
    (kind : Kind) (lo : Low (List ℕ)) (a : List ℕ) → above_low kind lo a ≡ true → AboveLow (ordered_below kind) lo a
above_is kind least a h = tt
above_is kind (from b) a h = λ e. both_ways (ordered_below kind a b) (not-true (ordered_below kind a b) h) e
above_is kind (past b) a h = h

above_from :
    (kind : Kind) (lo : Low (List ℕ)) (a : List ℕ) → AboveLow (ordered_below kind) lo a → above_low kind lo a ≡ true
above_from kind least a h = refl
above_from kind (from b) a h =
    elim (cases_Bool (ordered_below kind a b)) [
      | inl e ↦ absurd (h e)
      | inr e ↦ not_from_false (ordered_below kind a b) e
    ]
above_from kind (past b) a h = h

below_is :
    (kind : Kind) (hi : High (List ℕ)) (a : List ℕ) → below_high kind hi a ≡ true → BelowHigh (ordered_below kind) hi a
below_is kind most a h = tt
below_is kind (until b) a h = h

below_from :
    (kind : Kind) (hi : High (List ℕ)) (a : List ℕ) → BelowHigh (ordered_below kind) hi a → below_high kind hi a ≡ true
below_from kind most a h = refl
below_from kind (until b) a h = h

pub record KeyIn (kind : Kind) (lo : Low (List ℕ)) (hi : High (List ℕ)) (a : List ℕ) : Type 0 where
  pub valid : kind.valid_key a ≡ true
  pub above : AboveLow (ordered_below kind) lo a
  pub below : BelowHigh (ordered_below kind) hi a

pub key_is :
    (kind : Kind) (lo : Low (List ℕ)) (hi : High (List ℕ)) (a : List ℕ) → good_key kind lo hi a ≡ true
    → KeyIn kind lo hi a
key_is kind lo hi a h =
    let p = and_parts (kind.valid_key a) (above_low kind lo a && below_high kind hi a) h in
    let q = and_parts (above_low kind lo a) (below_high kind hi a) p.1 in
    record { valid = p.0; above = above_is kind lo a q.0; below = below_is kind hi a q.1 }

pub key_from :
    (kind : Kind) (lo : Low (List ℕ)) (hi : High (List ℕ)) (a : List ℕ) → KeyIn kind lo hi a
    → good_key kind lo hi a ≡ true
key_from kind lo hi a h =
    and_from _ _ h.valid (and_from _ _ (above_from kind lo a h.above) (below_from kind hi a h.below))

abbrev ValidKeys : Kind → List RawEntry → Type 0
ValidKeys kind = AllByRecursion (λ r. kind.valid_key r.key ≡ true)

keys_are :
    (kind : Kind) (lo : Low (List ℕ)) (hi : High (List ℕ)) (rs : List RawEntry) → good_keys kind lo hi rs ≡ true
    → ValidKeys kind rs × Ascending {V = List ℕ} (ordered_below kind) lo hi (map entry_of rs)
unfolding good_keys
keys_are kind lo hi [] h = (tt, tt)
keys_are kind lo hi (r ∷ rs) h =
    let a = and_parts (good_key kind lo hi r.key) (good_keys kind (past r.key) hi rs) h in
    let k = key_is kind lo hi r.key a.0 in
    let ih = keys_are kind (past r.key) hi rs a.1 in
    ((k.valid, ih.0), (k.above, k.below, ih.1))

keys_from :
    (kind : Kind) (lo : Low (List ℕ)) (hi : High (List ℕ)) (rs : List RawEntry) → ValidKeys kind rs
    → Ascending {V = List ℕ} (ordered_below kind) lo hi (map entry_of rs) → good_keys kind lo hi rs ≡ true
unfolding good_keys
keys_from kind lo hi [] v a = refl
keys_from kind lo hi (r ∷ rs) v a =
    let k = key_from kind lo hi r.key (record { valid = v.0; above = a.0; below = a.1 }) in
    and_from _ _ k (keys_from kind (past r.key) hi rs v.1 a.2)

-- tests of marks, values and the first key

abbrev LiveRaw : Bool → List RawEntry → Type 0
LiveRaw leaf = AllByRecursion (λ r. LiveIn leaf (value_unless r.marked r.value))

any_live : (rs : List RawEntry) → LiveRaw false rs
any_live [] = tt
any_live (r ∷ rs) = (tt, any_live rs)

unmarked_live : (w v n : ℕ) (bs : List ℕ) → LiveRaw true (raw_entries w v n 0 bs)
unfolding raw_entries
unmarked_live w v zero bs = tt
unmarked_live w v (suc n) bs = (refl, unmarked_live w v n (drop (w + v) bs))

live_are :
    (leaf : Bool) (w v t m : ℕ) (bs : List ℕ) → good_marks leaf t m ≡ true → LiveRaw leaf (raw_entries w v t m bs)
live_are true w v t m bs h = let e : m ≡ 0 = eqb-true m 0 h in rw e (unmarked_live w v t bs)
live_are false w v t m bs h = any_live _

marks_low : (leaf : Bool) (t m : ℕ) → good_marks leaf t m ≡ true → m < 2 ^ t
marks_low true t m h = let e : m ≡ 0 = eqb-true m 0 h in rw e (pow_pos t)
marks_low false t m h = ltb-true m (2 ^ t) h

value_is : (kind : Kind) (m : Bool) (x : List ℕ) → good_value kind m x ≡ true → ValidValue kind (value_unless m x)
value_is kind true x h = tt
value_is kind false x h = h

entries_good :
    (kind : Kind) (leaf : Bool) (rs : List RawEntry) → ValidKeys kind rs → good_values kind rs ≡ true → LiveRaw leaf rs
    → AllByRecursion (GoodEntry kind leaf) (map entry_of rs)
unfolding good_values
entries_good kind leaf [] v p s = tt
entries_good kind leaf (r ∷ rs) v p s =
    let a = and_parts (good_value kind r.marked r.value) (good_values kind rs) p in (
      ((v.0, value_is kind r.marked r.value a.0), s.0),
      entries_good kind leaf rs v.1 a.1 s.1,
    )

first_is : (first : List ℕ) (rs : List RawEntry) → good_first first rs ≡ true → FirstIs first (map entry_of rs)
first_is first [] h = tt
first_is first (r ∷ rs) h = (bytes_eq-Decides r.key first).0 h

first_from : (first : List ℕ) (rs : List RawEntry) → FirstIs first (map entry_of rs) → good_first first rs ≡ true
first_from first [] h = refl
first_from first (r ∷ rs) h = (bytes_eq-Decides r.key first).1 h

-- byte 0, the mark word, the entries
front_is :
    (page : List ℕ) (n t : ℕ) (xs ys : List ℕ) → 9 ≤ length page → get_or page 0 0 ≡ t → xs ≡ take 8 (drop 1 page)
    → ys ≡ take n (drop 9 page) → take (9 + n) page ≡ t ∷ (xs ++ ys)
front_is [] n t xs ys l a b c = absurd (omega arith)
front_is (x ∷ page) n t xs ys l a b c =
    let e : 9 + n ≡ suc (8 + n) = omega arith in
    rw (e, a, b, c, take-add 8 n page, drop-drop 8 0 page)

-- an accepted page holds the entries that were read from it
pub leaf_page_holds :
    (kind : Kind) (leaf : Bool) (t : ℕ) (lo : Low (List ℕ)) (hi : High (List ℕ)) (first : List ℕ) (p : ℕ)
    (page : List ℕ) (es : List ByteEntry)
    → length page ≡ 512 → AllByRecursion (λ b. b < 256) page → 9 + t * record_width kind ≤ 512
    → inspect_leaf_page kind leaf t lo hi first p page ≡ Ok es → LeafPageHeld kind leaf t lo hi first page es
unfolding inspect_leaf_page leaf_page
leaf_page_holds kind leaf t lo hi first p page es long small fits h =
    let w = kind.key_width in
    let v = kind.value_width in
    let m = marks_on page in
    let rs = raw_entries w v t m (drop 9 page) in
    let rest = drop (9 + t * (w + v)) page in
    let word8 = take 8 (drop 1 page) in
    let a = test_ok _ p LeafCount _ es h in
    let b = test_ok _ p Marks _ es a.1 in
    let c = test_ok _ p Keys _ es b.1 in
    let d = test_ok (good_values kind rs && zeros rest) p Values (Ok (map entry_of rs)) es c.1 in
    let e : map entry_of rs ≡ es = cc d.1 in
    let ks = and_parts (good_keys kind lo hi rs) (good_first first rs) c.0 in
    let vs = and_parts (good_values kind rs) (zeros rest) d.0 in
    let kk = keys_are kind lo hi rs ks.0 in
    let body = entries_back kind t m (drop 9 page) (omega (arith, length-drop 9 page)) vs.0 in
    let mk = marks_back w v t m (drop 9 page) (marks_low leaf t m b.0) in
    let word8_long : length word8 ≡ 8 = length-take-le 8 (drop 1 page) (omega (arith, length-drop 1 page)) in
    let word8_bytes = All-take (λ b. b < 256) 8 (drop 1 page) (All-drop (λ b. b < 256) 1 page small) in
    let sp : bytes_of 8 m ≡ word8 = bytes_of_word 8 word8 word8_long word8_bytes in
    let len : length (map entry_of rs) ≡ t = length-map rs entry_of ∙ length-raw_entries w v t m (drop 9 page) in
    let front :
    take (9 + t * (w + v)) page
    ≡ length (map entry_of rs) ∷ (bytes_of 8 (mark_word (map entry_of rs)) ++ flat_map (entry_bytes kind) (map entry_of rs)) =
    front_is page (t * (w + v)) (length (map entry_of rs)) (bytes_of 8 (mark_word (map entry_of rs))) _ (omega arith)
    (eqb-true (get_or page 0 0) t a.0 ∙ sym len) (ap (bytes_of 8) mk ∙ sp) body in
    subst (λ x. LeafPageHeld kind leaf t lo hi first page x) e (record {
      bytes = page_is (9 + t * (w + v)) page long fits vs.1 ∙ ap padded front;
      count = len;
      ascending = kk.1;
      good = entries_good kind leaf rs kk.0 vs.0 (live_are leaf w v t m (drop 9 page) b.0);
      starts = first_is first rs ks.1;
    })

-- entries that stand on a page pass the tests

no_marks : (kind : Kind) (es : List ByteEntry) → AllByRecursion (GoodEntry kind true) es → mark_word es ≡ 0
unfolding mark_word
no_marks kind [] h = refl
no_marks kind (e ∷ es) h = omega (arith, go e.value h.0.1, no_marks kind es h.1)
  where
    go : (o : Option (List ℕ)) → LiveIn true o → mark_of o ≡ 0
    go None h = let c : ◌≡◌ {A = ℕ} 0 1 = cc in absurd (omega arith)
    go (Some x) h = refl

marks_pass :
    (kind : Kind) (leaf : Bool) (es : List ByteEntry) (t : ℕ) → length es ≡ t → AllByRecursion (GoodEntry kind leaf) es
    → good_marks leaf t (mark_word es) ≡ true
marks_pass kind true es t l h = eq-eqb (mark_word es) 0 (no_marks kind es h)
marks_pass kind false es t l h = lt-ltb (mark_word es) (2 ^ t) (rw l at (marks_small es))

keys_pass :
    (kind : Kind) (leaf : Bool) (es : List ByteEntry) → AllByRecursion (GoodEntry kind leaf) es
    → ValidKeys kind (map (raw_of kind) es)
keys_pass kind leaf [] h = tt
keys_pass kind leaf (e ∷ es) h = (h.0.0.0, keys_pass kind leaf es h.1)

value_passes :
    (kind : Kind) (o : Option (List ℕ)) → ValidValue kind o
    → good_value kind (is_tombstone o) (value_bytes kind.value_width o) ≡ true
value_passes kind None h = zeros_replicate kind.value_width
value_passes kind (Some x) h = h

values_pass :
    (kind : Kind) (leaf : Bool) (es : List ByteEntry) → AllByRecursion (GoodEntry kind leaf) es
    → good_values kind (map (raw_of kind) es) ≡ true
unfolding good_values
values_pass kind leaf [] h = refl
values_pass kind leaf (e ∷ es) h =
    and_from _ _ (value_passes kind e.value h.0.0.1) (values_pass kind leaf es h.1)

-- what is read from a page that holds entries
pub record LeafPageRead (kind : Kind) (page : List ℕ) (es : List ByteEntry) : Type 0 where
  pub count : get_or page 0 0 ≡ length es
  pub marks : marks_on page ≡ mark_word es
  pub entries : raw_entries_on kind (length es) page ≡ map (raw_of kind) es

pub leaf_page_read :
    (kind : Kind) → Lawful kind → (page : List ℕ) (es : List ByteEntry) → length es ≤ 64
    → AllByRecursion (ValidEntry kind) es
    → page ≡ leaf_page kind es → LeafPageRead kind page es
unfolding leaf_page
leaf_page_read kind law page es few valid e =
    let marks = bytes_of 8 (mark_word es) in
    let body = flat_map (entry_bytes kind) es in
    let tail = replicate (512 - length (length es ∷ (marks ++ body))) 0 in
    let ls : length marks ≡ 8 = length-bytes_of 8 (mark_word es) in
    let shape : page ≡ length es ∷ (marks ++ (body ++ tail)) =
    e ∙ ap (λ x. length es ∷ x) (append_assoc marks body tail) in
    let mbytes : take 8 (drop 1 page) ≡ marks =
    ap (λ x. take 8 (drop 1 x)) shape ∙ take_at marks (body ++ tail) 8 ls in
    let mp : 2 ^ length es ≤ 2 ^ 64 = pow_mono {i = length es} {j = 64} few in
    let mlow : mark_word es < 256 ^ 8 = omega (arith, marks_small es) in
    let mis : marks_on page ≡ mark_word es = ap word mbytes ∙ word_bytes_of 8 (mark_word es) mlow in
    let bis : drop 9 page ≡ body ++ tail = ap (drop 9) shape ∙ drop_at marks (body ++ tail) 8 ls in
    record {
      count = ap (λ x. get_or x 0 0) shape;
      marks = mis;
      entries = rw (mis, bis) (raw_of_lem kind law es tail valid);
    }

-- a page that holds entries is accepted with them
pub leaf_page_accepted :
    (kind : Kind) → Lawful kind → (leaf : Bool) (t : ℕ) (lo : Low (List ℕ)) (hi : High (List ℕ)) (first : List ℕ)
    (p : ℕ) (page : List ℕ) (es : List ByteEntry)
    → t ≤ 64 → LeafPageHeld kind leaf t lo hi first page es → inspect_leaf_page kind leaf t lo hi first p page ≡ Ok es
unfolding inspect_leaf_page leaf_page
leaf_page_accepted kind law leaf t lo hi first p page es few h =
    let w = kind.key_width in
    let v = kind.value_width in
    let marks = bytes_of 8 (mark_word es) in
    let body = flat_map (entry_bytes kind) es in
    let valid = good_valid kind leaf es h.good in
    let ls : length marks ≡ 8 = length-bytes_of 8 (mark_word es) in
    let le = length-entries kind law es valid in
    let read = leaf_page_read kind law page es (omega (arith, h.count)) valid h.bytes in
    let raw = map (raw_of kind) es in
    let rs : raw_entries_on kind t page ≡ raw = rw (← h.count) read.entries in
    let asc : Ascending {V = List ℕ} (ordered_below kind) lo hi (map entry_of raw) = rw entries_raw h.ascending in
    let fst : FirstIs first (map entry_of raw) = rw entries_raw h.starts in
    let rest : zeros (drop (9 + t * (w + v)) page) ≡ true =
    rw h.bytes (padded_rest (9 + t * (w + v)) (length es ∷ (marks ++ body))
    (omega (arith, length-append marks body, h.count, ap (λ x. x * (w + v)) h.count))) in
    let t8 : eqb (get_or page 0 0) t ≡ true = eq-eqb (get_or page 0 0) t (read.count ∙ h.count) in
    let t9 : good_marks leaf t (marks_on page) ≡ true =
    rw read.marks (marks_pass kind leaf es t h.count h.good) in
    let on = raw_entries_on kind t page in
    let valid_keys = keys_pass kind leaf es h.good in
    let t10 : (good_keys kind lo hi on && good_first first on) ≡ true =
    rw rs (and_from _ _ (keys_from kind lo hi raw valid_keys asc) (first_from first raw fst)) in
    let t11 : (good_values kind on && zeros (drop (9 + t * (w + v)) page)) ≡ true =
    and_from _ _ (rw rs (values_pass kind leaf es h.good)) rest in
    rw (t8, t9, t10, t11) (ap Ok (ap (map entry_of) rs ∙ entries_raw kind es))
