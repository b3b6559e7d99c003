-- The inspection of a d-tree, which is the entries of one node: rule 7 on its head page, then rules 8 to 11 on one leaf
-- page before the next.
use Rattle.std.specs.Prelude.{ℕ, zero, suc, ◌+◌, ◌-◌, ◌*◌, ◌/◌, ◌%◌, ◌^◌, min, Bool, true, cond, not, ◌&&◌, List, [], ◌∷◌, ◌++◌, map, take, drop, Some, None, Ok, Option, ◌==◌, nat_lt, slice_index}
use Rattle.std.specs.Ordering.{is_lt}
use Rattle.std.specs.Str.{bytes_eq}
use Rattle.records.specs.Bytes.{field}
use Rattle.records.specs.Kind.{Kind, record_width}
use Rattle.shape.specs.Shape.{ceiling}
use Rattle.tree.specs.Entries.{Low, least, from, past, High, most, until}
use Rattle.layout.specs.Pages.{ByteEntry}
use Rattle.layout.specs.Checked.{Checked, test, then, zeros}
use Rattle.layout.specs.declared.faults.Rule.TheVariants.{HeadPage, LeafCount, Marks, Keys, Values}

-- an entry as it stands on a page: its key, whether it is marked as a tombstone, and the bytes of its value
pub record RawEntry : Type 0 where
  pub key : List ℕ
  pub marked : Bool
  pub value : List ℕ

-- n entries from their bytes, with the mark word's bits from the lowest up
unfoldable pub raw_entries : (w v n marks : ℕ) → List ℕ → List RawEntry
raw_entries w v zero marks bs = []
raw_entries w v (suc n) marks bs =
    record { key = take w bs; marked = (marks % 2 == 1); value = take v (drop w bs) }
    ∷ raw_entries w v n (marks / 2) (drop (w + v) bs)

abbrev pub value_unless : Bool → List ℕ → Option (List ℕ)
value_unless marked value = cond marked None (Some value)

abbrev pub entry_of : RawEntry → ByteEntry
entry_of r = record { key = r.key; value = value_unless r.marked r.value }

abbrev pub marks_on : List ℕ → ℕ
marks_on = field 1 8

abbrev pub raw_entries_on : Kind → ℕ → List ℕ → List RawEntry
raw_entries_on kind t page = raw_entries kind.key_width kind.value_width t (marks_on page) (drop 9 page)

-- no mark at or above place t, and none at all in a leaf node
abbrev pub good_marks : Bool → ℕ → ℕ → Bool
good_marks leaf t marks = cond leaf (marks == 0) (nat_lt marks (2 ^ t))

-- the first key is the one that the head page names
abbrev pub good_first : List ℕ → List RawEntry → Bool
good_first first [] = true
good_first first (r ∷ rs) = bytes_eq r.key first

module _ (kind : Kind) where
  -- the kind's own order, which it asks of valid keys alone; a key is tested for validity first
  abbrev pub ordered_below : List ℕ → List ℕ → Bool
  ordered_below a b = is_lt (kind.order a b)

  -- whether a key is inside the ends of a range
  abbrev pub above_low : Low (List ℕ) → List ℕ → Bool
  above_low least key = true
  above_low (from a) key = not (ordered_below key a)
  above_low (past a) key = ordered_below a key

  abbrev pub below_high : High (List ℕ) → List ℕ → Bool
  below_high most key = true
  below_high (until b) key = ordered_below key b

  -- valid, and in the range
  abbrev pub good_key : Low (List ℕ) → High (List ℕ) → List ℕ → Bool
  good_key lo hi key = kind.valid_key key && (above_low lo key && below_high hi key)

  -- valid, ascending and in the range
  unfoldable pub good_keys : Low (List ℕ) → High (List ℕ) → List RawEntry → Bool
  good_keys lo hi [] = true
  good_keys lo hi (r ∷ rs) = good_key lo hi r.key && good_keys (past r.key) hi rs

  abbrev pub good_value : Bool → List ℕ → Bool
  good_value marked value = cond marked (zeros value) (kind.valid_value value)

  unfoldable pub good_values : List RawEntry → Bool
  good_values [] = true
  good_values (r ∷ rs) = good_value r.marked r.value && good_values rs

  -- Page p, which is to have t entries. `first` is the key that the head page names, and `leaf` says whether the node
  -- is a leaf node.
  unfoldable pub inspect_leaf_page :
      (leaf : Bool) (t : ℕ) → Low (List ℕ) → High (List ℕ) → (first : List ℕ) (p : ℕ) (page : List ℕ)
      → Checked (List ByteEntry)
  inspect_leaf_page leaf t lo hi first p page =
      let raw = raw_entries_on kind t page in
      test (slice_index page 0 == t) p LeafCount
      (test (good_marks leaf t (marks_on page)) p Marks
      (test (good_keys lo hi raw && good_first first raw) p Keys
      (test (good_values raw && zeros (drop (9 + t * record_width kind) page)) p Values
      (Ok (map entry_of raw)))))

-- the low end that entries leave for those after them
abbrev pub low_after : Low (List ℕ) → List ByteEntry → Low (List ℕ)
low_after lo [] = lo
low_after lo (e ∷ es) = low_after (past e.key) es

module _ (kind : Kind) (per_page : ℕ) (page : ℕ → List ℕ) (leaf : Bool) (hi : High (List ℕ)) where
  -- n leaf pages with s entries, from page p on; `firsts` are the bytes of the head page from the key of page p on
  unfoldable pub inspect_leaf_pages :
      (n s : ℕ) → Low (List ℕ) → (firsts : List ℕ) (p : ℕ) → Checked (List ByteEntry)
  inspect_leaf_pages zero s lo firsts p = Ok []
  inspect_leaf_pages (suc n) s lo firsts p =
      let w = kind.key_width in
      then (inspect_leaf_page kind leaf (min per_page s) lo hi (take w firsts) p (page p)) (λ es.
      then (inspect_leaf_pages n (s - per_page) (low_after lo es) (drop w firsts) (p + 1)) (λ more.
      Ok (es ++ more)))

  -- a d-tree of s entries whose head page is p
  unfoldable pub inspect_d_tree : (s : ℕ) → Low (List ℕ) → (p : ℕ) → Checked (List ByteEntry)
  inspect_d_tree s lo p =
      let filled = ceiling s per_page in
      let rest = drop (1 + filled * kind.key_width) (page p) in
      test (slice_index (page p) 0 == filled && zeros rest) p HeadPage
      (inspect_leaf_pages filled s lo (drop 1 (page p)) (p + 1))
