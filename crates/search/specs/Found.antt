-- What a search finds in the entries of a node, and in a tree.
use Rattle.std.specs.Prelude.{◌≡◌, ℕ, ◌+◌, ◌*◌, ◌/◌, ◌%◌, ◌^◌, ◌<◌, cond, not, ◌&&◌, List, length, take, drop, Some, None, Ok, Err, Option, Result, ◌==◌, nat_lt}
use Rattle.std.specs.List.{AllByRecursion}
use Rattle.std.specs.Str.{bytes_eq}
use Rattle.records.specs.Kind.{Kind, record_width}
use Rattle.shape.specs.Shape.{ceiling}
use Rattle.tree.specs.Entries.{Low, High, Ascending, read}
use Rattle.tree.specs.Children.{child_at, place_of, SKeysAscend}
use Rattle.tree.specs.Keys.{key_below}
use Rattle.layout.specs.Pages.{ByteEntry, head_page, leaf_page}
use Rattle.layout.specs.Slots.{s_key_list, first_key, first_keys}
use Rattle.layout.specs.LeafPages.{value_unless}
use Rattle.layout.specs.Rows.{key_in, value_in, Divides}
use Rattle.layout.specs.Search.{rank}
use Rattle.layout.specs.Nodes.{SlotChildren}
use Rattle.layout.specs.Holds.{ValidKey, ValidEntry}
use Rattle.layout.specs.declared.faults.PageFault.{PageFault}
use Rattle.search.specs.declared.d_tree.Place.{Place}
use Rattle.search.specs.declared.d_tree.Saying.{Saying}
use Rattle.search.specs.declared.d_tree.Saying.TheVariants.{Nothing, Tombstone, Live}

-- what a saying makes of what older entries say; a value stands in the first v bytes
abbrev pub said_by : (v : ℕ) → Saying → Option (List ℕ) → Option (List ℕ)
said_by v Nothing older = older
said_by v Tombstone older = None
said_by v (Live bytes) older = Some (take v bytes)

-- what entry i of a leaf page says of a key, if there is such an entry and it has that key
abbrev pub said_at : Kind → (marks count : ℕ) → List ℕ → ℕ → List ℕ → Option (List ℕ) → Option (List ℕ)
said_at kind marks count bytes i key older =
    cond (nat_lt i count && bytes_eq (key_in kind.key_width (record_width kind) bytes i) key)
    (value_unless ((marks / 2 ^ i) % 2 == 1)
    (value_in kind.key_width kind.value_width (record_width kind) bytes i))
    older

-- A place in a d-tree is the key's: so many entries are below the key, and the entry with the key, if there is one,
-- says what the d-tree says.
pub record PlaceOf (kind : Kind) (key : List ℕ) (es : List ByteEntry) (place : Place) : Type 0 where
  pub below : place.below ≡ rank (key_below kind) key es
  pub says :
      (older : Option (List ℕ)) → said_by kind.value_width place.saying older ≡ read (key_below kind) key es older

-- a search that found the place
abbrev pub FoundPlace : Kind → List ℕ → List ByteEntry → Result Place PageFault → Type 0
FoundPlace kind key es (Ok place) = PlaceOf kind key es place
FoundPlace kind key es (Err fault) = ⊥

-- the entries are valid and ascend
pub record GoodEntries (kind : Kind) (es : List ByteEntry) : Type 0 where
  pub valid : AllByRecursion (ValidEntry kind) es
  pub low : Low (List ℕ)
  pub high : High (List ℕ)
  pub ascending : Ascending (key_below kind) low high es

-- head page p and the leaf pages behind it have these entries
pub record DTreeOn (kind : Kind) (per_page : ℕ) (page : ℕ → List ℕ) (p : ℕ) (es : List ByteEntry) : Type 0 where
  pub head : page p ≡ head_page (first_keys (ceiling (length es) per_page) per_page es)
  pub leaves :
      (j : ℕ) → j < ceiling (length es) per_page
      → page (p + 1 + j) ≡ leaf_page kind (take per_page (drop (j * per_page) es))
  pub good : GoodEntries kind es

-- so many leaf pages begin at the key or below it
abbrev pub PagesUpTo : Kind → (per_page : ℕ) (key : List ℕ) → List ByteEntry → Result ℕ PageFault → Type 0
PagesUpTo kind per_page key es (Ok n) =
    Divides (λ j. not (key_below kind key (first_key (drop (j * per_page) es)))) (ceiling (length es) per_page) n
PagesUpTo kind per_page key es (Err fault) = ⊥

-- A key belongs to the child in this slot, if the s-keys are valid and ascend.
abbrev pub BelongsTo : Kind → (key : List ℕ) → SlotChildren → (slot : ℕ) → Type 0
BelongsTo kind key cs slot =
    (lo : Low (List ℕ)) (hi : High (List ℕ)) → SKeysAscend (key_below kind) lo hi cs
    → AllByRecursion (ValidKey kind) (s_key_list cs)
    → ValidKey kind key → slot ≡ child_at (place_of (key_below kind) key cs) cs

-- the value found, which stands in the first v bytes
abbrev pub value_found : (v : ℕ) → Result (Option (List ℕ)) PageFault → Result (Option (List ℕ)) PageFault
value_found v (Ok None) = Ok None
value_found v (Ok (Some bytes)) = Ok (Some (take v bytes))
value_found v (Err fault) = Err fault
