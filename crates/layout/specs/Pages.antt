-- The bytes of pages. Every byte of a page that is not named here is zero.
use Rattle.std.specs.Prelude.{ℕ, ◌+◌, ◌-◌, ◌*◌, List, [], ◌∷◌, ◌++◌, length, replicate, Some, None, Option}
use Rattle.std.specs.List.{flat_map}
use Rattle.records.specs.Bytes.{bytes_of}
use Rattle.records.specs.Kind.{Kind}
use Rattle.shape.specs.Shape.{Shape}
use Rattle.tree.specs.Entries.{Entry}

-- a page that begins with these bytes; the rest is zero
abbrev pub padded : List ℕ → List ℕ
padded front = front ++ replicate (512 - length front) 0

-- what page 0 says beside the kind's number: the shape, the levels h, the used slots, the root's slot, and n, the
-- changes that were accepted since format
pub record Header : Type 0 where
  pub shape : Shape
  pub levels : ℕ
  pub used : ℕ
  pub root : ℕ
  pub changes : ℕ

-- byte 0 kind number, 1 f, 2–3 σ, 4 E, 5 levels, 6–7 used slots, 8–9 root slot, 10–13 changes
abbrev pub header_page : ℕ → Header → List ℕ
header_page kind h = padded (
    kind ∷ h.shape.fanout ∷ (bytes_of 2 h.shape.capacity
    ++ (h.shape.per_page ∷ h.levels ∷ (bytes_of 2 h.used ++ (bytes_of 2 h.root ++ bytes_of 4 h.changes)))))

-- A node page: byte 0 the number of children, 1–2 the number of entries, then the slots of the children and the s-keys
-- between them. (An s-key tells which of two neighbouring children a key belongs to.)
unfoldable pub node_page : List ℕ → List (List ℕ) → ℕ → List ℕ
node_page children s_keys entries =
    padded (length children ∷ (bytes_of 2 entries ++ (flat_map (bytes_of 2) children ++ flat_map (λ key. key) s_keys)))

-- a head page: byte 0 the number of leaf pages filled, then the first key on each
unfoldable pub head_page : List (List ℕ) → List ℕ
head_page first_keys = padded (length first_keys ∷ flat_map (λ key. key) first_keys)

-- an entry whose key and value are bytes
abbrev pub ByteEntry : Type 0
ByteEntry = Entry (List ℕ) (List ℕ)

-- the bytes of a value so many bytes wide; a tombstone's are zeros
abbrev pub value_bytes : ℕ → Option (List ℕ) → List ℕ
value_bytes width None = replicate width 0
value_bytes width (Some value) = value

abbrev pub entry_bytes : Kind → ByteEntry → List ℕ
entry_bytes kind e = e.key ++ value_bytes kind.value_width e.value

abbrev pub mark_of : Option (List ℕ) → ℕ
mark_of None = 1
mark_of (Some value) = 0

-- the mark word: the bit worth 2^i marks entry i as a tombstone
unfoldable pub mark_word : List ByteEntry → ℕ
mark_word [] = 0
mark_word (e ∷ es) = mark_of e.value + 2 * mark_word es

-- a leaf page: byte 0 the number of its entries, 1–8 the mark word, then the entries, key before value
unfoldable pub leaf_page : Kind → List ByteEntry → List ℕ
leaf_page kind es = padded (length es ∷ (bytes_of 8 (mark_word es) ++ flat_map (entry_bytes kind) es))
