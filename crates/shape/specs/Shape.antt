-- The numbers of an index. Three are chosen; the others follow from them.
use Rattle.std.specs.Prelude.{ℕ, ◌+◌, ◌-◌, ◌*◌, ◌/◌, min, Bool, ◌&&◌, nat_le}
use Rattle.records.specs.Tests.{between}

-- What is chosen: f, the most children of a node; σ, the most entries of a node; E, the entries of a full leaf page.
pub record Shape : Type 0 where
  pub fanout : ℕ
  pub capacity : ℕ
  pub per_page : ℕ

-- a quotient, rounded up
abbrev pub ceiling : ℕ → ℕ → ℕ
ceiling n d = (n + (d - 1)) / d

-- q: how many entries one batch moves
abbrev pub batch_of : Shape → ℕ
batch_of s = s.capacity / (s.fanout + 1)

-- L: the leaf pages of a slot
abbrev pub leaf_pages_of : Shape → ℕ
leaf_pages_of s = ceiling s.capacity s.per_page

-- W: the pages of a slot, which are a node page, a head page and the leaf pages
abbrev pub slot_pages_of : Shape → ℕ
slot_pages_of s = 2 + leaf_pages_of s

-- u: the fewest children of an inner node that is not the root
abbrev pub least_children_of : Shape → ℕ
least_children_of s = ceiling s.fanout 2

-- g: every g accepted changes make room for at most one more leaf node
abbrev pub changes_per_leaf_of : Shape → ℕ
changes_per_leaf_of s = s.capacity + 1 - ceiling (s.capacity + batch_of s) 2

-- N: the slots of a store of so many pages; page 0 is no slot's
abbrev pub slots_of : Shape → ℕ → ℕ
slots_of s pages = min 1024 ((pages - 1) / slot_pages_of s)

-- The bytes of the work area that a change borrows, for records (key and value) of so many bytes.
abbrev pub work_bytes_of : Shape → ℕ → ℕ
work_bytes_of s record_width = (2 * s.capacity + batch_of s) * (record_width + 1)

-- Whether records of so many bytes may be kept in this shape: a leaf page has 503 bytes for its entries.
abbrev pub legal : ℕ → Shape → Bool
legal record_width s =
    between 3 8 s.fanout
    && between (s.fanout + 1) 256 s.capacity
    && between 1 64 s.per_page
    && nat_le (s.per_page * record_width) 503
    && nat_le (leaf_pages_of s) 16
