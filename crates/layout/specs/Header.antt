-- What the code's headers stand for, and what a store holds after an empty index was written to it.
use Rattle.std.specs.Prelude.{ℕ, ◌+◌, ◌/◌, ◌%◌, ◌^◌, List, [], ◌∷◌, slice_set}
use Rattle.shape.specs.Shape.{Shape}
use Rattle.shape.specs.Made.{chosen}
use Rattle.stores.specs.Store.{StoreState}
use Rattle.layout.specs.Pages.{Header, header_page, node_page, head_page}
use Rattle.layout.specs.declared.header.Header as code

abbrev pub header_of : code.Header → Header
header_of h = record {
  shape = chosen h.shape;
  levels = h.levels;
  used = h.used;
  root = h.root;
  changes = h.changes;
}

-- an index of one empty leaf node, in slot 0
abbrev pub empty_header : Shape → Header
empty_header shape = record { shape = shape; levels = 1; used = 1; root = 0; changes = 0 }

-- so many pages more were touched
abbrev pub touched_more : ℕ → ℕ → ℕ
touched_more touches count = (count + touches) % 2 ^ 64

-- page 0, and the node page and head page of slot 0, which has no child and no entry
abbrev pub empty_pages : ℕ → Shape → List (List ℕ) → List (List ℕ)
empty_pages kind shape pages =
    slice_set (slice_set (slice_set pages 2 (head_page [])) 1 (node_page [] [] 0)) 0 (header_page kind (empty_header shape))

abbrev pub emptied : ℕ → Shape → StoreState → StoreState
emptied kind shape s = record { pages = empty_pages kind shape s.pages; count = touched_more 3 s.count }

-- numbers of two and of four bytes, in front of other bytes
abbrev pub two_bytes : ℕ → List ℕ → List ℕ
two_bytes n rest = n / 256 % 256 ∷ n % 256 ∷ rest

abbrev pub four_bytes : ℕ → List ℕ → List ℕ
four_bytes n rest = n / 16777216 % 256 ∷ n / 65536 % 256 ∷ n / 256 % 256 ∷ n % 256 ∷ rest

-- the bytes of page 0 that are named, one by one
abbrev pub header_front : ℕ → Header → List ℕ
header_front kind h =
    kind ∷ h.shape.fanout ∷ two_bytes h.shape.capacity
    (h.shape.per_page ∷ h.levels ∷ two_bytes h.used (two_bytes h.root (four_bytes h.changes [])))
