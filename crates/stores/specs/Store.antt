-- What a page store means: its pages, a count of the pages touched, and what reading and writing do to both.
use Rattle.std.specs.Prelude.{◌≡◌, ℕ, ◌+◌, ◌%◌, ◌^◌, ◌<◌, ◌≤◌, List, [], length, slice_index_or, slice_set}
use Rattle.std.specs.List.{AllByRecursion}
use Rattle.stores.specs.declared.StoreFault.{StoreFault}

pub record StoreState : Type 0 where
  pub pages : List (List ℕ)
  pub count : ℕ

abbrev pub page_at : List (List ℕ) → ℕ → List ℕ
page_at pages p = slice_index_or pages p []

-- one page more was touched; the count starts again after 2^64 - 1
abbrev pub touched_once : ℕ → ℕ
touched_once count = (count + 1) % 2 ^ 64

-- What holds of every store: at most 65,535 pages of 512 bytes, and a count of 64 bits.
pub record Lawful (s : StoreState) : Type 0 where
  pub few : length s.pages ≤ 65535
  pub whole : (p : ℕ) → p < length s.pages → length (page_at s.pages p) ≡ 512
  pub bytes : (p : ℕ) → AllByRecursion (λ b. b < 256) (page_at s.pages p)
  pub counted : s.count < 2 ^ 64

-- page p was read: the buffer then holds it, and the store is as after
pub record WasRead (before : StoreState) (p : ℕ) (after : StoreState) (buffer : List ℕ) : Type 0 where
  pub there : p < length before.pages
  pub page : buffer ≡ page_at before.pages p
  pub then : after ≡ record { pages = before.pages; count = touched_once before.count }

-- page p was replaced by what the buffer holds, and no other page
pub record WasWritten (before : StoreState) (p : ℕ) (buffer : List ℕ) (after : StoreState) : Type 0 where
  pub there : p < length before.pages
  pub then : after ≡ record { pages = slice_set before.pages p buffer; count = touched_once before.count }

-- there is no page p: the fault tells p and the number of pages, and nothing changed
pub record NotThere (before : StoreState) (p : ℕ) (after : StoreState) (fault : StoreFault) : Type 0 where
  pub past : length before.pages ≤ p
  pub told : fault ≡ record { page = p; size = length before.pages }
  pub then : after ≡ before
