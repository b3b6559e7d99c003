-- A store of which pages were read: its pages are as before, and its count went on by at most so many.
use Rattle.std.specs.Prelude.{◌≡◌, ℕ, ◌+◌, ◌%◌, ◌^◌, ◌≤◌}
use Rattle.stores.specs.Store.{StoreState}

-- the count went on by some number, at most `most`
abbrev pub Within : ℕ → ℕ → ℕ → Type 0
Within most before after = (k : ℕ) × (k ≤ most) × (after ≡ (before + k) % 2 ^ 64)

pub record Looked (before : StoreState) (most : ℕ) (after : StoreState) : Type 0 where
  pub pages : after.pages ≡ before.pages
  pub touches : Within most before.count after.count
