-- Entries in a row, and the place where a key divides them.
use Rattle.std.specs.Prelude.{◌≡◌, ℕ, suc, ◌+◌, ◌-◌, ◌*◌, ◌/◌, ◌<◌, ◌≤◌, Bool, true, false, List, take, drop}

-- key i of a row, each w bytes wide and at the start of `stride` bytes
abbrev pub key_in : (w stride : ℕ) → List ℕ → ℕ → List ℕ
key_in w stride bytes i = take w (drop (i * stride) bytes)

-- the v value bytes behind key i
abbrev pub value_in : (w v stride : ℕ) → List ℕ → ℕ → List ℕ
value_in w v stride bytes i = take v (drop w (drop (i * stride) bytes))

-- Place r divides n places by a test: the one in front of it passes, and the one at it does not. In a row where all
-- that pass stand in front, so many pass.
pub record Divides (test : ℕ → Bool) (n r : ℕ) : Type 0 where
  pub within : r ≤ n
  pub left : (i : ℕ) → suc i ≡ r → test i ≡ true
  pub right : r < n → test r ≡ false

-- the place in the middle between two ends
abbrev pub halfway : (low high : ℕ) → ℕ
halfway low high = low + (high - low) / 2

-- A row of n places is halved down to two ends: the place in front of the low end passes, and the one at the high end
-- does not. Where the two meet, the row is divided.
pub record Halved (test : ℕ → Bool) (n low high : ℕ) : Type 0 where
  pub left : (i : ℕ) → suc i ≡ low → test i ≡ true
  pub right : high < n → test high ≡ false
