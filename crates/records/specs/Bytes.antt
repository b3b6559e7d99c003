-- Bytes, and the numbers that they write, highest byte first.
use Rattle.std.specs.Prelude.{ℕ, zero, suc, ◌/◌, ◌%◌, Bool, List, [], ◌∷◌, ◌++◌, take, drop, nat_lt}
use Rattle.std.specs.Int.Digits.{number_from_digits}
use Rattle.records.specs.Tests.{every}

-- whether every number is a byte
abbrev pub bytes : List ℕ → Bool
bytes = every (λ b. nat_lt b 256)

-- the number that bytes write
abbrev pub word : List ℕ → ℕ
word = number_from_digits 256

-- the number in so many bytes from a place on
abbrev pub field : ℕ → ℕ → List ℕ → ℕ
field at width bs = word (take width (drop at bs))

-- the lowest so many bytes of a number
unfoldable pub bytes_of : ℕ → ℕ → List ℕ
bytes_of zero x = []
bytes_of (suc n) x = bytes_of n (x / 256) ++ x % 256 ∷ []
