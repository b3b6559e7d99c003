-- Rows that have room on their page.
use Rattle.std.proofs.Common.{ℕ, ◌+◌, ◌*◌, ◌≤◌, mul-le-mul, arith}

-- t entries of w bytes, where a leaf page has room for n
pub entries_fit : (t n w : ℕ) → t ≤ n → n * w ≤ 503 → 9 + t * w ≤ 512
entries_fit t n w few room = omega (arith, mul-le-mul few (let z : w ≤ w = omega arith in z), room)

-- n keys of w bytes, where at most m have room that are as wide as the widest
pub keys_fit : (n w m : ℕ) → n ≤ m → w ≤ 24 → n * w ≤ m * 24
keys_fit n w m few narrow = mul-le-mul few narrow
