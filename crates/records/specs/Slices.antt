-- A slice holds bytes, so where it has the right length only the other tests of a kind are left.
use Rattle.std.specs.Prelude.{◌≡◌, ℕ, ◌<◌, Bool, true, ◌&&◌, List, length, ◌==◌, slice_index}
use Rattle.std.proofs.lemmas.Bool.{eq-eqb, eqb-true, and_parts}
use Rattle.records.specs.Bytes.{bytes}
use Rattle.records.specs.BytesLemmas.{bytes_from}

pub slice_tested :
    (n : ℕ) (bs : List ℕ) (limits : Bool) → ((i : ℕ) → slice_index bs i < 256) → length bs ≡ n
    → limits ≡ (length bs == n && bytes bs) && limits
slice_tested n bs limits small e = rw (eq-eqb (length bs) n e, bytes_from bs small)

-- what such a test says of its bytes
pub tested_long : (n : ℕ) (bs : List ℕ) (limits : Bool) → (length bs == n && bytes bs) && limits ≡ true
    → length bs ≡ n
tested_long n bs limits h = eqb-true (length bs) n (and_parts _ (bytes bs) (and_parts _ limits h).0).0

pub tested_bytes :
    (n : ℕ) (bs : List ℕ) (limits : Bool) → (length bs == n && bytes bs) && limits ≡ true → bytes bs ≡ true
tested_bytes n bs limits h = (and_parts (length bs == n) _ (and_parts _ limits h).0).1
