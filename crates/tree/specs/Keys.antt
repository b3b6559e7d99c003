-- The order of a record kind as a test of byte strings. A kind orders its valid keys alone, and an index holds no
-- others; so that the laws need not speak of validity, all other strings come after them, in the order of their bytes.
use Rattle.std.specs.Prelude.{◌≡◌, ℕ, Bool, true, false, cond, List, [], ◌∷◌, ◌==◌, nat_lt}
use Rattle.std.specs.Ordering.{is_lt}
use Rattle.records.specs.Kind.{Kind, Lawful}
use Rattle.tree.specs.Order.{Ordered}

abbrev pub bytes_below : List ℕ → List ℕ → Bool
bytes_below [] [] = false
bytes_below [] (y ∷ ys) = true
bytes_below (x ∷ xs) [] = false
bytes_below (x ∷ xs) (y ∷ ys) = cond (nat_lt x y) true (cond (x == y) (bytes_below xs ys) false)

abbrev pub key_below : Kind → List ℕ → List ℕ → Bool
key_below kind a b =
    cond (kind.valid_key a)
    (cond (kind.valid_key b) (is_lt (kind.order a b)) true)
    (cond (kind.valid_key b) false (bytes_below a b))

-- the test orders all byte strings, and valid keys as the kind orders them
abbrev pub KindsOrderKeys : Type 0
KindsOrderKeys = (kind : Kind) → Lawful kind →
    Ordered (key_below kind)
    × ((a b : List ℕ) → kind.valid_key a ≡ true → kind.valid_key b ≡ true →
    key_below kind a b ≡ is_lt (kind.order a b))
