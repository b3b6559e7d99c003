-- Tests of numbers and of lists of numbers.
use Rattle.std.specs.Prelude.{ℕ, Bool, true, not, ◌&&◌, List, [], ◌∷◌, ◌==◌, nat_le, nat_lt}

abbrev pub between : ℕ → ℕ → ℕ → Bool
between low high n = nat_le low n && nat_le n high

-- whether all pass
abbrev pub every : (ℕ → Bool) → List ℕ → Bool
every test [] = true
every test (x ∷ xs) = test x && every test xs

-- whether no two are the same
abbrev pub distinct : List ℕ → Bool
distinct [] = true
distinct (x ∷ xs) = every (λ y. not (x == y)) xs && distinct xs

-- whether each is above the one before it
abbrev pub ascending : List ℕ → Bool
ascending [] = true
ascending (x ∷ xs) = every (λ y. nat_lt x y) xs && ascending xs
