-- The numbers and bytes of a script line.
use Rattle.std.specs.Prelude.{ℕ, ◌+◌, ◌-◌, ◌*◌, ◌/◌, ◌%◌, ◌^◌, min, Bool, cond, ◌&&◌, List, [], ◌∷◌, length, Some, None, Option, ◌==◌, nat_le, nat_lt}
use Rattle.records.specs.Tests.{between, every}

-- '0' to '9'
abbrev pub is_digit : ℕ → Bool
is_digit = between 48 57

-- the number that decimal digits write, after a number that came before them
abbrev pub decimal_after : ℕ → List ℕ → ℕ
decimal_after n [] = n
decimal_after n (d ∷ ds) = decimal_after (n * 10 + (d - 48)) ds

-- A number of any length; 2^64 - 1 stands for every number from there on, which is out of every limit.
abbrev pub decimal_of : List ℕ → Option ℕ
decimal_of text =
    cond (nat_le 1 (length text) && every is_digit text) (Some (min (decimal_after 0 text) (2 ^ 64 - 1))) None

-- the value of a hex digit, '0' to '9' or 'a' to 'f'
abbrev pub hex_digit_of : ℕ → Option ℕ
hex_digit_of c = cond (between 48 57 c) (Some (c - 48)) (cond (between 97 102 c) (Some (c - 97 + 10)) None)

-- the byte of two digits' values
abbrev pub joined_digits : Option ℕ → Option ℕ → Option ℕ
joined_digits (Some high) (Some low) = Some (high * 16 + low)
joined_digits (Some high) None = None
joined_digits None low = None

-- the byte that two hex digits write
abbrev pub hex_byte_of : ℕ → ℕ → Option ℕ
hex_byte_of high low = joined_digits (hex_digit_of high) (hex_digit_of low)

-- a byte in front of what the rest writes
abbrev pub in_front : Option ℕ → Option (List ℕ) → Option (List ℕ)
in_front (Some b) (Some bs) = Some (b ∷ bs)
in_front (Some b) None = None
in_front None bs = None

-- the bytes that pairs of hex digits write
abbrev pub pairs_written : List ℕ → Option (List ℕ)
pairs_written [] = Some []
pairs_written (c ∷ []) = None
pairs_written (high ∷ low ∷ rest) = in_front (hex_byte_of high low) (pairs_written rest)

-- the same for a whole word: '-' writes no bytes, and nothing does not
abbrev pub bytes_written : List ℕ → Option (List ℕ)
bytes_written [] = None
bytes_written (c ∷ []) = cond (c == 45) (Some []) None
bytes_written (c ∷ d ∷ rest) = pairs_written (c ∷ d ∷ rest)

-- the hex digit of a value below 16
abbrev pub digit_shown : ℕ → ℕ
digit_shown v = cond (nat_lt v 10) (48 + v) (87 + v)

-- bytes as pairs of hex digits
abbrev pub pairs_shown : List ℕ → List ℕ
pairs_shown [] = []
pairs_shown (b ∷ bs) = digit_shown (b / 16) ∷ digit_shown (b % 16) ∷ pairs_shown bs

-- the same for a whole word: '-' for no bytes
abbrev pub bytes_shown : List ℕ → List ℕ
bytes_shown [] = 45 ∷ []
bytes_shown (b ∷ bs) = pairs_shown (b ∷ bs)
