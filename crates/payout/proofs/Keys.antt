-- The bytes of a ticket's key one by one.
use Rattle.std.proofs.Common.{◌≡◌, ℕ, ◌/◌, ◌%◌, [], ◌∷◌, ◌++◌}
use Rattle.records.specs.Bytes.{bytes_of}
use Rattle.records.specs.BytesLemmas.{bytes_of_two, bytes_of_four}

pub key_bytes :
    (s c d : ℕ)
    → s / 16777216 % 256 ∷ s / 65536 % 256 ∷ s / 256 % 256 ∷ s % 256
    ∷ c / 256 % 256 ∷ c % 256 ∷ d / 256 % 256 ∷ d % 256 ∷ []
    ≡ bytes_of 4 s ++ (bytes_of 2 c ++ bytes_of 2 d)
key_bytes s c d = rw (bytes_of_four s, bytes_of_two c, bytes_of_two d)
