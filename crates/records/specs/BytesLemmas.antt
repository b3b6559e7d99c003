-- Bytes and the numbers that they write: each determines the other, since every digit is below the base 256.
use Rattle.std.specs.Prelude.{◌≡◌, ℕ, zero, suc, ◌+◌, ◌*◌, ◌/◌, ◌%◌, ◌^◌, ◌<◌, true, List, [], ◌∷◌, ◌++◌, length, take, nat_lt, slice_index, slice_index_or, refl}
use Rattle.std.proofs.Common.{sym, ap, ◌∙◌, pow-suc, arith, take-suc}
use Rattle.std.specs.List.{AllByRecursion}
use Rattle.std.proofs.lemmas.Int.Digits.{number_push}
use Rattle.std.proofs.ByRecursion.{All-take, All-get_or}
use Rattle.std.proofs.lemmas.Bool.{and_parts, and_from, ltb-true, lt-ltb}
use Rattle.std.proofs.lemmas.List.{length-take-le, take_all, length_push, drop_more}
use Rattle.records.specs.Bytes.{bytes, word, field, bytes_of}

pub all_bytes : (xs : List ℕ) → bytes xs ≡ true → AllByRecursion (λ b. b < 256) xs
all_bytes [] h = tt
all_bytes (x ∷ xs) h =
    let p = and_parts (nat_lt x 256) (bytes xs) h in (ltb-true x 256 p.0, all_bytes xs p.1)

pub bytes_all : (xs : List ℕ) → AllByRecursion (λ b. b < 256) xs → bytes xs ≡ true
bytes_all [] h = refl
bytes_all (x ∷ xs) h = and_from (nat_lt x 256) (bytes xs) (lt-ltb x 256 h.0) (bytes_all xs h.1)

pub bytes_from : (xs : List ℕ) → ((i : ℕ) → slice_index xs i < 256) → bytes xs ≡ true
bytes_from [] f = refl
bytes_from (x ∷ xs) f =
    and_from (nat_lt x 256) (bytes xs) (lt-ltb x 256 (f 0)) (bytes_from xs (λ i. f (suc i)))

pub length-bytes_of : (n x : ℕ) → length (bytes_of n x) ≡ n
unfolding bytes_of
length-bytes_of zero x = refl
length-bytes_of (suc n) x = omega (arith, length_push (bytes_of n (x / 256)) (x % 256), length-bytes_of n (x / 256))

pub word_bytes_of : (n x : ℕ) → x < 256 ^ n → word (bytes_of n x) ≡ x
unfolding bytes_of
word_bytes_of zero x h = omega arith
word_bytes_of (suc n) x h =
    let p : 256 ^ suc n ≡ 256 ^ n * 256 = pow-suc 256 n in
    omega (arith, number_push 256 (bytes_of n (x / 256)) (x % 256), word_bytes_of n (x / 256) (omega arith))

pub bytes_of_word : (n : ℕ) (xs : List ℕ) → length xs ≡ n → AllByRecursion (λ b. b < 256) xs → bytes_of n (word xs) ≡ xs
unfolding bytes_of
bytes_of_word zero [] e h = refl
bytes_of_word zero (x ∷ xs) e h = absurd (omega arith)
bytes_of_word (suc n) xs e h =
    let last = slice_index_or xs n 0 in
    let cut : xs ≡ take n xs ++ last ∷ [] =
    sym (take_all (suc n) xs (omega arith)) ∙ take-suc xs n 0 (omega arith) in
    let low = All-get_or (λ b. b < 256) xs n 0 (omega arith) h in
    let w : word xs ≡ word (take n xs) * 256 + last = ap word cut ∙ number_push 256 (take n xs) last in
    let q : word xs / 256 ≡ word (take n xs) = omega arith in
    let r : word xs % 256 ≡ last = omega arith in
    let front = bytes_of_word n (take n xs) (length-take-le n xs (omega arith)) (All-take (λ b. b < 256) n xs h) in
    rw (q, r) (ap (λ ys. ys ++ last ∷ []) front ∙ sym cut)

pub bytes_of_two : (x : ℕ) → bytes_of 2 x ≡ x / 256 % 256 ∷ x % 256 ∷ []
unfolding bytes_of
bytes_of_two x = refl

pub bytes_of_four : (x : ℕ) → bytes_of 4 x ≡ x / 16777216 % 256 ∷ x / 65536 % 256 ∷ x / 256 % 256 ∷ x % 256 ∷ []
unfolding bytes_of
bytes_of_four x =
    let a : x / 256 / 256 / 256 ≡ x / 16777216 = omega arith in
    let b : x / 256 / 256 ≡ x / 65536 = omega arith in
    cc

pub field_one : (at : ℕ) (bs : List ℕ) → at < length bs → field at 1 bs ≡ slice_index bs at
field_one at bs h = ap (λ xs. word (take 1 xs)) (drop_more bs at 0 h) ∙ omega arith
