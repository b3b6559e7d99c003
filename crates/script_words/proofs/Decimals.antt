-- Reading digits from the left: a number that has passed the limit stays past it, so it may be cut there at every
-- digit.
use Rattle.std.proofs.Common.{◌≡◌, ℕ, ◌+◌, ◌-◌, ◌*◌, ◌^◌, ◌<◌, ◌≤◌, min, true, false, cond, ◌&&◌, leb, List, [], ◌∷◌, length, get_or, drop, Some, None, sym, ap, ◌∙◌, ⊎_elim, arith}
use Rattle.std.proofs.lemmas.List.{drop_more, drop_all}
use Rattle.std.proofs.lemmas.Bool.{cases_lt, le-leb, and_right, and_from}
use Rattle.records.specs.Tests.{every}
use Rattle.script_words.specs.Words.{is_digit, decimal_after, decimal_of}

abbrev pub limit : ℕ
limit = 2 ^ 64 - 1

grows : (n : ℕ) (ds : List ℕ) → n ≤ decimal_after n ds
grows n [] = omega arith
grows n (d ∷ ds) = omega (arith, grows (n * 10 + (d - 48)) ds)

cut_before : (n : ℕ) (ds : List ℕ) → min (decimal_after (min n limit) ds) limit ≡ min (decimal_after n ds) limit
cut_before n ds = ⊎_elim
    (λ lt. let e : min n limit ≡ n = omega arith in ap (λ m. min (decimal_after m ds) limit) e)
    (λ le.
    let e : min n limit ≡ limit = omega arith in
    ap (λ m. min (decimal_after m ds) limit) e ∙ omega (arith, grows limit ds, grows n ds))
    (cases_lt n limit)

-- what the digits from i on do to n is what the whole text gives
pub record Left (text : List ℕ) (i n : ℕ) : Type 0 where
  pub digits : every is_digit (drop i text) ≡ every is_digit text
  pub number : min (decimal_after n (drop i text)) limit ≡ min (decimal_after 0 text) limit
  pub small : n ≤ limit

pub left_more :
    (text : List ℕ) (i n m : ℕ) → i < length text → is_digit (get_or text i 0) ≡ true
    → m ≡ min (min (n * 10) limit + (get_or text i 0 - 48)) limit → Left text i n → Left text (i + 1) m
left_more text i n m h digit is t =
    let d = get_or text i 0 in
    let cut : drop i text ≡ d ∷ drop (i + 1) text = drop_more text i 0 h in
    let e : m ≡ min (n * 10 + (d - 48)) limit = omega arith in
    record {
      digits = sym (ap (λ b. b && every is_digit (drop (i + 1) text)) digit) ∙ sym (ap (every is_digit) cut) ∙ t.digits;
      number = ap (λ k. min (decimal_after k (drop (i + 1) text)) limit) e
          ∙ cut_before (n * 10 + (d - 48)) (drop (i + 1) text)
          ∙ sym (ap (λ ds. min (decimal_after n ds) limit) cut) ∙ t.number;
      small = omega arith;
    }

pub left_wrong :
    (text : List ℕ) (i n : ℕ) → i < length text → is_digit (get_or text i 0) ≡ false → Left text i n
    → decimal_of text ≡ None
left_wrong text i n h wrong t =
    let d = get_or text i 0 in
    let none : every is_digit text ≡ false =
    sym t.digits ∙ ap (every is_digit) (drop_more text i 0 h)
    ∙ ap (λ b. b && every is_digit (drop (i + 1) text)) wrong in
    ap (λ b. cond b (Some (min (decimal_after 0 text) limit)) None) (and_right (leb 1 (length text)) _ none)

pub left_all :
    (text : List ℕ) (i n : ℕ) → 1 ≤ length text → length text ≤ i → Left text i n
    → Some n ≡ decimal_of text
left_all text i n some h t =
    let all : drop i text ≡ [] = drop_all i text h in
    let digits : every is_digit text ≡ true = sym t.digits ∙ ap (every is_digit) all in
    let both = and_from (leb 1 (length text)) (every is_digit text) (le-leb 1 (length text) some) digits in
    let value : n ≡ min (decimal_after 0 text) limit =
    omega (arith, sym t.number ∙ ap (λ ds. min (decimal_after n ds) limit) all) in
    ap (λ m. Some m) value ∙ sym (ap (λ b. cond b (Some (min (decimal_after 0 text) limit)) None) both)
