-- Reading and showing bytes pair by pair.
use Rattle.std.proofs.Common.{◌≡◌, ℕ, zero, suc, ◌+◌, ◌*◌, ◌/◌, ◌%◌, ◌^◌, ◌-◌, ◌<◌, false, List, [], ◌∷◌, ◌++◌, length, get_or, take, drop, Some, None, Option, option_map, sym, ap, ◌∙◌, refl, append_assoc, arith}
use Rattle.std.proofs.lemmas.List.{drop_more, take_more}
use Rattle.std.proofs.lemmas.Fmt.{hex_byte}
use Rattle.std.specs.Fmt.{digits, digits_output, format_spec, padded_integral, styled_digits_output}
use Rattle.std.specs.Simd.{first_chunks}
use Rattle.script_words.specs.Words.{hex_byte_of, in_front, pairs_written, digit_shown, pairs_shown}

-- the same of digits that stand in pairs
abbrev pub chunks_written : List (List ℕ) → Option (List ℕ)
chunks_written [] = Some []
chunks_written (p ∷ ps) = in_front (hex_byte_of (get_or p 0 0) (get_or p 1 0)) (chunks_written ps)

-- what is written behind bytes that were read before
abbrev pub behind : List ℕ → Option (List ℕ) → Option (List ℕ)
behind bs o = option_map (λ rest. bs ++ rest) o

in_front_none : (o : Option ℕ) → in_front o None ≡ None
in_front_none None = refl
in_front_none (Some b) = refl

pub written_odd : (text : List ℕ) → length text % 2 ≡ 1 → pairs_written text ≡ None
written_odd [] h = absurd (omega arith)
written_odd (c ∷ []) h = refl
written_odd (c ∷ d ∷ rest) h =
    ap (in_front (hex_byte_of c d)) (written_odd rest (omega arith)) ∙ in_front_none (hex_byte_of c d)

pub written_even :
    (k : ℕ) (text : List ℕ) → length text ≡ k * 2
    → pairs_written text ≡ chunks_written (first_chunks 2 k text)
written_even zero [] h = refl
written_even zero (c ∷ rest) h = absurd (omega arith)
written_even (suc k) [] h = absurd (omega arith)
written_even (suc k) (c ∷ []) h = absurd (omega arith)
written_even (suc k) (c ∷ d ∷ rest) h = ap (in_front (hex_byte_of c d)) (written_even k rest (omega arith))

behind_nil : (o : Option (List ℕ)) → behind [] o ≡ o
behind_nil None = refl
behind_nil (Some rest) = refl

behind_more : (bs : List ℕ) (b : ℕ) (o : Option (List ℕ)) → behind bs (in_front (Some b) o) ≡ behind (bs ++ (b ∷ [])) o
behind_more bs b None = refl
behind_more bs b (Some rest) = ap (λ r. Some r) (sym (append_assoc bs (b ∷ []) rest))

-- before the first pair
pub behind_all :
    (text out : List ℕ) (pairs : List (List ℕ)) → out ≡ [] → pairs ≡ first_chunks 2 (length text / 2) text
    → length text % 2 ≡ 0 → pairs_written text ≡ behind out (chunks_written (drop 0 pairs))
behind_all text out pairs e f h =
    written_even (length text / 2) text (omega arith) ∙ ap chunks_written (sym f)
    ∙ sym (behind_nil (chunks_written pairs)) ∙ ap (λ o. behind o (chunks_written pairs)) (sym e)

-- from one pair to the next
pub behind_next :
    (out more : List ℕ) (pairs : List (List ℕ)) (i b : ℕ) → i < length pairs → more ≡ out ++ (b ∷ [])
    → Some b ≡ hex_byte_of (get_or (get_or pairs i []) 0 0) (get_or (get_or pairs i []) 1 0)
    → behind out (chunks_written (drop i pairs)) ≡ behind more (chunks_written (drop (i + 1) pairs))
behind_next out more pairs i b h m e =
    let rest = chunks_written (drop (i + 1) pairs) in
    ap (λ ps. behind out (chunks_written ps)) (drop_more pairs i [] h) ∙ ap (λ o. behind out (in_front o rest)) (sym e)
    ∙ behind_more out b rest ∙ ap (λ bs. behind bs rest) (sym m)

shown_more : (bs cs : List ℕ) → pairs_shown (bs ++ cs) ≡ pairs_shown bs ++ pairs_shown cs
shown_more [] cs = refl
shown_more (b ∷ bs) cs = ap (λ r. digit_shown (b / 16) ∷ digit_shown (b % 16) ∷ r) (shown_more bs cs)

-- one byte more is shown
pub shown_next :
    (bs : List ℕ) (i : ℕ) → i < length bs
    → pairs_shown (take i bs) ++ (digit_shown (get_or bs i 0 / 16) ∷ digit_shown (get_or bs i 0 % 16) ∷ [])
    ≡ pairs_shown (take (i + 1) bs)
shown_next bs i h =
    sym (shown_more (take i bs) (get_or bs i 0 ∷ [])) ∙ sym (ap pairs_shown (take_more bs i 0 h))

-- what `{:02x}` prints of a byte
pub byte_printed :
    (d : _) (s : _) (b : ℕ) → b < 256 → digits_output d ≡ Some (digits 16 false b)
    → s ≡ format_spec 32 0 4 2 (2 ^ 64 - 1)
    → styled_digits_output d s ≡ Some (digit_shown (b / 16) ∷ digit_shown (b % 16) ∷ [])
byte_printed d s b small e f =
    ap (λ t. styled_digits_output d t) f
    ∙ ap (option_map (padded_integral (format_spec 32 0 4 2 (2 ^ 64 - 1)) false [])) e
    ∙ ap (λ t. Some t) (hex_byte false b small)
