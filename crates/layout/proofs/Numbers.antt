-- Numbers on pages, byte by byte.
use Rattle.std.proofs.Common.{◌≡◌, ℕ, ◌+◌, ◌*◌, ◌<◌, ◌≤◌, List, [], ◌∷◌, length, get_or, take, ap, ◌∙◌, arith}
use Rattle.std.proofs.lemmas.List.{drop_more}
use Rattle.records.specs.Bytes.{word, field}
use Rattle.layout.specs.LeafPages.{marks_on}

pub two_at : (at : ℕ) (bs : List ℕ) → at + 1 < length bs → field at 2 bs ≡ get_or bs at 0 * 256 + get_or bs (at + 1) 0
two_at at bs h =
    let a = drop_more bs at 0 (omega arith) in
    let b = drop_more bs (at + 1) 0 h in
    ap (λ xs. word (take 2 xs)) (a ∙ ap (λ xs. get_or bs at 0 ∷ xs) b) ∙ omega arith

-- the eight bytes of the mark word
pub mark_bytes :
    (page : List ℕ) → 9 ≤ length page
    → marks_on page
    ≡ get_or page 1 0 * 72057594037927936 + get_or page 2 0 * 281474976710656 + get_or page 3 0 * 1099511627776
    + get_or page 4 0 * 4294967296 + get_or page 5 0 * 16777216 + get_or page 6 0 * 65536 + get_or page 7 0 * 256
    + get_or page 8 0
mark_bytes (a ∷ b ∷ c ∷ d ∷ e ∷ f ∷ g ∷ h ∷ i ∷ rest) l = omega arith
mark_bytes [] l = absurd (omega arith)
mark_bytes (a ∷ []) l = absurd (omega arith)
mark_bytes (a ∷ b ∷ []) l = absurd (omega arith)
mark_bytes (a ∷ b ∷ c ∷ []) l = absurd (omega arith)
mark_bytes (a ∷ b ∷ c ∷ d ∷ []) l = absurd (omega arith)
mark_bytes (a ∷ b ∷ c ∷ d ∷ e ∷ []) l = absurd (omega arith)
mark_bytes (a ∷ b ∷ c ∷ d ∷ e ∷ f ∷ []) l = absurd (omega arith)
mark_bytes (a ∷ b ∷ c ∷ d ∷ e ∷ f ∷ g ∷ []) l = absurd (omega arith)
mark_bytes (a ∷ b ∷ c ∷ d ∷ e ∷ f ∷ g ∷ h ∷ []) l = absurd (omega arith)
