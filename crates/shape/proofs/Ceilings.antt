-- Quotients rounded up: more entries need no fewer pages, and the last page is not empty.
use Rattle.std.proofs.Common.{◌≡◌, ℕ, ◌+◌, ◌-◌, ◌*◌, ◌/◌, ◌%◌, ◌<◌, ◌≤◌, ap, le-div_iff_mul-le, div-mul-le_self, mul-le-mul_right, ⊎_elim, arith}
use Rattle.std.specs.Int.{div_ceil}
use Rattle.std.proofs.Math.Nat.{mod-lt}
use Rattle.std.proofs.lemmas.Nat.{div-add-mod'}
use Rattle.std.proofs.lemmas.Grind.{div_ceil_times}
use Rattle.std.proofs.lemmas.Bool.{cases_lt}
use Rattle.shape.specs.Shape.{ceiling}

quotient_more : (x y E : ℕ) → 1 ≤ E → x ≤ y → x / E ≤ y / E
quotient_more x y E some le =
    (le-div_iff_mul-le {k = E} {x = x / E} {y = y} (omega arith)).1 (omega (arith, div-mul-le_self x E))

pub ceiling_more : (s t E : ℕ) → 1 ≤ E → s ≤ t → ceiling s E ≤ ceiling t E
ceiling_more s t E some le = quotient_more (s + (E - 1)) (t + (E - 1)) E some (omega arith)

-- so many full pages do not all fit before the entries end
pub ceiling_below : (s E : ℕ) → 1 ≤ E → ceiling s E * E < s + E
ceiling_below s E some = omega (arith, div-mul-le_self (s + (E - 1)) E)

-- entries that fit into a node fill at most 16 leaf pages
pub few_leaves : (σ s E per : ℕ) → per ≡ E → 1 ≤ E → s ≤ σ → ceiling σ E ≤ 16 → ceiling s per ≤ 16
few_leaves σ s E per is some le most =
    let c : ceiling s per ≡ ceiling s E = ap (ceiling s) is in
    omega (arith, c, ceiling_more s σ E some le)

-- one number alone is a quotient rounded up
same_ceiling : (n d p q : ℕ) → n ≤ p * d → p * d < n + d → n ≤ q * d → q * d < n + d → p ≤ q
same_ceiling n d p q lp hp lq hq = ⊎_elim
    (λ less. let next : q + 1 ≤ p = omega arith in
    let m : (q + 1) * d ≤ p * d = mul-le-mul_right d next in
    let e : (q + 1) * d ≡ q * d + d = omega arith in
    absurd (omega arith))
    (λ le. le)
    (cases_lt q p)

-- the library's quotient rounded up is this one
pub ceiling_is : (n d : ℕ) → 1 ≤ d → div_ceil n d ≡ ceiling n d
ceiling_is n d some =
    let theirs = div_ceil_times n d some in
    let below = ceiling_below n d some in
    let parts = div-add-mod' (n + (d - 1)) d in
    let rest : (n + (d - 1)) % d < d = mod-lt (n + (d - 1)) (omega arith) in
    let above : n ≤ ceiling n d * d = omega (arith, parts, rest) in
    let le = same_ceiling n d (div_ceil n d) (ceiling n d) theirs.0 theirs.1 above below in
    let ge = same_ceiling n d (ceiling n d) (div_ceil n d) above below theirs.0 theirs.1 in
    omega arith
