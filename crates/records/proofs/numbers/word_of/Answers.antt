use Rattle.std.proofs.Common.{◌≡◌, ℕ, ◌+◌, ◌*◌, ◌^◌, ◌<◌, ◌≤◌, ap, ◌∙◌, pow-suc, add-one, arith}
use native.Mathlib.Nat.{pow-le-pow_right}
use Rattle.std.proofs.lemmas.Int.Digits.{number_more}
use Rattle.std.proofs.lemmas.List.{take_all}
use Rattle.records.specs.Bytes.{word}
use Rattle.records.proofs.numbers.word_of.Goals as goal

-- at most seven bytes were read before this one
small : (n i : ℕ) → n < 256 ^ i → i < 8 → n < 256 ^ 7
small n i h few = let p : 256 ^ i ≤ 256 ^ 7 = pow-le-pow_right (omega arith) {i = i} {j = 7}
    (omega arith) in omega arith

grows : (n i b : ℕ) → n < 256 ^ i → b < 256 → n * 256 + b < 256 ^ (i + 1)
grows n i b h low = let p : 256 ^ (i + 1) ≡ 256 ^ i * 256 = rw add-one (pow-suc 256 i) in omega arith

pub overflow_mul-n : goal.overflow_mul-n
overflow_mul-n c =
    omega (arith, small c.loop-b.n c.loop-b.b-index c.loop-b.invariant.1 (omega arith))

pub overflow_add-n : goal.overflow_add-n
overflow_add-n c =
    omega (arith, small c.loop-b.n c.loop-b.b-index c.loop-b.invariant.1 (omega arith))

pub loop-b-preserved : goal.loop-b-preserved
loop-b-preserved c =
    let i = c.loop-b.b-index in
    let more = number_more 256 c.args.bytes.now i (omega arith) in
    (omega (arith, more, c.loop-b.invariant.0), grows c.loop-b.n i c.from.result c.loop-b.invariant.1 (omega arith))

pub returns : goal.returns
returns c = c.loop-b.invariant.0 ∙ ap word (take_all _ c.args.bytes.now (omega arith))
