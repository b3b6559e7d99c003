use Rattle.std.proofs.Common.{sym, ◌∙◌, arith}
use Rattle.script_words.proofs.Decimals.{left_wrong, left_more, left_all}
use Rattle.script_words.proofs.decimal.Goals as goal

pub returns-then-not-is_ascii_digit : goal.returns-then-not-is_ascii_digit
returns-then-not-is_ascii_digit c =
    sym (left_wrong c.args.text.now c.loop-b.b-index c.loop-b.n (omega arith)
    (sym c.is_ascii_digit.ensures.value ∙ c.if-not-is_ascii_digit.true) c.loop-b.invariant)

pub loop-b-preserved : goal.loop-b-preserved
loop-b-preserved c =
    left_more c.args.text.now c.loop-b.b-index c.loop-b.n c.saturating_add-n.result
    (omega arith) (sym c.is_ascii_digit.ensures.value ∙ c.if-not-is_ascii_digit.false) (omega arith) c.loop-b.invariant

pub returns : goal.returns
returns c =
    left_all c.args.text.now c.loop-b.b-index c.loop-b.n (grind arith) (omega arith) c.loop-b.invariant
