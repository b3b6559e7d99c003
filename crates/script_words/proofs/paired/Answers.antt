use Rattle.std.proofs.Common.{rules, sym, ◌∙◌, arith}
use Rattle.script_words.proofs.Pairs.{written_odd, behind_all, behind_next}
use Rattle.script_words.proofs.paired.Goals as goal

pub returns-then-not-is_empty : goal.returns-then-not-is_empty
returns-then-not-is_empty c = sym (written_odd c.args.text.now (grind arith))

pub loop-high-init : goal.loop-high-init
loop-high-init c =
    behind_all c.args.text.now c.new-out.result.items c.as_chunks.result.0.now (search rules) (search rules)
    (grind arith)

pub loop-high-preserved : goal.loop-high-preserved
loop-high-preserved c =
    c.loop-high.invariant
    ∙ behind_next c.loop-high.out.items c.push.new.self.items c.as_chunks.result.0.now c.loop-high.high-index
    c.in-Some.byte (search rules) (search rules) (search rules)
