use Rattle.std.proofs.Common.{◌≡◌, true, drop, sym, ◌∙◌, arith}
use Rattle.std.proofs.lemmas.List.{at_drop_all}
use Rattle.layout.specs.Checked.{zeros}
use Rattle.inspect.proofs.OnPage.{zeros_past, and_true}
use Rattle.inspect.proofs.rules.all_zero.Goals as goal

pub loop-b-preserved : goal.loop-b-preserved
loop-b-preserved c =
    zeros_past c.args.bytes.now c.loop-b.b-index c.loop-b.largest c.max-largest.result (omega arith) c.max-largest.ensures
    ∙ c.loop-b.invariant

pub returns : goal.returns
returns c =
    let none : zeros (drop c.loop-b.b-index c.args.bytes.now) ≡ true = at_drop_all zeros c.args.bytes.now c.loop-b.b-index (omega arith) in
    sym (and_true _ _ none) ∙ c.loop-b.invariant
