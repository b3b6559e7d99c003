use Rattle.script_words.proofs.Decimals.{Left}
use Rattle.script_words.proofs.decimal.Given as goal

abbrev pub invariant-loop-b : goal.invariant-loop-b
invariant-loop-b l = Left l.text l.b-index l.n
