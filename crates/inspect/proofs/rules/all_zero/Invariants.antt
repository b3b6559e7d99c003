use Rattle.std.proofs.Common.{◌≡◌, ◌&&◌, eqb, drop}
use Rattle.layout.specs.Checked.{zeros}
use Rattle.inspect.proofs.rules.all_zero.Given as goal

abbrev pub invariant-loop-b : goal.invariant-loop-b
invariant-loop-b l = (eqb l.largest 0 && zeros (drop l.b-index l.bytes)) ≡ zeros l.bytes
