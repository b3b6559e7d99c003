use Rattle.std.proofs.Common.{◌≡◌, ◌+◌, ◌-◌, ℕ, Bool, List, Bor}
use Rattle.layout.specs.Rows.{key_in, Halved}
use Rattle.examples.proofs.row_tests.partition_point.Given as goal

abbrev pub invariant-loop-key : goal.invariant-loop-key
invariant-loop-key g l =
    (l.halving.row ≡ l.row)
    × ((test : List ℕ → Bool)
    → ((key : Bor (List ℕ)) (answer : Bool) → goal.F-post g l.passes key answer → answer ≡ test key.now)
    → Halved (λ i. test (key_in l.row.key_width (l.row.key_width + l.row.value_width) l.row.bytes.now i))
    l.row.count l.halving.low l.halving.high)

abbrev pub decreases-loop-key : goal.decreases-loop-key
decreases-loop-key g l = l.halving.high - l.halving.low
