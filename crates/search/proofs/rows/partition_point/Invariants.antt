use Rattle.std.proofs.Common.{◌≡◌, ◌+◌, ◌≤◌, ◌-◌, ℕ, Bool, List, Bor}
use Rattle.layout.specs.Rows.{key_in, Halved}
use Rattle.search.proofs.rows.partition_point.Given as goal

abbrev pub invariant-loop-low : goal.invariant-loop-low
invariant-loop-low g l =
    (l.low ≤ l.high) × (l.high ≤ l.row.count)
    × ((test : List ℕ → Bool)
    → ((key : Bor (List ℕ)) (answer : Bool) → goal.F-post g l.passes key answer → answer ≡ test key.now)
    → Halved (λ i. test (key_in l.row.key_width (l.row.key_width + l.row.value_width) l.row.bytes.now i))
    l.row.count l.low l.high)

abbrev pub decreases-loop-low : goal.decreases-loop-low
decreases-loop-low g l = l.high - l.low
