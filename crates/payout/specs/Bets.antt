-- A ticket's value, taken apart: race, pool, three runners, stake in four bytes, state.
use Rattle.std.specs.Prelude.{◌≡◌, ℕ, cond, ◌⊎◌, List, [], ◌∷◌, Some, None, Option, Ok, Err, Result, ◌==◌, slice_index}
use Rattle.std.specs.Result.{result_ok}
use Rattle.records.specs.Bytes.{field}
use Rattle.payout.specs.declared.bet.Bet.{Bet}
use Rattle.payout.specs.declared.bet.Nameless.{Nameless}
use Rattle.records.specs.declared.pools.Pool.{Pool}
use Rattle.records.specs.Pools.{pool_numbered}
use Rattle.payout.specs.declared.bet.TicketState.{TicketState}
use Rattle.payout.specs.declared.bet.TicketState.TheVariants.{Sold, Paid, Void}

abbrev pub pool_of : ℕ → Option Pool
pool_of n = result_ok (pool_numbered n)

abbrev pub state_of : ℕ → Option TicketState
state_of n = cond (n == 1) (Some Sold) (cond (n == 2) (Some Paid) (cond (n == 3) (Some Void) None))

-- each field is the value's; there is a bet unless the pool or the state has no name
abbrev pub Taken : List ℕ → Result Bet Nameless → Type 0
Taken v (Err e) = (pool_of (slice_index v 1) ≡ None) ⊎ (state_of (slice_index v 9) ≡ None)
Taken v (Ok b) =
    (b.race ≡ slice_index v 0) × (Some b.pool ≡ pool_of (slice_index v 1))
    × (b.runners ≡ slice_index v 2 ∷ slice_index v 3 ∷ slice_index v 4 ∷ [])
    × (b.stake ≡ field 5 4 v) × (Some b.state ≡ state_of (slice_index v 9))
