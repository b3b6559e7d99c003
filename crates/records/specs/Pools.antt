-- The betting pools: how many runners a bet names, and which runners may stand in it.
use Rattle.std.specs.Prelude.{ℕ, Bool, true, false, cond, ◌&&◌, ◌||◌, List, take, drop, ◌==◌, nat_eq}
use Rattle.std.specs.Prelude.{Some, None, Option, Ok, Err, Result}
use Rattle.records.specs.declared.pools.Pool.{Pool}
use Rattle.records.specs.declared.pools.Pool.TheVariants.{Win, Place, Show, Quinella, Exacta, Trifecta}
use Rattle.records.specs.declared.pools.NoPool.{NoPool}
use Rattle.records.specs.declared.pools.PoolRule.{PoolRule}
use Rattle.records.specs.Tests.{between, every, distinct, ascending}

-- the pool of a number
abbrev pub pool_numbered : ℕ → Result Pool NoPool
pool_numbered n =
    cond (n == 1) (Ok Win) (cond (n == 2) (Ok Place) (cond (n == 3) (Ok Show) (cond (n == 4) (Ok Quinella)
    (cond (n == 5) (Ok Exacta) (cond (n == 6) (Ok Trifecta) (Err (record { number = n })))))))

-- how many runners a bet of a pool names, and whether in order
abbrev pub rule_for : Pool → PoolRule
rule_for Win = record { runners = 1; ordered = true }
rule_for Place = record { runners = 1; ordered = true }
rule_for Show = record { runners = 1; ordered = true }
rule_for Quinella = record { runners = 2; ordered = false }
rule_for Exacta = record { runners = 2; ordered = true }
rule_for Trifecta = record { runners = 3; ordered = true }

-- 1 win, 2 place, 3 show, 4 quinella, 5 exacta, 6 trifecta
abbrev pub rule_of : ℕ → Option PoolRule
rule_of pool =
    cond (between 1 3 pool) (Some (record { runners = 1; ordered = true }))
    (cond (pool == 4) (Some (record { runners = 2; ordered = false }))
    (cond (pool == 5) (Some (record { runners = 2; ordered = true }))
    (cond (pool == 6) (Some (record { runners = 3; ordered = true })) None)))

-- the first so many are runners, 1 to 40, all different, and ascend where their order is free; the others are 0
abbrev pub admitted : PoolRule → List ℕ → Bool
admitted rule rs =
    every (between 1 40) (take rule.runners rs)
    && every (λ r. nat_eq r 0) (drop rule.runners rs)
    && distinct (take rule.runners rs)
    && (rule.ordered || ascending (take rule.runners rs))

abbrev pub admitted_by : Option PoolRule → List ℕ → Bool
admitted_by None rs = false
admitted_by (Some rule) rs = admitted rule rs

-- whether a bet of this pool may name these runners
abbrev pub valid_bet : ℕ → List ℕ → Bool
valid_bet pool rs = admitted_by (rule_of pool) rs
