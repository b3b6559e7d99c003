-- The numbers of a race day that several kinds share.
use Rattle.std.specs.Prelude.{ℕ, Bool}
use Rattle.records.specs.Tests.{between}

abbrev pub valid_course : ℕ → Bool
valid_course = between 1 999

-- a day of the year
abbrev pub valid_day : ℕ → Bool
valid_day = between 1 365

abbrev pub valid_race : ℕ → Bool
valid_race = between 1 12
