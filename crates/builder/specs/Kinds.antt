-- The record kinds: their numbers on page 0 and the bytes of their keys and values.
use Rattle.std.specs.Prelude.{ℕ}
use Rattle.builder.specs.declared.kinds.KindName.{KindName}
use Rattle.builder.specs.declared.kinds.KindName.TheVariants.{Ticket, PoolLine, Narrow, Widest, Least}

abbrev pub number_of : KindName → ℕ
number_of Ticket = 1
number_of PoolLine = 2
number_of Narrow = 200
number_of Widest = 201
number_of Least = 202

abbrev pub key_width_of : KindName → ℕ
key_width_of Ticket = 8
key_width_of PoolLine = 9
key_width_of Narrow = 3
key_width_of Widest = 24
key_width_of Least = 1

abbrev pub value_width_of : KindName → ℕ
value_width_of Ticket = 10
value_width_of PoolLine = 8
value_width_of Narrow = 4
value_width_of Widest = 64
value_width_of Least = 1
