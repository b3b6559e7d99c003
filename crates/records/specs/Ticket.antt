-- Kind 1, the ticket. Key, 8 bytes: serial (4), course (2), day of the year (2). Value, 10 bytes: race (1), pool (1),
-- three runners (1 each), stake (4), state (1: 1 sold, 2 paid, 3 void).
use Rattle.std.specs.Prelude.{ℕ, Bool, ◌&&◌, List, [], ◌∷◌, length, ◌==◌, slice_index}
use Rattle.records.specs.Bytes.{bytes, field}
use Rattle.records.specs.Tests.{between}
use Rattle.records.specs.Fields.{by_fields}
use Rattle.records.specs.Kind.{Kind}
use Rattle.records.specs.Pools.{valid_bet}
use Rattle.records.specs.Track.{valid_course, valid_day, valid_race}

abbrev pub serial_of : List ℕ → ℕ
serial_of = field 0 4

abbrev pub course_of : List ℕ → ℕ
course_of = field 4 2

abbrev pub day_of : List ℕ → ℕ
day_of = field 6 2

abbrev pub key_in_limits : List ℕ → Bool
key_in_limits key = between 1 99999999 (serial_of key) && valid_course (course_of key) && valid_day (day_of key)

abbrev pub valid_ticket_key : List ℕ → Bool
valid_ticket_key key = (length key == 8 && bytes key) && key_in_limits key

-- what tickets are sorted by, the first first
abbrev pub ticket_fields : List ℕ → List ℕ
ticket_fields key = day_of key ∷ course_of key ∷ serial_of key ∷ []

-- race, pool with its runners, stake, state
abbrev pub value_in_limits : List ℕ → Bool
value_in_limits value =
    valid_race (slice_index value 0)
    && valid_bet (slice_index value 1) (slice_index value 2 ∷ slice_index value 3 ∷ slice_index value 4 ∷ [])
    && between 1 10000000 (field 5 4 value)
    && between 1 3 (slice_index value 9)

abbrev pub valid_ticket_value : List ℕ → Bool
valid_ticket_value value = (length value == 10 && bytes value) && value_in_limits value

abbrev pub ticket_kind : Kind
ticket_kind = record {
  number = 1;
  key_width = 8;
  value_width = 10;
  valid_key = valid_ticket_key;
  valid_value = valid_ticket_value;
  order = λ a b. by_fields (ticket_fields a) (ticket_fields b);
}
