-- Kind 2, the pool line. Key, 9 bytes: course (2), day of the year (2), race (1), pool (1), three runners (1 each).
-- Value, 8 bytes: the total staked on these runners.
use Rattle.std.specs.Prelude.{ℕ, ◌-◌, Bool, ◌&&◌, List, [], ◌∷◌, length, ◌==◌, nat_le, slice_index}
use Rattle.records.specs.Bytes.{bytes, field}
use Rattle.records.specs.Fields.{by_fields}
use Rattle.records.specs.Kind.{Kind}
use Rattle.records.specs.Pools.{valid_bet}
use Rattle.records.specs.Track.{valid_course, valid_day, valid_race}

abbrev pub runners_of : List ℕ → List ℕ
runners_of key = slice_index key 6 ∷ slice_index key 7 ∷ slice_index key 8 ∷ []

abbrev pub line_in_limits : List ℕ → Bool
line_in_limits key =
    valid_course (field 0 2 key) && valid_day (field 2 2 key) && valid_race (slice_index key 4)
    && valid_bet (slice_index key 5) (runners_of key)

abbrev pub valid_line_key : List ℕ → Bool
valid_line_key key = (length key == 9 && bytes key) && line_in_limits key

-- What pool lines are sorted by, the first first. A later race comes first, so it counts by what is missing to 255.
abbrev pub line_fields : List ℕ → List ℕ
line_fields key = field 0 2 key ∷ field 2 2 key ∷ (255 - slice_index key 4) ∷ slice_index key 5 ∷ runners_of key

abbrev pub valid_line_value : List ℕ → Bool
valid_line_value value = (length value == 8 && bytes value) && nat_le (field 0 8 value) 1000000000000000

abbrev pub line_kind : Kind
line_kind = record {
  number = 2;
  key_width = 9;
  value_width = 8;
  valid_key = valid_line_key;
  valid_value = valid_line_value;
  order = λ a b. by_fields (line_fields a) (line_fields b);
}
