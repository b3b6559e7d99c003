-- Kinds at the edge of the widths: keys and values have the right length and do not begin with 255; keys stand in the
-- order of their bytes.
use Rattle.std.specs.Prelude.{ℕ, Bool, not, ◌&&◌, List, length, ◌==◌, slice_index}
use Rattle.records.specs.Bytes.{bytes}
use Rattle.records.specs.Fields.{by_fields}
use Rattle.records.specs.Kind.{Kind}

abbrev pub starts : List ℕ → Bool
starts bs = not (slice_index bs 0 == 255)

abbrev pub valid : ℕ → List ℕ → Bool
valid width bs = (length bs == width && bytes bs) && starts bs

abbrev pub limit_kind : ℕ → ℕ → ℕ → Kind
limit_kind number key_width value_width = record {
  number = number;
  key_width = key_width;
  value_width = value_width;
  valid_key = valid key_width;
  valid_value = valid value_width;
  order = by_fields;
}
