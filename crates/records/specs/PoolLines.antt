-- The pool line kind keeps the laws: the fields of its order are all nine bytes of a key, the race turned round.
use Rattle.std.specs.Prelude.{◌≡◌, ℕ, ◌-◌, ◌<◌, true, List, [], ◌∷◌, length, slice_index, slice_index_or, refl}
use Rattle.std.proofs.Common.{sym, ap, ◌∙◌, arith}
use Rattle.std.proofs.ByRecursion.{All-get_or}
use Rattle.records.specs.Bytes.{field}
use Rattle.records.specs.Fields.{fields_from}
use Rattle.records.specs.Kind.{Lawful}
use Rattle.records.specs.PoolLine.{valid_line_key, line_fields, line_kind}
use Rattle.records.specs.BytesLemmas.{all_bytes, field_one}
use Rattle.records.specs.ByFields.{same_fields, lawful_by_fields}
use Rattle.records.specs.Slices.{tested_long, tested_bytes}

-- a field of one byte is the same where the byte is
same_byte :
    (at : ℕ) (a b : List ℕ) → at < length a → at < length b → slice_index a at ≡ slice_index b at
    → field at 1 a ≡ field at 1 b
same_byte at a b ha hb e = field_one at a ha ∙ e ∙ sym (field_one at b hb)

apart : (a b : List ℕ) → valid_line_key a ≡ true → valid_line_key b ≡ true → line_fields a ≡ line_fields b → a ≡ b
apart a b va vb e =
    let widths : List ℕ = 2 ∷ 2 ∷ 1 ∷ 1 ∷ 1 ∷ 1 ∷ 1 ∷ [] in
    let la = tested_long 9 a _ va in
    let lb = tested_long 9 b _ vb in
    let ba = all_bytes a (tested_bytes 9 a _ va) in
    let bb = all_bytes b (tested_bytes 9 b _ vb) in
    let nth : (i : ℕ) → slice_index (line_fields a) i ≡ slice_index (line_fields b) i =
    λ i. ap (λ xs. slice_index xs i) e in
    let ra = All-get_or (λ x. x < 256) a 4 0 (omega arith) ba in
    let rb = All-get_or (λ x. x < 256) b 4 0 (omega arith) bb in
    let course : field 0 2 a ≡ field 0 2 b = nth 0 in
    let day : field 2 2 a ≡ field 2 2 b = nth 1 in
    let turned : 255 - slice_index a 4 ≡ 255 - slice_index_or b 4 0 = nth 2 in
    let race = same_byte 4 a b (omega arith) (omega arith) (omega arith) in
    let pool = same_byte 5 a b (omega arith) (omega arith) (nth 3) in
    let r1 = same_byte 6 a b (omega arith) (omega arith) (nth 4) in
    let r2 = same_byte 7 a b (omega arith) (omega arith) (nth 5) in
    let r3 = same_byte 8 a b (omega arith) (omega arith) (nth 6) in
    let all : fields_from 0 widths a ≡ fields_from 0 widths b = cc in
    same_fields widths 0 a b la lb ba bb all

pub line_lawful : Lawful line_kind
line_lawful = lawful_by_fields line_kind line_fields (record {
  number_least = omega arith;
  number_most = omega arith;
  key_least = omega arith;
  key_most = omega arith;
  value_least = omega arith;
  value_most = omega arith;
  key_long = λ a h. tested_long 9 a _ h;
  key_bytes = λ a h. tested_bytes 9 a _ h;
  value_long = λ v h. tested_long 8 v _ h;
  value_bytes = λ v h. tested_bytes 8 v _ h;
  sorted = λ a b. refl;
  apart = apart;
})
