-- The ticket kind keeps the laws: day, course and serial together are all eight bytes of a key.
use Rattle.std.specs.Prelude.{◌≡◌, ℕ, true, List, [], ◌∷◌, slice_index, refl}
use Rattle.std.proofs.Common.{ap, arith}
use Rattle.records.specs.Fields.{fields_from}
use Rattle.records.specs.Kind.{Lawful}
use Rattle.records.specs.Ticket.{serial_of, course_of, day_of, valid_ticket_key, ticket_fields, ticket_kind}
use Rattle.records.specs.BytesLemmas.{all_bytes}
use Rattle.records.specs.ByFields.{same_fields, lawful_by_fields}
use Rattle.records.specs.Slices.{tested_long, tested_bytes}

apart :
    (a b : List ℕ) → valid_ticket_key a ≡ true → valid_ticket_key b ≡ true → ticket_fields a ≡ ticket_fields b → a ≡ b
apart a b va vb e =
    let widths : List ℕ = 4 ∷ 2 ∷ 2 ∷ [] in
    let serial : serial_of a ≡ serial_of b = ap (λ xs. slice_index xs 2) e in
    let course : course_of a ≡ course_of b = ap (λ xs. slice_index xs 1) e in
    let day : day_of a ≡ day_of b = ap (λ xs. slice_index xs 0) e in
    let all : fields_from 0 widths a ≡ fields_from 0 widths b = cc in
    same_fields widths 0 a b (tested_long 8 a _ va) (tested_long 8 b _ vb)
    (all_bytes a (tested_bytes 8 a _ va)) (all_bytes b (tested_bytes 8 b _ vb)) all

pub ticket_lawful : Lawful ticket_kind
ticket_lawful = lawful_by_fields ticket_kind ticket_fields (record {
  number_least = omega arith;
  number_most = omega arith;
  key_least = omega arith;
  key_most = omega arith;
  value_least = omega arith;
  value_most = omega arith;
  key_long = λ a h. tested_long 8 a _ h;
  key_bytes = λ a h. tested_bytes 8 a _ h;
  value_long = λ v h. tested_long 10 v _ h;
  value_bytes = λ v h. tested_bytes 10 v _ h;
  sorted = λ a b. refl;
  apart = apart;
})
