-- The kinds at the edge of the widths keep the laws: their fields are their bytes.
use Rattle.std.specs.Prelude.{ℕ, ◌≤◌, refl}
use Rattle.records.specs.Kind.{Lawful}
use Rattle.records.specs.ByFields.{lawful_by_fields}
use Rattle.records.specs.Slices.{tested_long, tested_bytes}
use Rattle.limit_kinds.specs.Limit.{limit_kind}
use Rattle.std.proofs.Common.{arith}

pub limit_lawful :
    (n w v : ℕ) → 1 ≤ n → n ≤ 255 → 1 ≤ w → w ≤ 24 → 1 ≤ v → v ≤ 64 → Lawful (limit_kind n w v)
limit_lawful n w v n₁ n₂ w₁ w₂ v₁ v₂ = lawful_by_fields (limit_kind n w v) (λ key. key) (record {
  number_least = n₁;
  number_most = n₂;
  key_least = w₁;
  key_most = w₂;
  value_least = v₁;
  value_most = v₂;
  key_long = λ a h. tested_long w a _ h;
  key_bytes = λ a h. tested_bytes w a _ h;
  value_long = λ b h. tested_long v b _ h;
  value_bytes = λ b h. tested_bytes v b _ h;
  sorted = λ a b. refl;
  apart = λ a b va vb e. e;
})

pub narrow_lawful : Lawful (limit_kind 200 3 4)
narrow_lawful =
    limit_lawful 200 3 4 (omega arith) (omega arith) (omega arith) (omega arith) (omega arith) (omega arith)

pub widest_lawful : Lawful (limit_kind 201 24 64)
widest_lawful =
    limit_lawful 201 24 64 (omega arith) (omega arith) (omega arith) (omega arith) (omega arith) (omega arith)

pub least_lawful : Lawful (limit_kind 202 1 1)
least_lawful =
    limit_lawful 202 1 1 (omega arith) (omega arith) (omega arith) (omega arith) (omega arith) (omega arith)
