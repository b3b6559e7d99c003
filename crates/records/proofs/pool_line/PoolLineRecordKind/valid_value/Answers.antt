use Rattle.std.proofs.Common.{leb, ap, ◌∙◌, arith}
use Rattle.records.specs.Bytes.{field}
use Rattle.records.specs.Slices.{slice_tested}
use Rattle.records.proofs.pool_line.PoolLineRecordKind.valid_value.Goals as goal

pub returns-then-value-eq-VALUE_BYTES : goal.returns-then-value-eq-VALUE_BYTES
returns-then-value-eq-VALUE_BYTES c =
    let value = c.args.value.now in
    ap (λ n. leb n 1000000000000000) c.field_at.ensures
    ∙ slice_tested 8 value (leb (field 0 8 value) 1000000000000000) (λ i. omega (arith, c.type_inv.value i))
    (omega arith)
