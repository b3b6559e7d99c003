use Rattle.std.proofs.Common.{◌∙◌, arith}
use Rattle.records.specs.PoolLine.{line_in_limits}
use Rattle.records.specs.Slices.{slice_tested}
use Rattle.records.proofs.pool_line.PoolLineRecordKind.valid_key.Goals as goal

pub returns-then-key-eq-KEY_BYTES : goal.returns-then-key-eq-KEY_BYTES
returns-then-key-eq-KEY_BYTES c =
    let key = c.args.key.now in
    c.line_in_limits.ensures
    ∙ slice_tested 9 key (line_in_limits key) (λ i. omega (arith, c.type_inv.key i)) (omega arith)
