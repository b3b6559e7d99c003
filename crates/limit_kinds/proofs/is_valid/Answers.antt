use Rattle.std.proofs.Common.{◌∙◌, arith}
use Rattle.records.specs.Slices.{slice_tested}
use Rattle.limit_kinds.specs.Limit.{starts}
use Rattle.limit_kinds.proofs.is_valid.Goals as goal

pub returns-then-bytes-width : goal.returns-then-bytes-width
returns-then-bytes-width c =
    let bs = c.args.bytes.now in
    c.begins_well.ensures
    ∙ slice_tested c.args.width bs (starts bs) (λ i. omega (arith, c.type_inv.bytes i)) (omega arith)
