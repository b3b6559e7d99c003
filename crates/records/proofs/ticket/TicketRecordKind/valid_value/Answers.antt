use Rattle.std.proofs.Common.{◌∙◌, arith}
use Rattle.records.specs.Ticket.{value_in_limits}
use Rattle.records.specs.Slices.{slice_tested}
use Rattle.records.proofs.ticket.TicketRecordKind.valid_value.Goals as goal

pub returns-then-value-eq-VALUE_BYTES : goal.returns-then-value-eq-VALUE_BYTES
returns-then-value-eq-VALUE_BYTES c =
    let value = c.args.value.now in
    c.value_in_limits.ensures
    ∙ slice_tested 10 value (value_in_limits value) (λ i. omega (arith, c.type_inv.value i)) (omega arith)
