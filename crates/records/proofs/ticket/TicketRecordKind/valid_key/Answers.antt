use Rattle.std.proofs.Common.{◌∙◌, arith}
use Rattle.records.specs.Ticket.{key_in_limits}
use Rattle.records.specs.Slices.{slice_tested}
use Rattle.records.proofs.ticket.TicketRecordKind.valid_key.Goals as goal

pub returns-then-key-eq-KEY_BYTES : goal.returns-then-key-eq-KEY_BYTES
returns-then-key-eq-KEY_BYTES c =
    let key = c.args.key.now in
    c.key_in_limits.ensures
    ∙ slice_tested 8 key (key_in_limits key) (λ i. omega (arith, c.type_inv.key i)) (omega arith)
