use Rattle.payout.proofs.Keys.{key_bytes}
use Rattle.payout.proofs.name.TicketName.key.Goals as goal

pub returns-clause-bytes : goal.returns-clause-bytes
returns-clause-bytes c =
    let t = c.args.self in
    rw (c.to_be_bytes.ensures, c.to_be_bytes-2.ensures, c.to_be_bytes-3.ensures)
    (key_bytes t.serial t.course t.day)
