-- Which numbers name a ticket.
use Rattle.std.specs.Prelude.{◌≡◌, ℕ, Bool, true, false, Ok, Err, Result}
use Rattle.records.specs.Tests.{between}
use Rattle.records.specs.Track.{valid_course, valid_day}
use Rattle.payout.specs.declared.name.TicketName.{TicketName}
use Rattle.payout.specs.declared.ticket.NoTicket.{NoTicket}
use Rattle.payout.specs.declared.ticket.NoTicket.TheVariants.{NotThree, NoText, NoNumber, Day, Course, Serial}

abbrev pub valid_serial : ℕ → Bool
valid_serial = between 1 99999999

-- the first number that no ticket has is told
abbrev pub Blamed : ℕ → ℕ → ℕ → NoTicket → Type 0
Blamed d c s NotThree = ⊥
Blamed d c s NoText = ⊥
Blamed d c s NoNumber = ⊥
Blamed d c s (Day n) = (n ≡ d) × (valid_day d ≡ false)
Blamed d c s (Course n) = (n ≡ c) × (valid_day d ≡ true) × (valid_course c ≡ false)
Blamed d c s (Serial n) = (n ≡ s) × (valid_day d ≡ true) × (valid_course c ≡ true) × (valid_serial s ≡ false)

-- a ticket with just these numbers, which are a ticket's
abbrev pub Named : ℕ → ℕ → ℕ → Result TicketName NoTicket → Type 0
Named d c s (Ok t) = (t.day ≡ d) × (t.course ≡ c) × (t.serial ≡ s)
Named d c s (Err e) = Blamed d c s e
