-- Both directions: see Inspection.
use Rattle.layout.proofs.Inspection.{accepts_what_is_held}
use Rattle.layout.proofs.laws.inspection_accepts_what_is_held.Goals as goal

pub returns : goal.returns
returns c = accepts_what_is_held
