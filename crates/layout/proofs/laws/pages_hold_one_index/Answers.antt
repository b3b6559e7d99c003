-- The inspection is a function, so two indexes that are held are both its answer: see Inspection.
use Rattle.layout.proofs.Inspection.{holds_one}
use Rattle.layout.proofs.laws.pages_hold_one_index.Goals as goal

pub returns : goal.returns
returns c = holds_one
