-- By the proof of this law in Laws, since a legal shape has the sizes that it rests on.
use Rattle.tree.proofs.Sizes.{sizes}
use Rattle.tree.proofs.Laws.{few_slots}
use Rattle.tree.proofs.changes_take_few_slots.Goals as goal

pub returns : goal.returns
returns c lt o width s l = few_slots o s (sizes width s l)
