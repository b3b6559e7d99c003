-- By the proof of this law in Laws, since a legal shape has the sizes that it rests on.
use Rattle.tree.proofs.Sizes.{sizes}
use Rattle.tree.proofs.Laws.{few_batches}
use Rattle.tree.proofs.changes_move_few_batches.Goals as goal

pub returns : goal.returns
returns c lt o width s l = few_batches o s (sizes width s l)
