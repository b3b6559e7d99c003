-- By the proof of this law in Laws, since a legal shape has the sizes that it rests on.
use Rattle.tree.proofs.Sizes.{sizes}
use Rattle.tree.proofs.Laws.{batches_in_all}
use Rattle.tree.proofs.histories_move_few_batches.Goals as goal

pub returns : goal.returns
returns c lt o width s l = batches_in_all o s (sizes width s l)
