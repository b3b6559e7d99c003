-- By the proof of this law in Laws, since a legal shape has the sizes that it rests on.
use Rattle.tree.proofs.Sizes.{sizes}
use Rattle.tree.proofs.Laws.{weight_bounds_batches}
use Rattle.tree.proofs.weight_bounds_batches.Goals as goal

pub returns : goal.returns
returns c lt o width s l = weight_bounds_batches o s (sizes width s l)
