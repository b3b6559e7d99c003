-- By the proof of this law in Laws, since a legal shape has the sizes that it rests on.
use Rattle.tree.proofs.Sizes.{sizes}
use Rattle.tree.proofs.Laws.{nothing_overflows}
use Rattle.tree.proofs.relief_overflows_nothing.Goals as goal

pub returns : goal.returns
returns c lt o width s l = nothing_overflows o s (sizes width s l)
