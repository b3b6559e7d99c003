-- By the proof of this law in Laws, since a legal shape has the sizes that it rests on.
use Rattle.tree.proofs.Sizes.{sizes}
use Rattle.tree.proofs.Laws.{many_leaves}
use Rattle.tree.proofs.levels_have_many_leaves.Goals as goal

pub returns : goal.returns
returns c lt o width s l = many_leaves o s (sizes width s l)
