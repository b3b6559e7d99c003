-- By the proof of this law in Laws, since a legal shape has the sizes that it rests on.
use Rattle.tree.proofs.Sizes.{sizes}
use Rattle.tree.proofs.Laws.{potential_grows_by_one}
use Rattle.tree.proofs.leaf_potential_grows_by_one.Goals as goal

pub returns : goal.returns
returns c lt o width s l = potential_grows_by_one o s (sizes width s l)
