-- By the proof of this law in Laws, since a legal shape has the sizes that it rests on.
use Rattle.tree.proofs.Sizes.{sizes}
use Rattle.tree.proofs.Laws.{merge_is_union}
use Rattle.tree.proofs.merge_is_the_union.Goals as goal

pub returns : goal.returns
returns c lt o width s l = merge_is_union o s (sizes width s l)
