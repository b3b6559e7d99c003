-- By the proof of this law in Laws, since a legal shape has the sizes that it rests on.
use Rattle.tree.proofs.Sizes.{sizes}
use Rattle.tree.proofs.Laws.{relief_keeps_the_map}
use Rattle.tree.proofs.relief_keeps_the_map.Goals as goal

pub returns : goal.returns
returns c lt o width s l = relief_keeps_the_map o s (sizes width s l)
