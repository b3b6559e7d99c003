-- By the proof of this law in Laws, since a legal shape has the sizes that it rests on.
use Rattle.tree.proofs.Sizes.{sizes}
use Rattle.tree.proofs.Laws.{changes_the_map}
use Rattle.tree.proofs.changes_change_the_map.Goals as goal

pub returns : goal.returns
returns c lt o width s l = changes_the_map o s (sizes width s l)
