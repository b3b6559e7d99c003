-- By the proof of this law in Laws, since a legal shape has the sizes that it rests on.
use Rattle.tree.proofs.Sizes.{sizes}
use Rattle.tree.proofs.Laws.{path_is_pinned}
use Rattle.tree.proofs.path_is_pinned.Goals as goal

pub returns : goal.returns
returns c lt o width s l = path_is_pinned o s (sizes width s l)
