-- By the proof of this law in Laws, since a legal shape has the sizes that it rests on.
use Rattle.tree.proofs.Sizes.{sizes}
use Rattle.tree.proofs.Laws.{heavy_is_leftmost}
use Rattle.tree.proofs.heavy_child_is_leftmost.Goals as goal

pub returns : goal.returns
returns c lt o width s l = heavy_is_leftmost o s (sizes width s l)
