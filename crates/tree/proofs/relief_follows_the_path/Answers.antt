-- By the proof of this law in Laws, since a legal shape has the sizes that it rests on.
use Rattle.tree.proofs.Sizes.{sizes}
use Rattle.tree.proofs.Laws.{relief_follows_path}
use Rattle.tree.proofs.relief_follows_the_path.Goals as goal

pub returns : goal.returns
returns c lt o width s l = relief_follows_path o s (sizes width s l)
