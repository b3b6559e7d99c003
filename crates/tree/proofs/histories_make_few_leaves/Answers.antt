-- By the proof of this law in Laws, since a legal shape has the sizes that it rests on.
use Rattle.tree.proofs.Sizes.{sizes}
use Rattle.tree.proofs.Laws.{leaves_in_all}
use Rattle.tree.proofs.histories_make_few_leaves.Goals as goal

pub returns : goal.returns
returns c lt o width s l = leaves_in_all o s (sizes width s l)
