-- By the proof of this law in Laws, since a legal shape has the sizes that it rests on.
use Rattle.tree.proofs.Sizes.{sizes}
use Rattle.tree.proofs.Laws.{ten_levels_refuse}
use Rattle.tree.proofs.ten_levels_refuse_relief.Goals as goal

pub returns : goal.returns
returns c lt o width s l = ten_levels_refuse o s (sizes width s l)
