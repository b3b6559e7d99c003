-- By the proof of this law in Laws, since a legal shape has the sizes that it rests on.
use Rattle.tree.proofs.Sizes.{sizes}
use Rattle.tree.proofs.Laws.{always_sound}
use Rattle.tree.proofs.histories_stay_sound.Goals as goal

pub returns : goal.returns
returns c lt o width s l = always_sound o s (sizes width s l)
