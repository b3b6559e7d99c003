-- By the proof of this law in Laws, since a legal shape has the sizes that it rests on.
use Rattle.tree.proofs.Sizes.{sizes}
use Rattle.tree.proofs.Laws.{stays_sound}
use Rattle.tree.proofs.changes_keep_the_index_sound.Goals as goal

pub returns : goal.returns
returns c lt o width s l = stays_sound o s (sizes width s l)
