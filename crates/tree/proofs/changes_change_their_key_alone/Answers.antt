-- By the proof of this law in Laws, since a legal shape has the sizes that it rests on.
use Rattle.tree.proofs.Sizes.{sizes}
use Rattle.tree.proofs.Laws.{changes_its_key}
use Rattle.tree.proofs.changes_change_their_key_alone.Goals as goal

pub returns : goal.returns
returns c lt o width s l = changes_its_key o s (sizes width s l)
