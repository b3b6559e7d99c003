-- More levels would have more nodes than there are slots: see Levels.
use Rattle.tree.proofs.Sizes.{sizes}
use Rattle.tree.proofs.Levels.{ten_levels}
use Rattle.tree.proofs.slots_bound_the_levels.Goals as goal

pub returns : goal.returns
returns c lt o width s l = ten_levels lt s (sizes width s l)
