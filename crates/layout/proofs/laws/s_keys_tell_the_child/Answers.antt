-- The children on the page are the node's: see Descent.
use Rattle.layout.proofs.Descent.{s_keys_tell_the_child}
use Rattle.layout.proofs.laws.s_keys_tell_the_child.Goals as goal

pub returns : goal.returns
returns c = s_keys_tell_the_child
