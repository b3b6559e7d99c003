-- The laws of a kind make its test an order of all byte strings: see Keys.
use Rattle.tree.proofs.Keys.{kinds_order_keys}
use Rattle.tree.proofs.kinds_order_keys.Goals as goal

pub returns : goal.returns
returns c = kinds_order_keys
