use Rattle.std.proofs.Common.{◌+◌, ◌*◌}
use Rattle.inspect.proofs.walk.+walk_walk_children.Given as goal

-- a level counts more than all children of a node
abbrev pub decreases-walk : goal.decreases-walk
decreases-walk g l = 16 * l.h

abbrev pub decreases-walk_children : goal.decreases-walk_children
decreases-walk_children g l = 16 * l.h + 1 + l.siblings.n
