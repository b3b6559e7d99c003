use Rattle.std.proofs.Common.{arith}
use Rattle.inspect.proofs.OnPage.{marks_low}
use Rattle.inspect.proofs.leaf_page.are_good_marks.Goals as goal

pub returns-else-leaf : goal.returns-else-leaf
returns-else-leaf c = rw c.if-leaf.false (marks_low c.args.t c.args.marks (omega arith))
