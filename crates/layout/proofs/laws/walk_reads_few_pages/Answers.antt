-- At most W pages of each node: see WalkReads.
use Rattle.layout.proofs.WalkReads.{walk_reads_few}
use Rattle.layout.proofs.laws.walk_reads_few_pages.Goals as goal

pub returns : goal.returns
returns c = walk_reads_few
