-- The three pages are the encoding of the empty index: see EmptyHeld.
use Rattle.layout.proofs.EmptyHeld.{format_holds_the_empty}
use Rattle.layout.proofs.laws.format_holds_the_empty_index.Goals as goal

pub returns : goal.returns
returns c = format_holds_the_empty
