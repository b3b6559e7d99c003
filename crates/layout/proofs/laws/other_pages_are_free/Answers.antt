-- Each equation carries over: see Named.
use Rattle.layout.proofs.Named.{other_pages_are_free}
use Rattle.layout.proofs.laws.other_pages_are_free.Goals as goal

pub returns : goal.returns
returns c = other_pages_are_free
