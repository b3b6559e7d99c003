-- By computation: see Inspected.
use Rattle.layout.proofs.Inspected.{inspected_examples}
use Rattle.layout.proofs.laws.examples_are_inspected.Goals as goal

pub returns : goal.returns
returns c = inspected_examples
