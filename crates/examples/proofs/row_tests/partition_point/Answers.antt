use Rattle.std.proofs.Common.{◌∙◌, ap}
use Rattle.examples.proofs.row_tests.partition_point.Goals as goal

pub loop-key-preserved : goal.loop-key-preserved
loop-key-preserved g c =
    let row = c.loop-key.invariant.0 in
    let middle = rw row at c.in-Some.ensures in (
      c.tell.ensures.row ∙ row,
      λ test says.
          let told = rw row at c.tell.ensures.halved in
          told _ (c.loop-key.invariant.1 test says) (λ less. says c.in-Some.key _ c.passes.ensures ∙ ap test middle.2),
    )

pub returns-clause-divides : goal.returns-clause-divides
returns-clause-divides g c =
    let found = rw c.loop-key.invariant.0 at c.in_default.ensures in
    λ test says. found.1 _ (c.loop-key.invariant.1 test says)
