use Rattle.std.proofs.Common.{sym, ap, ◌∙◌, arith}
use Rattle.search.proofs.Halving.{halved_up, halved_down, halved_met}
use Rattle.search.proofs.rows.partition_point.Goals as goal

pub loop-low-preserved-then-passes : goal.loop-low-preserved-then-passes
loop-low-preserved-then-passes g c =
    let i = c.loop-low.invariant in (
      omega (arith, i.0),
      i.1,
      λ test says.
          let here = c.key.ensures.key (omega (arith, i.1)) in
          let pass = ap test (sym here) ∙ sym (says c.key.result _ c.passes.ensures) ∙ c.if-passes.true in
          halved_up _ _ c.loop-low.low c.loop-low.high (i.2 test says) _ pass,
    )

pub loop-low-preserved : goal.loop-low-preserved
loop-low-preserved g c =
    let i = c.loop-low.invariant in (
      omega (arith, i.0),
      omega (arith, i.1),
      λ test says.
          let here = c.key.ensures.key (omega (arith, i.1)) in
          let fail = ap test (sym here) ∙ sym (says c.key.result _ c.passes.ensures) ∙ c.if-passes.false in
          halved_down _ _ c.loop-low.low c.loop-low.high (i.2 test says) _ fail,
    )

pub returns-clause-divides : goal.returns-clause-divides
returns-clause-divides g c =
    let i = c.loop-low.invariant in
    λ test says.
    halved_met _ _ c.loop-low.low c.loop-low.high (i.2 test says) i.0 i.1 (omega (arith, c.loop-low-test.false))
