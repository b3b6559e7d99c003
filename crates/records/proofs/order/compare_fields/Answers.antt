use Rattle.std.proofs.Common.{◌∙◌}
use Rattle.records.specs.ByFields.{in_order}
use Rattle.records.proofs.order.compare_fields.Goals as goal

pub returns : goal.returns
returns c = c.cmp.ensures ∙ in_order c.args.a.now c.args.b.now
