use Rattle.std.proofs.Common.{ap, ◌∙◌}
use Rattle.std.specs.Int.{div_ceil}
use Rattle.shape.proofs.Ceilings.{ceiling_is}
use Rattle.shape.proofs.size.Shape.pages_of.Goals as goal

pub returns : goal.returns
returns c =
    let shape = c.args.self.now in
    c.div_ceil.ensures ∙ ap (div_ceil c.args.entries) c.into.ensures ∙ ceiling_is c.args.entries shape.per_page shape.some
