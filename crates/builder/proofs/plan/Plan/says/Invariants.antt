use Rattle.std.proofs.Common.{◌≡◌, drop, vec_items}
use Rattle.builder.specs.Plans.{said_by}
use Rattle.builder.proofs.plan.Plan.says.Given as goal

-- no node so far has an entry of the key
abbrev pub invariant-loop-node : goal.invariant-loop-node
invariant-loop-node l =
    said_by l.key (vec_items l.self.nodes) ≡ said_by l.key (drop l.node-index (vec_items l.self.nodes))
