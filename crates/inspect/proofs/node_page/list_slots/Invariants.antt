use Rattle.std.proofs.Common.{drop}
use Rattle.inspect.proofs.NodeTold.{Taken, pair_slots}
use Rattle.inspect.proofs.node_page.list_slots.Given as goal

-- the slots that are left, behind those that were listed
abbrev pub invariant-loop-pair : goal.invariant-loop-pair
invariant-loop-pair l =
    Taken l.used l.initial.listed l.listed (pair_slots l.pair-items) (pair_slots (drop l.pair-index l.pair-items))
