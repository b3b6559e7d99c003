use Rattle.search.proofs.OnPath.{OnTheWay}
use Rattle.shape.specs.Made.{chosen}
use Rattle.search.proofs.sought.Sought.in_tree.Given as goal

abbrev pub invariant-loop-h : goal.invariant-loop-h
invariant-loop-h g l =
    OnTheWay (g.K.RecordKind.model l.self.kind.now) (chosen l.self.shape) (g.S.PageStore.state l.fn.store)
    (g.S.PageStore.state l.store) l.self.used l.self.key.now l.levels l.root l.h l.slot
