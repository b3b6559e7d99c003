use Rattle.std.proofs.Common.{ap, ◌∙◌}
use Rattle.index.specs.Seen.{seen}
use Rattle.index.specs.Calls.{growth, outcome, touches_of}
use Rattle.index.proofs.Opens.{told_outcome, told_touches, opens}
use Rattle.index.proofs.Index.open.Goals as goal

pub returns-clause-opened : goal.returns-clause-opened
returns-clause-opened g c =
    let state = g.S.PageStore.state in
    let model = g.K.RecordKind.model in
    let before = c.args.self.now in
    let after = c.inspect-inspected.new.self in
    let found = c.inspect-inspected.result in
    let n = growth c.count-start.result (state after.store).count in
    opens (seen state model before) (seen state model after) (g.met.K.RecordKind.lawful before.kind)
    (g.S.PageStore.lawful before.store) (g.S.PageStore.lawful after.store)
    c.told.result found c.inspect-inspected.ensures
    (ap outcome c.told.ensures ∙ told_outcome found n)
    (ap touches_of c.told.ensures ∙ told_touches found n ∙ ap (λ m. growth m (state after.store).count)
    c.count-start.ensures)
