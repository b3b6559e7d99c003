use Rattle.std.proofs.Common.{ap, ◌∙◌}
use Rattle.shape.specs.Made.{chosen}
use Rattle.layout.specs.Pages.{header_page}
use Rattle.layout.proofs.Empty.{wrote_empty}
use Rattle.layout.proofs.write_empty.Goals as goal

pub returns : goal.returns
returns g c =
    let state = g.S.PageStore.state in
    wrote_empty c.args.kind (chosen c.args.shape)
    (state c.args.store.now) (state c.write.new.self) (state c.write-2.new.self)
    (state c.write-3.new.self) c.page.result
    c.in_ok-write.ensures.then c.in_ok-write-2.ensures.then
    c.in_ok-write-3.ensures.then
    (c.page.ensures ∙ ap (header_page c.args.kind) c.empty.ensures)
