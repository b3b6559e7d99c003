use Rattle.std.proofs.Common.{sym, ◌∙◌, arith}
use Rattle.std.proofs.lemmas.Bool.{eq-eqb}
use Rattle.std.specs.Str.{bytes_eq}
use Rattle.std.proofs.lemmas.Slice.Eq.{slice_eq-Decides, bytes_eq-Decides}
use Rattle.std.proofs.lemmas.Bool.Decides.{same_from_decides, Decides-eqb}
use Rattle.inspect.proofs.OnPage.{first_is, first_none}
use Rattle.inspect.proofs.leaf_page.LeafPage.begins_with.Goals as goal

pub returns-then-self-eq0 : goal.returns-then-self-eq0
returns-then-self-eq0 g c =
    let k = g.K.RecordKind.model c.args.self.now.range.ground.kind.now in
    eq-eqb c.args.self.now.count 0 (omega arith) ∙ sym (first_none k c.args.self.now.count c.args.self.now.page.now c.args.first.now (omega arith))

pub returns-else-self-eq0 : goal.returns-else-self-eq0
returns-else-self-eq0 g c =
    let k = g.K.RecordKind.model c.args.self.now.range.ground.kind.now in
    let row = c.of_entries-row.ensures in
    let key = c.key.result.now in
    let many = row.count c.args.self.now.room in
    let is = rw (row.widths.0, row.widths.1, row.bytes) at c.key.ensures.key (omega (arith, many)) in
    let first = c.args.first.now in
    first_is k c.args.self.now.count c.args.self.now.page.now first key c.eq.result (omega arith) is
    (same_from_decides c.eq.result (bytes_eq key first) (slice_eq-Decides Decides-eqb _ _ _ c.eq.ensures)
    (bytes_eq-Decides key first))
