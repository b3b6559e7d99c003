use Rattle.std.proofs.Common.{◌≡◌, rules}
use Rattle.shape.specs.Made.{asked}
use Rattle.index.specs.Seen.{seen}
use Rattle.index.specs.Calls.{format_answer, after_format}
use Rattle.index.proofs.Formats.{format_holds}
use Rattle.index.proofs.Index.format.Goals as goal

pub returns-clause-holds : goal.returns-clause-holds
returns-clause-holds g c =
    let before = c.args.self.now in
    let x = seen g.S.PageStore.state g.K.RecordKind.model before in
    let y = seen g.S.PageStore.state g.K.RecordKind.model c.write_formatted-written.new.self in
    let s = asked c.args.numbers in
    let answer : c.told.result ≡ format_answer x s = search rules in
    let after : y ≡ after_format x s = search rules in
    format_holds x y s c.told.result (g.met.K.RecordKind.lawful before.kind) (g.S.PageStore.lawful before.store)
    answer after
