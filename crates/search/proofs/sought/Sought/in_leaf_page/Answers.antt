use Rattle.std.proofs.Common.{rules, arith}
use Rattle.std.specs.Ordering.{is_lt}
use Rattle.stores.specs.Store.{page_at}
use Rattle.layout.proofs.RowsFit.{entries_fit}
use Rattle.search.proofs.OnLeaf.{leaf_found, leaf_there, leaf_counted}
use Rattle.search.proofs.sought.Sought.in_leaf_page.Goals as goal

pub returns-in_err-read-clause-answer : goal.returns-in_err-read-clause-answer
returns-in_err-read-clause-answer g c =
    let k = g.K.RecordKind.model c.args.self.now.kind.now in
    let s₀ = g.S.PageStore.state c.args.store.now in
    λ es held long good valid. absurd (leaf_there k s₀.pages c.args.p es c.in_err-read.ensures.0.past held)

pub returns-in_err-keep-clause-answer : goal.returns-in_err-keep-clause-answer
returns-in_err-keep-clause-answer g c =
    let k = g.K.RecordKind.model c.args.self.now.kind.now in
    let law = g.met.K.RecordKind.lawful c.args.self.now.kind.now in
    let s₀ = g.S.PageStore.state c.args.store.now in
    λ es held long good valid.
    absurd (leaf_counted k law (page_at s₀.pages c.args.p) c.read.new.buffer es c.args.t
    c.in_ok-read.ensures.page held long (omega (arith, c.requires, c.args.self.now.shape.few)) good
    c.in_err-keep.ensures.0)

pub returns-clause-answer : goal.returns-clause-answer
returns-clause-answer g c =
    let k = g.K.RecordKind.model c.args.self.now.kind.now in
    let law = g.met.K.RecordKind.lawful c.args.self.now.kind.now in
    let s₀ = g.S.PageStore.state c.args.store.now in
    let key = c.args.self.now.key.now in
    let row = c.of_entries-row in
    let many = row.ensures.count (entries_fit c.args.t c.args.self.now.shape.per_page _ c.requires c.args.self.now.fits) in
    let below = c.partition_point-below in
    let d = below.ensures.divides (λ a. is_lt (k.order a key)) (λ a b e. search rules) in
    λ es held long good valid.
    leaf_found k law (page_at s₀.pages c.args.p) c.read.new.buffer row.result.bytes.now es key
    row.result.key_width row.result.value_width row.result.count c.args.t c.mark_word.result
    (record { below = below.result; saying = c.saying_at-saying.result })
    c.in_ok-read.ensures.page held long (omega (arith, c.requires, c.args.self.now.shape.few)) good valid
    row.ensures.widths many row.ensures.bytes c.mark_word.ensures d
    c.saying_at-saying.ensures
