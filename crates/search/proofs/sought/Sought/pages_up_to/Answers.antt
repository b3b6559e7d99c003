use Rattle.std.proofs.Common.{rules, ◌-◌, length, drop, ◌∙◌, arith}
use Rattle.std.specs.Ordering.{is_le}
use Rattle.std.proofs.lemmas.List.{take_rest, length-take, length-drop}
use Rattle.stores.specs.Store.{page_at}
use Rattle.layout.proofs.RowsFit.{keys_fit}
use Rattle.search.proofs.OnHead.{head_divides, head_counted, head_there}
use Rattle.search.proofs.sought.Sought.pages_up_to.Goals as goal

pub returns-in_err-read-clause-answer : goal.returns-in_err-read-clause-answer
returns-in_err-read-clause-answer g c =
    let k = g.K.RecordKind.model c.args.self.now.kind.now in
    let s₀ = g.S.PageStore.state c.args.store.now in
    λ es n on valid.
    absurd (head_there k c.args.self.now.shape.per_page s₀.pages c.args.p es c.in_err-read.ensures.0.past on)

pub returns-in_err-keep-clause-answer : goal.returns-in_err-keep-clause-answer
returns-in_err-keep-clause-answer g c =
    let k = g.K.RecordKind.model c.args.self.now.kind.now in
    let law = g.met.K.RecordKind.lawful c.args.self.now.kind.now in
    let s₀ = g.S.PageStore.state c.args.store.now in
    let shape = c.args.self.now.shape in
    λ es n on valid.
    absurd (head_counted k law shape.per_page (page_at s₀.pages) c.args.p es shape.some on c.read.new.buffer
    c.args.filled c.in_ok-read.ensures.page n c.in_err-keep.ensures.0)

pub returns-clause-answer : goal.returns-clause-answer
returns-clause-answer g c =
    let k = g.K.RecordKind.model c.args.self.now.kind.now in
    let law = g.met.K.RecordKind.lawful c.args.self.now.kind.now in
    let s₀ = g.S.PageStore.state c.args.store.now in
    let key = c.args.self.now.key.now in
    let shape = c.args.self.now.shape in
    let row = c.of_keys-firsts in
    let head = c.read.new.buffer in
    let many = row.ensures.count (omega (
      arith,
      c.read.array_long,
      length-take (length head - 1) (drop 1 head),
      length-drop 1 head,
      keys_fit c.args.filled k.key_width 16 c.requires law.key_most,
    )) in
    let up = c.partition_point in
    let d = up.ensures.divides (λ a. is_le (k.order a key)) (λ a b e. search rules) in
    λ es n on valid.
    head_divides k law shape.per_page (page_at s₀.pages) c.args.p es shape.some on key c.read.new.buffer
    row.result.bytes.now row.result.key_width row.result.value_width row.result.count up.result valid
    c.in_ok-read.ensures.page row.ensures.widths.0 row.ensures.widths.1 (many ∙ n)
    (row.ensures.bytes ∙ take_rest c.read.new.buffer 1) d
