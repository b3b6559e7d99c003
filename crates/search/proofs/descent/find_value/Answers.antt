use Rattle.std.proofs.Common.{◌-◌, ◌*◌, ap, ◌∙◌, arith}
use Rattle.stores.proofs.Looking.{looked_none, looked_more}
use Rattle.shape.specs.Made.{chosen}
use Rattle.layout.specs.Header.{header_of}
use Rattle.search.proofs.OnPath.{told_from_root, records_fit}
use Rattle.search.proofs.descent.find_value.Goals as goal

pub returns-in_err-keep : goal.returns-in_err-keep
returns-in_err-keep g c =
    let k = g.K.RecordKind.model c.args.kind.now in
    let law = g.met.K.RecordKind.lawful c.args.kind.now in
    let s₀ = g.S.PageStore.state c.args.store.now in
    let whole = g.S.PageStore.lawful c.args.store.now in
    record {
      looked = looked_none s₀ _ whole.counted;
      answer = λ s held is valid.
          absurd (records_fit k law s₀ whole c.args.key.now s held (header_of c.args.header)
          c.per_page.result c.record_width.result is
          (c.per_page.ensures ∙ ap (λ x. (chosen x).per_page) c.shape-shape.ensures) c.record_width.ensures
          c.in_err-keep.ensures.0);
    }

pub returns-then-key-key_width : goal.returns-then-key-key_width
returns-then-key-key_width g c =
    let law = g.met.K.RecordKind.lawful c.args.kind.now in
    let s₀ = g.S.PageStore.state c.args.store.now in
    record {
      looked = looked_none s₀ _ (g.S.PageStore.lawful c.args.store.now).counted;
      answer = λ s held is valid.
          absurd (c.if-key-key_width.true (omega (
            arith,
            law.key_long c.args.key.now valid,
            c.key_width.ensures,
          )));
    }

pub returns : goal.returns
returns g c =
    let k = g.K.RecordKind.model c.args.kind.now in
    let law = g.met.K.RecordKind.lawful c.args.kind.now in
    let header = c.args.header in
    let s₀ = g.S.PageStore.state c.args.store.now in
    let s₁ = g.S.PageStore.state c.in_tree.new.store in
    let whole = g.S.PageStore.lawful c.args.store.now in
    record {
      looked = looked_more s₀ s₁ _ (3 * header.levels) c.in_tree.ensures.looked (omega (arith, c.levels.ensures));
      answer = λ s held is valid.
          told_from_root k law s₀ whole c.args.key.now s held (header_of header) (chosen c.shape-shape.result)
          c.used.result (c.levels.result - 1) c.root.result c.in_tree.result is
          (ap chosen c.shape-shape.ensures) c.used.ensures (ap (λ n. n - 1) c.levels.ensures)
          c.root.ensures (λ t good o at. c.in_tree.ensures.answer t good o at valid);
    }
