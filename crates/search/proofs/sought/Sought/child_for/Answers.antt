use Rattle.std.proofs.Common.{rules, ◌-◌, ◌*◌, length, drop, ◌∙◌, arith}
use Rattle.std.specs.Ordering.{is_le}
use Rattle.std.proofs.lemmas.List.{take_rest, length-take, length-drop}
use Rattle.layout.proofs.RowsFit.{keys_fit}
use Rattle.search.proofs.OnNode.{child_found}
use Rattle.search.proofs.sought.Sought.child_for.Goals as goal

pub returns : goal.returns
returns g c =
    let k = g.K.RecordKind.model c.args.self.now.kind.now in
    let law = g.met.K.RecordKind.lawful c.args.self.now.kind.now in
    let key = c.args.self.now.key.now in
    let n = c.args.node.children in
    let rest = c.args.node.rest.now in
    let row = c.of_keys-s_keys in
    let many = row.ensures.count (omega (
      arith,
      c.requires.rest,
      c.requires.children.1,
      length-take (length rest - 2 * n) (drop (2 * n) rest),
      length-drop (2 * n) rest,
      keys_fit (n - 1) k.key_width 7 (omega (arith, c.requires.children.1)) law.key_most,
    )) in
    let place = c.partition_point-i in
    let d = place.ensures.divides (λ a. is_le (k.order a key)) (λ a b e. search rules) in
    child_found k law key rest (drop (2 * n) rest) row.result.bytes.now row.result.key_width row.result.value_width
    row.result.count (n - 1) place.result c.from_be_bytes.result row.ensures.widths.0 row.ensures.widths.1
    many (row.ensures.bytes ∙ take_rest rest (2 * n))
    (omega (arith, c.requires.rest, c.requires.children.1, place.ensures.within, many))
    c.from_be_bytes.ensures d
