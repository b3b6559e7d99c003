-- An inner node's page that keeps every rule: its parts are those of the page.
use Rattle.std.proofs.Common.{◌≡◌, ◌+◌, ◌-◌, ◌*◌, drop, ap, ◌∙◌, arith}
use Rattle.layout.specs.Nodes.{child_count_on, children_from, children_on, inspect_inner_node}
use Rattle.inspect.proofs.NodeTold.{keys_part, zero_part}
use Rattle.inspect.proofs.node_page.inspect_inner_node.Goals as goal

pub returns-clause-answer : goal.returns-clause-answer
unfolding inspect_inner_node
returns-clause-answer g c = λ pages before is h.
    let k = g.K.RecordKind.model c.args.range.ground.kind.now in
    let w = k.key_width in
    let page = c.args.page.now in
    let rest = c.node_parts-parts.result.rest.now in
    let n = c.node_parts-parts.result.children in
    let counted : n ≡ child_count_on page = c.node_parts-parts.ensures.children.0 in
    let keys = drop (3 + 2 * child_count_on page) page in
    let keyed = keys_part page rest n c.node_parts-parts.ensures.rest in
    let on : children_from w (n - 1) rest keys ≡ children_on w page =
    ap (λ m. children_from w (m - 1) rest keys) counted
    ∙ ap (λ r. children_from w (child_count_on page - 1) r keys) c.node_parts-parts.ensures.rest in
    let listed = c.list_slots.ensures.lists w keys before h in
    let s_keys = c.are_good_s_keys.ensures rest in
    let zeroed = zero_part page _ n w c.key_width.result keyed c.key_width.ensures in
    grind (arith, is, counted, keyed, on, listed, s_keys, zeroed)
