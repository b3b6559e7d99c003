-- The whole tree: each exit by what the walk from the root ended with.
use Rattle.std.proofs.Common.{◌-◌, [], ◌∷◌, eqb, Err, ap, ◌∙◌}
use Rattle.std.proofs.lemmas.Result.{err_from_is_err_and}
use Rattle.stores.specs.Store.{page_at}
use Rattle.shape.specs.Made.{chosen}
use Rattle.layout.specs.declared.faults.Rule.TheVariants.{SlotsReached}
use Rattle.inspect.proofs.TreeTold.{kept_is, root_broken, root_walked}
use Rattle.inspect.proofs.whole_tree.inspect_tree.Goals as goal

pub returns-in_err-walk : goal.returns-in_err-walk
returns-in_err-walk g c =
    let k = g.K.RecordKind.model c.args.kind.now in
    let header = c.args.header.now in
    let s₀ = g.S.PageStore.state c.args.store.now in
    let s₁ = g.S.PageStore.state c.walk.new.store in
    let q = err_from_is_err_and c.from_residual.result c.from_residual.ensures.1 in
    let all = c.all.ensures in
    let walked = rw (
      all.ground,
      all.low,
      all.high,
      c.shape.ensures,
      c.used.ensures,
      c.levels.ensures,
      c.root-root.ensures,
    ) at (c.in_err-walk.ensures.answer (c.root-root.result ∷ []) c.root-listed.ensures) in
    let ended = root_broken k (chosen header.shape) (page_at s₀.pages) header.used (header.levels - 1) header.root
    c.walk.new.listed s₀ s₁ c.in_err-walk.field-0.0 c.from_residual.result (q.1 ∙ ap Err q.2) walked in
    record { pages = c.in_err-walk.ensures.pages; answer = ended.0; looked = ended.1 }

pub returns : goal.returns
returns g c =
    let k = g.K.RecordKind.model c.args.kind.now in
    let header = c.args.header.now in
    let s₀ = g.S.PageStore.state c.args.store.now in
    let s₁ = g.S.PageStore.state c.walk.new.store in
    let l = c.walk.new.listed in
    let all = c.all.ensures in
    let walked = rw (
      all.ground,
      all.low,
      all.high,
      c.shape.ensures,
      c.used.ensures,
      c.levels.ensures,
      c.root-root.ensures,
    ) at (c.in_ok-walk.ensures.answer (c.root-root.result ∷ []) c.root-listed.ensures) in
    let kept = kept_is (eqb l.count c.used.result) 0 SlotsReached c.keep.result c.keep.ensures in
    let ended = root_walked k (chosen header.shape) (page_at s₀.pages) header.used (header.levels - 1) header.root
    l s₀ s₁ c.keep.result header.few (rw c.used.ensures at kept) walked in
    record { pages = c.in_ok-walk.ensures.pages; answer = ended.0; looked = ended.1 }
