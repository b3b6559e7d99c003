-- Leaf pages one before the next: what the recursion tells of the others.
use Rattle.std.proofs.Common.{◌≡◌, ℕ, ◌+◌, ◌-◌, ◌*◌, ◌≤◌, min, Err, sym, subst, ap, ◌∙◌, arith}
use Rattle.std.proofs.lemmas.List.{take_rest}
use Rattle.std.proofs.lemmas.Result.{err_from_is_err_and}
use Rattle.records.specs.Kind.{Kind, record_width}
use Rattle.shape.specs.declared.size.Shape.{Shape}
use Rattle.stores.specs.Store.{page_at}
use Rattle.stores.proofs.Looking.{looked_once, looked_then}
use Rattle.layout.specs.LeafPages.{inspect_leaf_pages}
use Rattle.layout.proofs.RowsFit.{entries_fit}
use Rattle.inspect.specs.Bounds.{low_of, high_of}
use Rattle.inspect.proofs.LeafPagesTold.{has_entry, pages_broken, pages_more}
use Rattle.inspect.proofs.d_tree.+inspect_leaf_pages.Goals as goal

pub returns-then-n-eq0-clause-answer : goal.returns-then-n-eq0-clause-answer
unfolding inspect_leaf_pages
returns-then-n-eq0-clause-answer g t c = rw c.if-n-eq0.true

pub returns-in_err-inspect_leaf_page-clause-answer : goal.returns-in_err-inspect_leaf_page-clause-answer
returns-in_err-inspect_leaf_page-clause-answer g t c =
    let k = g.K.RecordKind.model c.args.range.ground.kind.now in
    let E = c.args.range.ground.shape.per_page in
    let q = err_from_is_err_and c.from_residual-in_err-inspect_leaf_page.result
    c.from_residual-in_err-inspect_leaf_page.ensures.1 in
    let many : c.min-t.result ≡ min E c.args.s =
    c.min-t.ensures ∙ ap (λ e. min e c.args.s) c.per_page-per_page.ensures in
    let told = rw (many, c.key_width-w.ensures, c.in_ok-read.ensures.page) at c.in_err-inspect_leaf_page.ensures in
    q.1 ∙ ap Err q.2
    ∙ sym (pages_broken k E (page_at (g.S.PageStore.state c.args.store.now).pages) c.args.leaf
    (high_of c.args.range.high) c.args.n c.args.s (low_of c.args.range.low) c.args.firsts.now c.args.p
    c.in_err-inspect_leaf_page.field-0.0 (omega arith) (sym told))

room_for :
    (k : Kind) (shape : Shape) (t : ℕ) → shape.record_width ≡ record_width k → t ≤ shape.per_page
    → 9 + t * record_width k ≤ 512
room_for k shape t width few =
    entries_fit t shape.per_page (record_width k) few (subst (λ w. shape.per_page * w ≤ 503) width shape.room)

pub past-requires : goal.past-requires
past-requires g t c =
    let k = g.K.RecordKind.model c.args.range.ground.kind.now in
    let E = c.args.range.ground.shape.per_page in
    let many : c.min-t.result ≡ min E c.args.s =
    c.min-t.ensures ∙ ap (λ e. min e c.args.s) c.per_page-per_page.ensures in
    let row = c.of_entries-row.ensures in
    let full : 1 ≤ min E c.args.s =
    has_entry c.args.n E c.args.s (omega arith) c.args.range.ground.shape.some c.requires.entries in
    let count = row.count (room_for k c.args.range.ground.shape _ c.args.range.ground.width (omega (arith, many))) in
    c.key-last.ensures.long (omega (arith, count, many, full)) ∙ row.widths.0

pub returns-clause-answer : goal.returns-clause-answer
returns-clause-answer g t c =
    let k = g.K.RecordKind.model c.args.range.ground.kind.now in
    let E = c.args.range.ground.shape.per_page in
    let pages = page_at (g.S.PageStore.state c.args.store.now).pages in
    let many : c.min-t.result ≡ min E c.args.s =
    c.min-t.ensures ∙ ap (λ e. min e c.args.s) c.per_page-per_page.ensures in
    let told = rw (many, c.key_width-w.ensures, c.in_ok-read.ensures.page) at c.in_ok-inspect_leaf_page.ensures in
    let row = c.of_entries-row.ensures in
    let full : 1 ≤ min E c.args.s =
    has_entry c.args.n E c.args.s (omega arith) c.args.range.ground.shape.some c.requires.entries in
    let count = row.count (room_for k c.args.range.ground.shape _ c.args.range.ground.width (omega (arith, many))) in
    let there = c.key-last.ensures.key (omega (arith, count, many, full)) in
    let last = rw (row.widths.0, row.widths.1, row.bytes, many, c.in_ok-read.ensures.page) at there in
    let rest = rw (
      c.past.ensures.ground,
      c.past.ensures.low,
      c.past.ensures.high,
      c.saturating_sub-rest.ensures,
      c.per_page-per_page.ensures,
      take_rest c.args.firsts.now c.key_width-w.result,
      c.key_width-w.ensures,
      c.in_ok-read.ensures.then,
    ) at c.inspect_leaf_pages.ensures.answer in
    rest
    ∙ sym (pages_more k E pages c.args.leaf (high_of c.args.range.high) c.args.n c.args.s (low_of c.args.range.low)
    c.args.firsts.now c.key-last.result.now c.args.p (omega arith) full last (sym told))

pub returns-clause-looked : goal.returns-clause-looked
returns-clause-looked g t c =
    let s₀ = g.S.PageStore.state c.args.store.now in
    let s₁ = g.S.PageStore.state c.read.new.self in
    looked_then s₀ s₁ _ 1 (c.args.n - 1) c.args.n (looked_once s₀ s₁ 1 c.in_ok-read.ensures.then (omega arith))
    c.inspect_leaf_pages.ensures.looked (omega arith)
