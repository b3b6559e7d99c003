-- The whole store: each exit by what was read and told before it.
use Rattle.std.proofs.Common.{Ok, Err, ap, ◌∙◌}
use Rattle.std.proofs.lemmas.Result.{IfOk-from_err, err_from_is_err_and}
use Rattle.shape.specs.Made.{chosen}
use Rattle.layout.specs.Header.{header_of}
use Rattle.layout.specs.declared.faults.OpenFault.TheVariants.{Page}
use Rattle.inspect.specs.Page0.{header_found}
use Rattle.inspect.proofs.StoreTold.{page_0_missing, page_0_refused, last_by, last_missing}
use Rattle.inspect.proofs.StoreTold.{tree_by, tree_refused, tree_found}
use Rattle.inspect.proofs.whole_store.inspect_store.Goals as goal

pub returns-in_err-read_page : goal.returns-in_err-read_page
returns-in_err-read_page g c =
    let k = g.K.RecordKind.model c.args.kind.now in
    let law = g.met.K.RecordKind.lawful c.args.kind.now in
    let a = g.S.PageStore.state c.args.store.now in
    let whole = g.S.PageStore.lawful c.args.store.now in
    let r = c.from_residual.result in
    let q = err_from_is_err_and r c.from_residual.ensures.1 in
    let missing = c.in_err-read_page.ensures in
    let ended = page_0_missing k law a whole (header_found r) (g.S.PageStore.state c.read_page.new.store)
    missing.1 missing.2 (ap header_found (q.1 ∙ ap Err (q.2 ∙ ap Page missing.0))) in
    let width = IfOk-from_err r _ c.from_residual.ensures.0 in
    record { pages = ended.pages; width = width; answer = ended.answer; looked = ended.looked }

pub returns-in_err-header : goal.returns-in_err-header
returns-in_err-header g c =
    let k = g.K.RecordKind.model c.args.kind.now in
    let law = g.met.K.RecordKind.lawful c.args.kind.now in
    let a = g.S.PageStore.state c.args.store.now in
    let whole = g.S.PageStore.lawful c.args.store.now in
    let r = c.from_residual-in_err-header.result in
    let q = err_from_is_err_and r c.from_residual-in_err-header.ensures.1 in
    let ended =
    page_0_refused k law a whole c.read_page.new.page (g.S.PageStore.state c.read_page.new.store)
    c.in_err-header.field-0.0 (header_found r) c.in_ok-read_page.ensures
    c.in_err-header.ensures.answer (ap header_found (q.1 ∙ ap Err q.2)) in
    let width = IfOk-from_err r _ c.from_residual-in_err-header.ensures.0 in
    record { pages = ended.pages; width = width; answer = ended.answer; looked = ended.looked }

pub returns-in_err-read_page-2 : goal.returns-in_err-read_page-2
returns-in_err-read_page-2 g c =
    let k = g.K.RecordKind.model c.args.kind.now in
    let law = g.met.K.RecordKind.lawful c.args.kind.now in
    let a = g.S.PageStore.state c.args.store.now in
    let whole = g.S.PageStore.lawful c.args.store.now in
    let m = g.S.PageStore.state c.read_page.new.store in
    let n = g.S.PageStore.state c.read_page-2.new.store in
    let read = c.in_ok-read_page.ensures in
    let passed = c.in_ok-header.ensures in
    let h = header_of c.in_ok-header.header in
    let shape = ap chosen c.shape.ensures in
    let last =
    last_by h (chosen c.shape.result) c.from.result c.used.result c.from-2.result
    c.slot_pages.result shape c.from.ensures c.used.ensures c.from-2.ensures c.slot_pages.ensures in
    let missing = c.in_err-read_page-2.ensures in
    let r = c.from_residual-in_err-read_page-2.result in
    let q = err_from_is_err_and r c.from_residual-in_err-read_page-2.ensures.1 in
    let ended =
    last_missing k law a whole c.read_page.new.page c.read_page-2.new.page h m read passed.answer _ last
    (header_found r) n missing.1 missing.2 (ap header_found (q.1 ∙ ap Err (q.2 ∙ ap Page missing.0))) in
    let width = IfOk-from_err r _ c.from_residual-in_err-read_page-2.ensures.0 in
    record { pages = ended.pages; width = width; answer = ended.answer; looked = ended.looked }

pub returns-in_err-inspect_tree : goal.returns-in_err-inspect_tree
returns-in_err-inspect_tree g c =
    let k = g.K.RecordKind.model c.args.kind.now in
    let law = g.met.K.RecordKind.lawful c.args.kind.now in
    let a = g.S.PageStore.state c.args.store.now in
    let whole = g.S.PageStore.lawful c.args.store.now in
    let m = g.S.PageStore.state c.read_page.new.store in
    let n = g.S.PageStore.state c.read_page-2.new.store in
    let b = g.S.PageStore.state c.inspect_tree.new.store in
    let read = c.in_ok-read_page.ensures in
    let passed = c.in_ok-header.ensures in
    let h = header_of c.in_ok-header.header in
    let shape = ap chosen c.shape.ensures in
    let last =
    last_by h (chosen c.shape.result) c.from.result c.used.result c.from-2.result
    c.slot_pages.result shape c.from.ensures c.used.ensures c.from-2.ensures c.slot_pages.ensures in
    let read' = c.in_ok-read_page-2.ensures in
    let tree = c.in_err-inspect_tree.ensures in
    let r = c.from_residual-in_err-inspect_tree.result in
    let q = err_from_is_err_and r c.from_residual-in_err-inspect_tree.ensures.1 in
    let f = c.in_err-inspect_tree.field-0.0 in
    let ended =
    tree_refused k law a whole c.read_page.new.page c.read_page-2.new.page h m read passed.answer _ last
    n b read' tree.pages f (header_found r)
    (tree_by k law a whole h n b (Err f)
    (ap (λ x. x.pages) read'.then ∙ ap (λ x. x.pages) read.then)
    (tree.answer, tree.looked))
    (ap header_found (q.1 ∙ ap Err q.2)) in
    let width = IfOk-from_err r _ c.from_residual-in_err-inspect_tree.ensures.0 in
    record { pages = ended.pages; width = width; answer = ended.answer; looked = ended.looked }

pub returns : goal.returns
returns g c =
    let k = g.K.RecordKind.model c.args.kind.now in
    let law = g.met.K.RecordKind.lawful c.args.kind.now in
    let a = g.S.PageStore.state c.args.store.now in
    let whole = g.S.PageStore.lawful c.args.store.now in
    let m = g.S.PageStore.state c.read_page.new.store in
    let n = g.S.PageStore.state c.read_page-2.new.store in
    let b = g.S.PageStore.state c.inspect_tree.new.store in
    let read = c.in_ok-read_page.ensures in
    let passed = c.in_ok-header.ensures in
    let read' = c.in_ok-read_page-2.ensures in
    let tree = c.in_ok-inspect_tree.ensures in
    let h = header_of c.in_ok-header.header in
    let shape = ap chosen c.shape.ensures in
    let last =
    last_by h (chosen c.shape.result) c.from.result c.used.result c.from-2.result
    c.slot_pages.result shape c.from.ensures c.used.ensures c.from-2.ensures c.slot_pages.ensures in
    let ended =
    tree_found k law a whole c.read_page.new.page c.read_page-2.new.page h m read passed.answer _ last
    n b read' tree.pages
    (tree_by k law a whole h n b (Ok tt)
    (ap (λ x. x.pages) read'.then ∙ ap (λ x. x.pages) read.then)
    (tree.answer, tree.looked)) in
    record { pages = ended.pages; width = passed.width; answer = ended.answer; looked = ended.looked }
