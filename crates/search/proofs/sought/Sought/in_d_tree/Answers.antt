use Rattle.std.proofs.Common.{◌+◌, ◌-◌, ◌*◌, min, sym, refl, ap, ◌∙◌, arith}
use Rattle.stores.specs.Store.{page_at}
use Rattle.stores.proofs.Looking.{looked_then}
use Rattle.shape.specs.Shape.{ceiling}
use Rattle.search.proofs.OnDTree.{found_none, leaf_searched, found_there}
use Rattle.search.proofs.sought.Sought.in_d_tree.Goals as goal

pub returns-in_err-pages-clause-answer : goal.returns-in_err-pages-clause-answer
returns-in_err-pages-clause-answer g c =
    let shape = c.args.self.now.shape in
    let filled = c.leaf_pages.ensures.count in
    λ es on long valid.
    absurd (c.in_err-pages.ensures.answer es (filled ∙ ap (λ n. ceiling n shape.per_page) (sym long)) on valid)

pub returns-then-pages-eq0-clause-answer : goal.returns-then-pages-eq0-clause-answer
returns-then-pages-eq0-clause-answer g c =
    let k = g.K.RecordKind.model c.args.self.now.kind.now in
    let law = g.met.K.RecordKind.lawful c.args.self.now.kind.now in
    let s₀ = g.S.PageStore.state c.args.store.now in
    let shape = c.args.self.now.shape in
    let filled = c.leaf_pages.ensures.count in
    λ es on long valid.
    found_none k law shape.per_page (page_at s₀.pages) c.args.p es shape.some on c.args.self.now.key.now
    c.in_ok-pages.pages c.if-pages-eq0.true
    (c.in_ok-pages.ensures.answer es (filled ∙ ap (λ n. ceiling n shape.per_page) (sym long)) on valid)

pub returns-in_err-place : goal.returns-in_err-place
returns-in_err-place g c =
    let k = g.K.RecordKind.model c.args.self.now.kind.now in
    let law = g.met.K.RecordKind.lawful c.args.self.now.kind.now in
    let s₀ = g.S.PageStore.state c.args.store.now in
    let s₁ = g.S.PageStore.state c.pages_up_to.new.store in
    let s₂ = g.S.PageStore.state c.in_leaf_page.new.store in
    let shape = c.args.self.now.shape in
    let E = shape.per_page in
    let per = c.per_page-per_page in
    let p = c.args.p in
    let n = c.in_ok-pages.pages in
    let up = c.in_ok-pages.ensures in
    let leaf = c.in_err-place.ensures in
    let filled = c.leaf_pages.ensures.count in
    record {
      looked = looked_then s₀ s₁ s₂ 1 1 2 up.looked leaf.looked (omega arith);
      answer = λ es on long valid.
          let u = up.answer es (filled ∙ ap (λ n. ceiling n E) (sym long)) on valid in
          let here = leaf_searched k law E (page_at s₀.pages) p es shape.some on c.args.self.now.key.now n (p + n)
          c.min-t.result (omega arith) u refl
          (c.min-t.ensures ∙ ap (λ m. min m (c.args.s - (n - 1) * m)) per.ensures
          ∙ ap (λ m. min E (m - (n - 1) * E)) (sym long)) in
          absurd (leaf.answer _ (ap (λ x. page_at x (p + n)) up.looked.pages ∙ here.page_is) here.counted
          here.good valid);
    }

pub returns : goal.returns
returns g c =
    let k = g.K.RecordKind.model c.args.self.now.kind.now in
    let law = g.met.K.RecordKind.lawful c.args.self.now.kind.now in
    let s₀ = g.S.PageStore.state c.args.store.now in
    let s₁ = g.S.PageStore.state c.pages_up_to.new.store in
    let s₂ = g.S.PageStore.state c.in_leaf_page.new.store in
    let key = c.args.self.now.key.now in
    let shape = c.args.self.now.shape in
    let E = shape.per_page in
    let per = c.per_page-per_page in
    let p = c.args.p in
    let n = c.in_ok-pages.pages in
    let up = c.in_ok-pages.ensures in
    let leaf = c.in_ok-place.ensures in
    let filled = c.leaf_pages.ensures.count in
    record {
      looked = looked_then s₀ s₁ s₂ 1 1 2 up.looked leaf.looked (omega arith);
      answer = λ es on long valid.
          let u = up.answer es (filled ∙ ap (λ n. ceiling n E) (sym long)) on valid in
          let here = leaf_searched k law E (page_at s₀.pages) p es shape.some on key n (p + n)
          c.min-t.result (omega arith) u refl
          (c.min-t.ensures ∙ ap (λ m. min m (c.args.s - (n - 1) * m)) per.ensures
          ∙ ap (λ m. min E (m - (n - 1) * E)) (sym long)) in
          found_there k law E (page_at s₀.pages) p es shape.some on key per.result n c.in_ok-place.place per.ensures
          (omega arith) u
          (leaf.answer _ (ap (λ x. page_at x (p + n)) up.looked.pages ∙ here.page_is) here.counted here.good
          valid);
    }
