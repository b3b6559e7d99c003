-- A whole store: once page 0 was read, its inspection is that of page 0, then the last page of the used slots, then the
-- tree. The code ends where one of these fails, or where all passed; then it touched two pages and those of the walk,
-- which are at most W for each used slot, since there are no more nodes than used slots.
use Rattle.std.proofs.Common.{◌≡◌, ℕ, ◌+◌, ◌-◌, ◌*◌, ◌≤◌, Bool, true, false, eqb, ltb, List, length, get_or, Ok, Err, Result, sym, refl, ap, ◌∙◌, subst, mul-le-mul_right, mul_comm, arith}
use Rattle.std.proofs.lemmas.Bool.{lt-ltb, le-ltb}
use Rattle.records.specs.Kind as kinds
use Rattle.records.specs.Kind.{Kind, record_width}
use Rattle.stores.specs.Store as stores
use Rattle.stores.specs.Store.{StoreState, WasRead, page_at}
use Rattle.shape.specs.Shape.{Shape, slot_pages_of, legal}
use Rattle.tree.proofs.Levels.{nodes_used}
use Rattle.layout.specs.Pages.{Header}
use Rattle.layout.specs.Checked.{Checked, require, then}
use Rattle.layout.specs.Holds.{ByteTree, Stored, header_for}
use Rattle.layout.specs.Walk.{walk_tree}
use Rattle.layout.specs.Inspection.{not_there, header_on, good_header, stored_by}
use Rattle.layout.specs.Inspection.{inspect_nodes, inspect_by, inspection}
use Rattle.layout.specs.declared.faults.OpenFault.{OpenFault}
use Rattle.layout.specs.declared.faults.OpenFault.TheVariants.{OtherKind, ShapeLimits, Page}
use Rattle.layout.specs.declared.faults.PageFault.{PageFault}
use Rattle.layout.specs.declared.faults.PageFault.TheVariants.{Layout}
use Rattle.layout.specs.declared.faults.Rule.TheVariants.{HeaderNumbers}
use Rattle.layout.proofs.Checked.{require_ok}
use Rattle.layout.proofs.Inspection.{accepts_what_is_held, found_header}
use Rattle.inspect.specs.Bounds.{told}
use Rattle.stores.specs.Looked.{Looked}
use Rattle.inspect.specs.Page0.{header_held, inspect_header}
use Rattle.inspect.specs.Walked.{nodes_of}
use Rattle.stores.proofs.Looking.{looked_once, looked_then}
use Rattle.inspect.proofs.WalkTold.{told_err}

-- what comes after a test and the tests behind it comes after those
require_then :
    {A B E : Type 0} (b : Bool) (fault : E) (x : Result A E) (next : A → Result B E)
    → then (require b fault x) next ≡ require b fault (then x next)
require_then true fault x next = refl
require_then false fault x next = refl

told_found : {A : Type 0} (x : Checked A) → Ok tt ≡ told x → (t : A) × (x ≡ Ok t)
told_found (Ok t) e = (t, refl)
told_found (Err g) e = let z : ◌≡◌ {A = ℕ} 0 1 = cc in absurd (omega arith)

ok_same : {A E : Type 0} {x y : A} → ◌≡◌ {A = Result A E} (Ok x) (Ok y) → x ≡ y
ok_same e = cc

-- numbers of page 0 that passed its tests are those on the page
header_on_lem : (kind : Kind) (page : List ℕ) (h : Header) → Ok h ≡ inspect_header kind page → h ≡ header_on page
header_on_lem kind page h e =
    let on = header_on page in
    let number = require_ok (eqb (get_or page 0 0) kind.number) OtherKind _ h (sym e) in
    let shape = require_ok (legal (record_width kind) on.shape) ShapeLimits _ h number.1 in
    let rest = require_ok (good_header on page) (Page (Layout 0 HeaderNumbers)) (Ok on) h shape.1 in
    sym (ok_same rest.1)

-- what the inspection of a tree tells, and what it touched if it found one
abbrev pub TreeRead :
    Kind → (ℕ → List ℕ) → Shape → (used height root : ℕ) → StoreState → StoreState → Result Unit PageFault → Type 0
TreeRead kind page shape used height root n b r =
    (r ≡ told (walk_tree kind shape page used height root))
    × ((t : ByteTree height) → walk_tree kind shape page used height root ≡ Ok t
    → Looked n (slot_pages_of shape * nodes_of height t) b)

-- the last page of the used slots
abbrev pub last_page : Header → ℕ
last_page h = h.used * slot_pages_of h.shape

-- it is the page that the code computes from the header's numbers
pub last_by :
    (h : Header) (shape : Shape) (used used' W W' : ℕ) → shape ≡ h.shape → used ≡ used' → used' ≡ h.used
    → W ≡ W' → W' ≡ slot_pages_of shape → used * W ≡ last_page h
last_by h shape used used' W W' s u u' w w' =
    ap (λ n. n * W) (u ∙ u') ∙ ap (λ n. h.used * n) (w ∙ w' ∙ ap slot_pages_of s)

module _ (kind : Kind) (law : kinds.Lawful kind) (a : StoreState) (whole : stores.Lawful a) where
  abbrev pages : List (List ℕ)
  pages = a.pages

  -- what the inspection of the store tells and leaves
  pub record StoreEnded (found : Result Header OpenFault) (b : StoreState) : Type 0 where
    pub pages : b.pages ≡ a.pages
    pub answer : found ≡ header_held (inspection kind a.pages)
    pub looked :
        (s : Stored) → inspection kind a.pages ≡ Ok s
        → Looked a (2 + s.index.used * slot_pages_of s.shape) b

  -- what is inspected after page 0
  abbrev after_page0 : Header → Result Stored OpenFault
  after_page0 h =
      require (ltb (last_page h) (length pages)) (not_there pages (last_page h)) (inspect_nodes kind (page_at pages) h)

  -- the inspection of the tree, by the numbers of page 0
  abbrev pub TreeBy : Header → Result Unit PageFault → StoreState → StoreState → Type 0
  TreeBy h r n b = TreeRead kind (page_at pages) h.shape h.used (h.levels - 1) h.root n b r

  pub tree_by :
      (h : Header) (n b : StoreState) (r : Result Unit PageFault) → n.pages ≡ a.pages
      → TreeRead kind (page_at n.pages) h.shape h.used (h.levels - 1) h.root n b r → TreeBy h r n b
  tree_by h n b r p x = subst (λ ps. TreeRead kind (page_at ps) h.shape h.used (h.levels - 1) h.root n b r) p x

  from_page_0 :
      (m : StoreState) (page : List ℕ) → WasRead a 0 m page
      → inspection kind a.pages ≡ then (inspect_header kind page) after_page0
  unfolding inspection inspect_by
  from_page_0 m page w =
      let t0 : ltb 0 (length pages) ≡ true = lt-ltb 0 (length pages) w.there in
      rw (t0, w.page, require_then, require_then, require_then)

  refused :
      (e : OpenFault) (found : Result Header OpenFault) (b : StoreState) → b.pages ≡ a.pages → found ≡ Err e
      → inspection kind a.pages ≡ Err e → StoreEnded found b
  refused e found b kept is i = record {
    pages = kept;
    answer = is ∙ sym (ap header_held i);
    looked = λ s q. let z : ◌≡◌ {A = ℕ} 0 1 = cc in absurd (omega arith);
  }

  pub page_0_missing :
      (found : Result Header OpenFault) (b : StoreState) → length a.pages ≤ 0 → b ≡ a
      → found ≡ Err (not_there a.pages 0) → StoreEnded found b
  unfolding inspection
  page_0_missing found b none same is =
      let none' : ltb 0 (length pages) ≡ false = le-ltb 0 (length pages) none in
      refused (not_there pages 0) found b (ap (λ x. x.pages) same) is (rw none')

  pub page_0_refused :
      (page : List ℕ) (m : StoreState) (e : OpenFault) (found : Result Header OpenFault) → WasRead a 0 m page
      → Err e ≡ inspect_header kind page → found ≡ Err e → StoreEnded found m
  page_0_refused page m e found w h is =
      refused e found m (ap (λ x. x.pages) w.then) is
      (from_page_0 m page w ∙ ap (λ x. then x after_page0) (sym h))

  module _
      (page page' : List ℕ) (h : Header) (m : StoreState) (w : WasRead a 0 m page)
      (passed : Ok h ≡ inspect_header kind page) (p : ℕ) (last : p ≡ last_page h)
    where
      kept : m.pages ≡ a.pages
      kept = ap (λ x. x.pages) w.then

      from_last : inspection kind a.pages ≡ after_page0 h
      from_last = from_page_0 m page w ∙ ap (λ x. then x after_page0) (sym passed)

      pub last_missing :
          (found : Result Header OpenFault) (b : StoreState) → length m.pages ≤ p → b ≡ m
          → found ≡ Err (not_there m.pages p) → StoreEnded found b
      last_missing found b past same is =
          let short : ltb (last_page h) (length a.pages) ≡ false =
          le-ltb (last_page h) (length a.pages) (rw (kept, last) at past) in
          refused (not_there a.pages (last_page h)) found b (ap (λ x. x.pages) same ∙ kept)
          (is ∙ ap (λ ps. Err (not_there ps p)) kept ∙ ap (λ q. Err (not_there a.pages q)) last)
          (from_last ∙ rw short)

      module _ (n b : StoreState) (v : WasRead m p n page') (end : b.pages ≡ n.pages) where
        kept' : b.pages ≡ a.pages
        kept' = end ∙ ap (λ x. x.pages) v.then ∙ kept

        from_root : inspection kind a.pages ≡ inspect_nodes kind (page_at a.pages) h
        from_root =
            let long : ltb (last_page h) (length a.pages) ≡ true =
            lt-ltb (last_page h) (length a.pages) (rw (kept, last) at v.there) in
            from_last ∙ rw long

        pub tree_refused :
            (f : PageFault) (found : Result Header OpenFault) → TreeBy h (Err f) n b → found ≡ Err (Page f)
            → StoreEnded found b
        unfolding inspect_nodes
        tree_refused f found t is =
            let x = told_err _ f t.0 in
            refused (Page f) found b kept' is (from_root ∙ rw x)

        -- the tree that the walk found, as the index that the inspection found
        tree_is :
            (t : ByteTree (h.levels - 1))
            → walk_tree kind h.shape (page_at a.pages) h.used (h.levels - 1) h.root ≡ Ok t
            → inspection kind a.pages ≡ Ok (stored_by h t)
        unfolding inspect_nodes
        tree_is t e = from_root ∙ rw e

        -- two pages, and W for each node
        tree_looked :
            (t : ByteTree (h.levels - 1)) → inspection kind a.pages ≡ Ok (stored_by h t)
            → Looked n (slot_pages_of h.shape * nodes_of (h.levels - 1) t) b → Looked a (2 + last_page h) b
        tree_looked t i look =
            let W = slot_pages_of h.shape in
            let nodes = nodes_of (h.levels - 1) t in
            let s = stored_by h t in
            let held = (accepts_what_is_held kind law a whole s).0 i in
            let few : nodes ≤ h.used = nodes_used s.index held.sound.slots in
            let most : W * nodes ≤ last_page h =
            omega (arith, mul_comm W nodes, mul-le-mul_right {m = nodes} {n = h.used} W few) in
            let first = looked_once a m 1 w.then (omega arith) in
            let second = looked_once m n 1 v.then (omega arith) in
            let reads = looked_then a m n 1 1 2 first second (omega arith) in
            looked_then a n b 2 (W * nodes) (2 + last_page h) reads look (omega arith)

        pub tree_found : TreeBy h (Ok tt) n b → StoreEnded (Ok h) b
        tree_found t =
            let x = told_found _ t.0 in
            let i = tree_is x.0 x.1 in
            let look = tree_looked x.0 i (t.1 x.0 x.1) in
            let numbers : h ≡ header_for (stored_by h x.0) =
            header_on_lem kind page h passed ∙ ap header_on w.page
            ∙ sym (found_header kind law a whole (stored_by h x.0) i) in
            record {
              pages = kept';
              answer = ap Ok numbers ∙ sym (ap header_held i);
              looked = λ s q.
                  let e : stored_by h x.0 ≡ s = ok_same (sym i ∙ q) in
                  subst (λ z. Looked a (2 + z.index.used * slot_pages_of z.shape) b) e look;
            }
