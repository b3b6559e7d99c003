-- The search from a node down: each step ends it or goes on to the child that says what the node says; and from the
-- root it says what the index means.
use Rattle.std.proofs.Common.{◌≡◌, ℕ, zero, suc, ◌-◌, ◌*◌, ◌<◌, ◌≤◌, true, false, leb, List, take, Some, None, Ok, Option, Result, sym, refl, ap, ◌∙◌, subst, arith}
use Rattle.std.proofs.lemmas.Bool.{leb-false}
use Rattle.records.specs.Kind.{Kind, Lawful, record_width}
use Rattle.stores.specs.Store.{StoreState, page_at}
use Rattle.stores.specs.Store as stores
use Rattle.stores.specs.Looked.{Looked}
use Rattle.shape.specs.Shape.{Shape, legal}
use Rattle.tree.specs.Tree.{find, find_in}
use Rattle.tree.specs.Keys.{key_below}
use Rattle.layout.specs.Pages.{Header}
use Rattle.layout.specs.Holds.{ByteTree, Stored, header_for, ValidKey, Holds}
use Rattle.layout.specs.Descent.{Branching}
use Rattle.layout.specs.declared.faults.PageFault.{PageFault}
use Rattle.layout.proofs.Fits.{fits}
use Rattle.layout.proofs.Descent.{root_branching}
use Rattle.search.specs.Found.{value_found}
use Rattle.search.specs.Nodes.{GoesOn, NodeSays, StepAt}
use Rattle.search.specs.declared.descent.Step.{Step}
use Rattle.search.specs.declared.descent.Step.TheVariants.{Found, Absent, Child}

-- the way down through a tree of so many levels; the n lowest of them are left, from the node in a slot on
module _ (kind : Kind) (shape : Shape) (pages : List (List ℕ)) (used : ℕ) (key : List ℕ) where
  abbrev Says : (h slot : ℕ) → Option (List ℕ) → Type 0
  Says = NodeSays kind shape (page_at pages) used key

  abbrev pub LevelsSay : (n slot : ℕ) → Option (List ℕ) → Type 0
  LevelsSay zero slot said = ⊥
  LevelsSay (suc h) slot said = Says h slot said

  -- what is shown of each tree that stands on the pages, by what it says
  abbrev pub EachTree : (levels root : ℕ) → (Option (List ℕ) → Type 0) → Type 0
  EachTree levels root Shown =
      (t : ByteTree (levels - 1)) → legal (record_width kind) shape ≡ true
      → Branching kind shape (page_at pages) used (levels - 1) t → t.slot ≡ root → ValidKey kind key
      → Shown (find (key_below kind) (levels - 1) key t)

  child_says :
      (h child : ℕ) (t : ByteTree h) (said : Option (List ℕ)) → said ≡ find (key_below kind) h key t
      → StepAt kind shape (page_at pages) used key h t (Ok (Child child)) → LevelsSay h child said
  child_says zero child t said e s = absurd s
  child_says (suc h) child t said e s =
      record { node = s.node; at = s.at; branching = s.branching; same = e ∙ s.same }

  pub at_root : (levels root : ℕ) → 1 ≤ levels → EachTree levels root (LevelsSay levels root)
  at_root levels root some t good o is valid =
      let e : levels ≡ suc (levels - 1) = omega arith in
      subst (λ n. LevelsSay n root (find (key_below kind) (levels - 1) key t)) (sym e)
      (record { node = t; at = is; branching = o; same = refl })

  -- the node at which the way stands
  pub stands_at : (n slot : ℕ) (said : Option (List ℕ)) → 1 ≤ n → LevelsSay n slot said → Says (n - 1) slot said
  stands_at n slot said some w =
      subst (λ m. LevelsSay m slot said) (let e : n ≡ suc (n - 1) = omega arith in e) w

  -- what the search at one node promises, on pages that are the same
  abbrev pub NodeTold : (now : List (List ℕ)) (h slot : ℕ) → Result Step PageFault → Type 0
  NodeTold now h slot r =
      (t : ByteTree h) → legal (record_width kind) shape ≡ true → Branching kind shape (page_at now) used h t
      → t.slot ≡ slot → ValidKey kind key → StepAt kind shape (page_at now) used key h t r

  told_here :
      (now : List (List ℕ)) (h slot : ℕ) (said : Option (List ℕ)) (r : Result Step PageFault) → now ≡ pages
      → NodeTold now h slot r → legal (record_width kind) shape ≡ true → ValidKey kind key → (w : Says h slot said)
      → StepAt kind shape (page_at pages) used key h w.node r
  told_here now h slot said r same told good valid w =
      let P : List (List ℕ) → Type 0 = λ x. NodeTold x h slot r in
      subst P same told w.node good w.branching w.at valid

  module _
      (now : List (List ℕ)) (levels root n slot : ℕ) (some : 1 ≤ n) (same : now ≡ pages)
      (way : EachTree levels root (LevelsSay n slot)) where
    abbrev Told : Result Step PageFault → Type 0
    Told = NodeTold now (n - 1) slot

    pub way_broken :
        ((t : ByteTree (n - 1)) → legal (record_width kind) shape ≡ true
        → Branching kind shape (page_at now) used (n - 1) t → t.slot ≡ slot → ValidKey kind key → ⊥)
        → EachTree levels root (λ said. ⊥)
    way_broken told t good o is valid =
        let w = stands_at n slot _ some (way t good o is valid) in
        let stands = subst (λ x. Branching kind shape (page_at x) used (n - 1) w.node) (sym same) w.branching in
        told w.node good stands w.at valid

    pub way_found :
        (step : Step) (value : List ℕ) → step ≡ Found value → Told (Ok step)
        → EachTree levels root (λ said. Some (take kind.value_width value) ≡ said)
    way_found step value e told t good o is valid =
        let w = stands_at n slot _ some (way t good o is valid) in
        let told' : Told (Ok (Found value)) = subst (λ x. Told (Ok x)) e told in
        sym (w.same ∙ told_here now (n - 1) slot _ (Ok (Found value)) same told' good valid w)

    pub way_absent : (step : Step) → step ≡ Absent → Told (Ok step) → EachTree levels root (λ said. None ≡ said)
    way_absent step e told t good o is valid =
        let w = stands_at n slot _ some (way t good o is valid) in
        let told' : Told (Ok Absent) = subst (λ x. Told (Ok x)) e told in
        sym (w.same ∙ told_here now (n - 1) slot _ (Ok Absent) same told' good valid w)

    pub way_down :
        (step : Step) (child : ℕ) → step ≡ Child child → Told (Ok step)
        → EachTree levels root (LevelsSay (n - 1) child)
    way_down step child e told t good o is valid =
        let w = stands_at n slot _ some (way t good o is valid) in
        let told' : Told (Ok (Child child)) = subst (λ x. Told (Ok x)) e told in
        child_says (n - 1) child w.node _ w.same
        (told_here now (n - 1) slot _ (Ok (Child child)) same told' good valid w)

-- what holds each time before the next node is asked
pub record OnTheWay
    (kind : Kind) (shape : Shape) (before now : StoreState) (used : ℕ) (key : List ℕ) (levels root n slot : ℕ)
    : Type 0 where
  pub some : 1 ≤ n
  pub inside : slot < used
  pub looked : Looked before (3 * (levels - n)) now
  pub says : EachTree kind shape before.pages used key levels root (LevelsSay kind shape before.pages used key n slot)

pub goes_below :
    (used h : ℕ) (step : Step) (slot : ℕ) → step ≡ Child slot → GoesOn used h step → (1 ≤ h) × (slot < used)
goes_below used h step slot e g = subst (GoesOn used h) e g

-- from the root, by the numbers of page 0
module _
    (kind : Kind) (law : Lawful kind) (store : StoreState) (whole : stores.Lawful store) (key : List ℕ) (s : Stored)
    (held : Holds kind store.pages s) where
  pub told_from_root :
      (h : Header) (shape : Shape) (used height root : ℕ) (r : Result (Option (List ℕ)) PageFault)
      → h ≡ header_for s → shape ≡ h.shape
      → used ≡ h.used → height ≡ h.levels - 1 → root ≡ h.root
      → ((t : ByteTree height) → legal (record_width kind) shape ≡ true
      → Branching kind shape (page_at store.pages) used height t → t.slot ≡ root
      → value_found kind.value_width r ≡ Ok (find (key_below kind) height key t))
      → value_found kind.value_width r ≡ Ok (find_in (key_below kind) s.index key)
  told_from_root h shape used height root r e a b c d told =
      let shape_is : shape ≡ s.shape = a ∙ ap (λ x. x.shape) e in
      let used_is : used ≡ s.index.used = b ∙ ap (λ x. x.used) e in
      let tall : h.levels ≡ suc s.index.height = ap (λ x. x.levels) e in
      let height_is : height ≡ s.index.height = c ∙ omega (arith, tall) in
      let root_is : root ≡ s.index.root.slot = d ∙ ap (λ x. x.root) e in
      let page = page_at store.pages in
      let P : ℕ → Type 0 = λ n. (t : ByteTree n) → legal (record_width kind) shape ≡ true
      → Branching kind shape page used n t → t.slot ≡ root
      → value_found kind.value_width r ≡ Ok (find (key_below kind) n key t) in
      let at_height : P s.index.height = subst P height_is told in
      let top = root_branching kind law store whole s held in
      let o₁ = subst (λ n. Branching kind s.shape page n s.index.height s.index.root) (sym used_is) top in
      let o₂ = subst (λ x. Branching kind x page used s.index.height s.index.root) (sym shape_is) o₁ in
      at_height s.index.root (ap (legal (record_width kind)) shape_is ∙ held.shape) o₂ (sym root_is)

  -- records fit onto the leaf pages of the index, so the test of the shape passes
  pub records_fit :
      (h : Header) (E W : ℕ) → h ≡ header_for s → E ≡ h.shape.per_page → W ≡ record_width kind
      → leb (E * W) 503 ≡ false → ⊥
  records_fit h E W e a b l =
      let fit = fits kind s.shape law held.shape in
      let per : E ≡ s.shape.per_page = a ∙ ap (λ x. x.shape.per_page) e in
      omega (arith, leb-false (E * W) 503 l, fit.leaf_room, ap (λ n. n * W) per, ap (λ n. s.shape.per_page * n) b)
