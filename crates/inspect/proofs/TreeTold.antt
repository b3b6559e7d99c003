-- A whole tree after the walk from its root: rule 12 is tested by the number of the slots listed.
use Rattle.std.proofs.Common.{◌≡◌, ℕ, ◌*◌, ◌≤◌, min, Bool, true, false, eqb, List, [], ◌∷◌, length, Ok, Err, Result, MatchResult, sym, refl, ap, ◌∙◌, subst, ⊎_elim, arith}
use Rattle.std.proofs.lemmas.Bool.{cases_eq, eq-eqb, ne_eqb}
use Rattle.records.specs.Kind.{Kind}
use Rattle.stores.specs.Store.{StoreState}
use Rattle.shape.specs.Shape.{Shape, slot_pages_of}
use Rattle.tree.specs.Entries.{least, most}
use Rattle.layout.specs.Checked.{Checked, test, then}
use Rattle.layout.specs.Walk.{walk, walk_tree}
use Rattle.layout.specs.declared.faults.PageFault.{PageFault}
use Rattle.layout.specs.declared.faults.PageFault.TheVariants.{Layout}
use Rattle.layout.specs.declared.faults.Rule.{Rule}
use Rattle.layout.specs.declared.faults.Rule.TheVariants.{SlotsReached}
use Rattle.inspect.specs.declared.listed.Listed.{Listed}
use Rattle.inspect.specs.Bounds.{told}
use Rattle.stores.specs.Looked.{Looked}
use Rattle.inspect.specs.Walked.{nodes_of, Ended}

-- the code's test of a rule is that of the layout
pub kept_is :
    (holds : Bool) (p : ℕ) (rule : Rule) (r : Result Unit PageFault)
    → MatchResult r (λ _. holds ≡ true) (λ f. (holds ≡ false) × (f ≡ Layout p rule)) → r ≡ test holds p rule (Ok tt)
kept_is holds p rule (Ok x) h = rw h
kept_is holds p rule (Err f) h = let b = h.0 in rw (b, h.1)

module _ {A : Type 0} (W used : ℕ) (nodes : A → ℕ) (l : Listed) (a b : StoreState) where
  abbrev test_of : A → Bool → Checked A
  test_of t reached = test reached 0 SlotsReached (Ok t)

  abbrev tree_of : Checked (A × List ℕ) → Checked A
  tree_of x = then x (λ r. test_of r.0 (eqb (length r.1) used))

  -- what the whole inspection tells, and what it touched if it found a tree
  abbrev pub TreeEnded : Checked A → Result Unit PageFault → Type 0
  TreeEnded x r = (r ≡ told x) × ((t : A) → x ≡ Ok t → Looked a (W * nodes t) b)

  test_looked :
      (t : A) (reached : Bool) → Looked a (W * nodes t) b
      → (u : A) → test_of t reached ≡ Ok u → Looked a (W * nodes u) b
  test_looked t true look u e = let q : t ≡ u = cc in subst (λ v. Looked a (W * nodes v) b) q look
  test_looked t false look u e = let z : ◌≡◌ {A = ℕ} 0 1 = cc in absurd (omega arith)

  tree_broken :
      (x : Checked (A × List ℕ)) (e : PageFault) (r : Result Unit PageFault) → r ≡ Err e
      → Ended W nodes x (Err e) l a b → TreeEnded (tree_of x) r
  tree_broken (Ok found) e r is h = let k = h.0 in let z : ◌≡◌ {A = ℕ} 0 1 = cc in absurd (omega arith)
  tree_broken (Err f) e r is h = (is ∙ h, λ t q. let z : ◌≡◌ {A = ℕ} 0 1 = cc in absurd (omega arith))

  -- the count stops far above the number of used slots
  count_same :
      (count n : ℕ) → count ≡ min n 65535 → used ≤ 1024 → eqb n used ≡ eqb count used
  count_same count n is few = ⊎_elim
      (λ e. eq-eqb n used (omega arith) ∙ sym (eq-eqb count used e))
      (λ ne. ne_eqb n used (λ e. ne (omega arith)) ∙ sym (ne_eqb count used ne))
      (cases_eq count used)

  told_of : (t : A) (reached : Bool) → told (test_of t reached) ≡ test reached 0 SlotsReached (Ok tt)
  told_of t true = refl
  told_of t false = refl

  tree_walked :
      (x : Checked (A × List ℕ)) (r : Result Unit PageFault) → used ≤ 1024
      → r ≡ test (eqb l.count used) 0 SlotsReached (Ok tt) → Ended W nodes x (Ok tt) l a b
      → TreeEnded (tree_of x) r
  tree_walked (Ok found) r few is h =
      let n = length found.1 in
      let same = count_same l.count n h.1.count few in (
        is ∙ ap (λ reached. test reached 0 SlotsReached (Ok tt)) (sym same) ∙ sym (told_of found.0 (eqb n used)),
        test_looked found.0 (eqb n used) h.2,
      )
  tree_walked (Err f) r few is h = let z : ◌≡◌ {A = ℕ} 0 1 = cc in absurd (omega arith)

module _
    (kind : Kind) (shape : Shape) (page : ℕ → List ℕ) (used h root : ℕ) (l : Listed) (a b : StoreState) where
  abbrev pub RootEnded : Result Unit PageFault → Type 0
  RootEnded r =
      Ended (slot_pages_of shape) (nodes_of h) (walk kind shape page used h 2 (root ∷ []) least most root) r l a b

  abbrev pub WholeEnded : Result Unit PageFault → Type 0
  WholeEnded = TreeEnded (slot_pages_of shape) used (nodes_of h) l a b (walk_tree kind shape page used h root)

  pub root_broken : (e : PageFault) (r : Result Unit PageFault) → r ≡ Err e → RootEnded (Err e) → WholeEnded r
  unfolding walk_tree
  root_broken e r is d = tree_broken (slot_pages_of shape) used (nodes_of h) l a b _ e r is d

  pub root_walked :
      (r : Result Unit PageFault) → used ≤ 1024 → r ≡ test (eqb l.count used) 0 SlotsReached (Ok tt)
      → RootEnded (Ok tt) → WholeEnded r
  unfolding walk_tree
  root_walked r few is d = tree_walked (slot_pages_of shape) used (nodes_of h) l a b _ r few is d
