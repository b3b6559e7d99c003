-- A whole tree: the walk from the root accepts it exactly when it is held and every used slot is one node's, since the
-- slots listed are as many as are used, each at most once.
use Rattle.std.proofs.Common.{◌≡◌, ℕ, ◌*◌, ◌<◌, ◌≤◌, true, cond, eqb, ltb, List, [], ◌∷◌, length, Ok, ap, ◌∙◌, subst, inl, inr, arith}
use Rattle.std.proofs.lemmas.Bool.{eqb-true, eq-eqb, lt-ltb, le-ltb, cases_lt}
use Rattle.records.specs.Kind.{Kind, Lawful}
use Rattle.shape.specs.Shape.{Shape, slot_pages_of}
use Rattle.tree.specs.Entries.{least, most}
use Rattle.tree.specs.Tree.{slot_sum}
use Rattle.tree.specs.Sound.{nodes_in}
use Rattle.layout.specs.Holds.{ByteTree, NodesStand, ValidTree}
use Rattle.layout.specs.Checked.{test}
use Rattle.layout.specs.Nodes.{is, times_in}
use Rattle.layout.specs.Walk.{walk, walk_tree}
use Rattle.layout.specs.declared.faults.Rule.TheVariants.{SlotsReached}
use Rattle.layout.proofs.Checked.{test_ok, then_ok}
use Rattle.layout.proofs.DTree.{WholePage}
use Rattle.layout.proofs.SlotsListed.{is_small, is_other, each_once, length-once}
use Rattle.layout.proofs.Fits.{Fits}
use Rattle.layout.proofs.Children.{SoundHere}
use Rattle.layout.proofs.WalkHolds.{walk_holds}
use Rattle.layout.proofs.WalkAccepts.{walk_accepts}

module _ (kind : Kind) (shape : Shape) (page : ℕ → List ℕ) (used : ℕ) (fit : Fits kind shape) where
  pub record TreeHeld (h root : ℕ) (t : ByteTree h) : Type 0 where
    pub at : t.slot ≡ root
    pub stands : NodesStand kind shape page h t
    pub valid : ValidTree kind h t
    pub sound : SoundHere kind shape 2 h least most t
    pub slots : (x : ℕ) → nodes_in x h t ≡ cond (ltb x used) 1 0

  pub tree_holds :
      (h root : ℕ) (t : ByteTree h) → root < used → ((q : ℕ) → q ≤ used * slot_pages_of shape → WholePage page q)
      → walk_tree kind shape page used h root ≡ Ok t → TreeHeld h root t
  unfolding walk_tree
  tree_holds h root t low pages e =
      let a =
      then_ok (walk kind shape page used h 2 (root ∷ []) least most root)
      (λ r. test (eqb (length r.1) used) 0 SlotsReached (Ok r.0)) t e in
      let r = a.0 in
      let out = r.1 in
      let b = test_ok (eqb (length out) used) 0 SlotsReached (Ok r.0) t a.2 in
      let same : r.0 ≡ t = cc b.1 in
      let w =
      walk_holds kind shape page used fit pages h 2 (omega arith) (root ∷ []) least most root r low a.1 in
      let long : length out ≡ used = eqb-true (length out) used b.0 in
      let once : (x : ℕ) → times_in x out ≤ 1 = λ x. w.once x (omega (arith, is_small x root)) in
      let none : (x : ℕ) → used ≤ x → times_in x out ≡ 0 =
      λ x l. w.only x l (omega (arith, is_other x root (λ q. omega arith))) in
      let each = each_once used out once none long in
      let slots : (x : ℕ) → nodes_in x h r.0 ≡ cond (ltb x used) 1 0 =
      λ x. elim (cases_lt x used) [
        | inl l ↦ rw (lt-ltb x used l) (omega (arith, w.weight (is x), each x l))
        | inr l ↦ rw (le-ltb x used l) (omega (arith, w.weight (is x), none x l))
      ] in
      subst (λ t. TreeHeld h root t) same
      (record { at = w.at; stands = w.stands; valid = w.valid; sound = w.sound; slots = slots })

  pub tree_accepted :
      Lawful kind → (h root : ℕ) (t : ByteTree h) → used ≤ 65536 → TreeHeld h root t
      → walk_tree kind shape page used h root ≡ Ok t
  unfolding walk_tree
  tree_accepted law h root t few o =
      let top : t.slot ≡ root = o.at in
      let in_tree : (x : ℕ) → x < used → slot_sum (is x) h t ≡ 1 =
      λ x l. o.slots x ∙ ap (λ b. cond b 1 0) (lt-ltb x used l) in
      let not_in : (x : ℕ) → used ≤ x → slot_sum (is x) h t ≡ 0 =
      λ x l. o.slots x ∙ ap (λ b. cond b 1 0) (le-ltb x used l) in
      let few_each : (x : ℕ) → slot_sum (is x) h t ≤ 1 =
      λ x. elim (cases_lt x used) [ inl l ↦ omega (arith, in_tree x l) | inr l ↦ omega (arith, not_in x l) ] in
      let f =
      walk_accepts kind law shape page used fit few h 2 (t.slot ∷ []) least most t o.stands o.valid o.sound
      (λ x. omega (arith, few_each x)) not_in in
      let out = f.out in
      let none : (x : ℕ) → used ≤ x → times_in x out ≡ 0 = λ x l. omega (arith, f.weight (is x), not_in x l) in
      let each : (x : ℕ) → x < used → times_in x out ≡ 1 = λ x l. omega (arith, f.weight (is x), in_tree x l) in
      let long : length out ≡ used = length-once used out each none in
      let e : walk kind shape page used h 2 (root ∷ []) least most root ≡ Ok (t, out) =
      subst (λ (r : ℕ). walk kind shape page used h 2 (r ∷ []) least most r ≡ Ok (t, out)) top f.walked in
      let b : eqb (length out) used ≡ true = eq-eqb (length out) used long in
      rw (e, b)
