-- A change takes unused slots in order and gives each to one new node, and no node changes its slot: so for any number
-- that depends on the slot, the sum over the nodes stays the sum over the slots in use.
use Rattle.std.proofs.Common.{◌≡◌, ℕ, zero, suc, ◌+◌, ◌≤◌, Bool, cond, eqb, ltb, List, [], ◌∷◌, sym, refl, ap, ◌∙◌, arith}
use Rattle.std.proofs.lemmas.Bool.{cond_both}
use Rattle.shape.specs.Shape.{Shape}
use Rattle.tree.specs.Order.{Ordered}
use Rattle.tree.specs.Entries.{Entry, merge, entries_from, without_tombstones}
use Rattle.tree.specs.Children.{Children, one, more, sum_of, replace_at, heavy_place}
use Rattle.tree.specs.Tree.{ChildrenAt, Tree, Index, levels, slot_sum}
use Rattle.tree.specs.Sound.{SlotsOnce}
use Rattle.tree.specs.Path.{heavy_child, batch, staying, too_full}
use Rattle.tree.specs.Relief.{Relieved, untouched, merge_into, taking, split_leaf, move_batch, receive}
use Rattle.tree.specs.Change.{rooted_at, leaf_taking, enter_root, needs_relief, change_leaf, change_inner, change_at, change}
use Rattle.tree.specs.History.{after}
use Rattle.tree.proofs.Children.{sum_join, sum_replaced}
use Rattle.tree.proofs.Sizes.{Sizes}
use Rattle.tree.proofs.Splits.{LeafSplit, whole, halved, InnerSplit, kept, split, leaf_split, inner_split}
use Rattle.tree.proofs.Path.{leaf_next, inner_next}

-- the sum of w 0, w 1, .. up to but without w n
abbrev pub sum_below : (ℕ → ℕ) → ℕ → ℕ
sum_below w zero = 0
sum_below w (suc n) = sum_below w n + w n

module _ {K V : Type 0} {lt : K → K → Bool} (o : Ordered lt) (s : Shape) (sz : Sizes s) (w : ℕ → ℕ) where
  leaf_slots : (slot next : ℕ) (es : List (Entry K V)) {out : Relieved K V Unit} → LeafSplit s slot next es out →
      sum_of (slot_sum w 0) out.parts + sum_below w next ≡ w slot + sum_below w out.next
  leaf_slots slot next es (whole l) = omega arith
  leaf_slots slot next es (halved l r rs e) = omega arith

  inner_slots : (h : ℕ) (movers : List ℕ) (slot next : ℕ) (es : List (Entry K V)) (cs : Children K (Tree K V h))
      {out : Relieved K V (ChildrenAt K V (suc h))} → InnerSplit lt s movers slot next es cs out →
      sum_of (slot_sum w (suc h)) out.parts + sum_below w next
      ≡ w slot + sum_of (slot_sum w h) cs + sum_below w out.next
  inner_slots h movers slot next es cs (kept l) = omega arith
  inner_slots h movers slot next es cs (split l c e u) =
      omega (arith, ap (sum_of (slot_sum w h)) e, sum_join (slot_sum w h) c.front c.middle c.back)

  merged_slots : (h : ℕ) (ms : List (Entry K V)) (cs : Children K (Tree K V (suc h))) →
      sum_of (slot_sum w (suc h)) (merge_into lt ms cs) ≡ sum_of (slot_sum w (suc h)) cs
  merged_slots h ms (one c) = refl
  merged_slots h ms (more c sk cs) = omega (arith, merged_slots h (entries_from lt sk ms) cs)

  batch_slots : (h next : ℕ) (t : Tree K V (suc h)) →
      ((ms : List (Entry K V)) (c : Tree K V h) →
      sum_of (slot_sum w h) (receive lt s h next ms c).parts + sum_below w next
      ≡ slot_sum w h c + sum_below w (receive lt s h next ms c).next) →
      sum_of (slot_sum w (suc h)) (move_batch lt s (receive lt s h) next t).parts + sum_below w next
      ≡ slot_sum w (suc h) t + sum_below w (move_batch lt s (receive lt s h) next t).next
  unfolding move_batch
  batch_slots h next t takes =
      let i : ℕ = heavy_place lt t.entries t.children in
      let c = heavy_child lt t in
      let out = receive lt s h next (batch lt s t) c in
      omega (
        arith,
        takes (batch lt s t) c,
        sum_replaced (slot_sum w h) i out.parts t.children,
        inner_slots h (t.slot ∷ out.movers) t.slot out.next (staying lt s t)
            (replace_at i out.parts t.children) (inner_split lt s _ _ _ _ _ sz),
      )

  receive_slots : (h next : ℕ) (ms : List (Entry K V)) (c : Tree K V h) →
      sum_of (slot_sum w h) (receive lt s h next ms c).parts + sum_below w next
      ≡ slot_sum w h c + sum_below w (receive lt s h next ms c).next
  receive_slots zero next ms c =
      leaf_slots c.slot next (without_tombstones (merge lt ms c.entries)) (leaf_split lt s _ _ _)
  receive_slots (suc h) next ms c =
      cond_both (too_full lt s c) (move_batch lt s (receive lt s h) next c) (untouched next c)
      (λ out. sum_of (slot_sum w (suc h)) (merge_into lt ms out.parts) + sum_below w next
      ≡ slot_sum w (suc h) c + sum_below w out.next)
      (λ e. omega (
        arith,
        batch_slots h next c (receive_slots h next),
        merged_slots h ms (move_batch lt s (receive lt s h) next c).parts,
      ))
      (λ e. refl)

  root_slots : (h next n : ℕ) (ts : Children K (Tree K V h)) →
      slot_sum w (rooted_at h next n ts).height (rooted_at h next n ts).root + sum_below w next
      ≡ sum_of (slot_sum w h) ts + sum_below w (rooted_at h next n ts).used
  root_slots h next n (one t) = refl
  root_slots h next n (more t sk ts) = omega arith

  enter_slots : (h next n : ℕ) (e : Entry K V) (ts : Children K (Tree K V (suc h))) →
      slot_sum w (rooted_at (suc h) next n ts).height (enter_root lt e (rooted_at (suc h) next n ts)).root
      ≡ slot_sum w (rooted_at (suc h) next n ts).height (rooted_at (suc h) next n ts).root
  enter_slots h next n e (one t) = refl
  enter_slots h next n e (more t sk ts) = refl

  -- the sum over the nodes is the sum over the slots in use
  abbrev pub SameSum : Index K V → Type 0
  SameSum i = slot_sum w i.height i.root ≡ sum_below w i.used

  pub change_slots : (e : Entry K V) (i : Index K V) → SameSum i → SameSum (change lt s e i).index
  unfolding change_leaf change_inner
  change_slots e i = go i.height i.root
    where
      go : (h : ℕ) (t : Tree K V h) → slot_sum w h t ≡ sum_below w i.used →
          SameSum (change_at lt s h e i.used i.changes t).index
      go zero t b =
          let es = leaf_taking lt e t.entries in
          let r = split_leaf lt s t.slot i.used es in
          omega (
            arith,
            leaf_slots t.slot i.used es (leaf_split lt s _ _ _),
            root_slots 0 r.next (suc i.changes) r.parts,
          )
      go (suc h) t b =
          cond_both (needs_relief lt s e.key t.entries) (move_batch lt s (receive lt s h) i.used t)
          (untouched i.used t)
          (λ r. SameSum (enter_root lt e (rooted_at (suc h) r.next (suc i.changes) r.parts)))
          (λ y.
          let r = move_batch lt s (receive lt s h) i.used t in
          omega (
            arith,
            batch_slots h i.used t (receive_slots h i.used),
            root_slots (suc h) r.next (suc i.changes) r.parts,
            enter_slots h r.next (suc i.changes) e r.parts,
          ))
          (λ n. b)

-- slot by slot
below_one : (slot n : ℕ) → sum_below (λ x. cond (eqb x slot) 1 0) n ≡ cond (ltb slot n) 1 0
below_one slot zero = grind arith
below_one slot (suc n) = let ih = below_one slot n in grind arith

pub below_same : (slot n : ℕ) → sum_below (λ x. cond (eqb slot x) 1 0) n ≡ cond (ltb slot n) 1 0
below_same slot zero = grind arith
below_same slot (suc n) = let ih = below_same slot n in grind arith

module _ {K V : Type 0} {lt : K → K → Bool} (o : Ordered lt) (s : Shape) (sz : Sizes s) where
  pub change_once : (e : Entry K V) (i : Index K V) → SlotsOnce i → SlotsOnce (change lt s e i).index
  change_once e i h slot =
      let w : ℕ → ℕ = λ x. cond (eqb x slot) 1 0 in
      change_slots o s sz w e i (h slot ∙ sym (below_one slot i.used))
      ∙ below_one slot (change lt s e i).index.used

  pub after_once : (es : List (Entry K V)) → SlotsOnce (after lt s es).index
  after_once [] slot = grind arith
  after_once (e ∷ es) slot = change_once e (after lt s es).index (after_once es) slot

-- how many slots a change takes
module _ {K V : Type 0} {lt : K → K → Bool} (o : Ordered lt) (s : Shape) (sz : Sizes s) where
  abbrev Within : {C : Type 0} → ℕ → ℕ → Relieved K V C → Type 0
  Within h next out = (next ≤ out.next) × (out.next ≤ next + suc h)

  batch_within : (h next : ℕ) (t : Tree K V (suc h)) →
      ((ms : List (Entry K V)) (c : Tree K V h) → Within h next (receive lt s h next ms c)) →
      Within (suc h) next (move_batch lt s (receive lt s h) next t)
  unfolding move_batch
  batch_within h next t takes =
      let r = takes (batch lt s t) (heavy_child lt t) in
      let out = receive lt s h next (batch lt s t) (heavy_child lt t) in
      let cs = replace_at (heavy_place lt t.entries t.children) out.parts t.children in
      let b = inner_next o s (t.slot ∷ out.movers) t.slot out.next (staying lt s t) cs
      (inner_split lt s _ _ _ _ _ sz) in
      omega (arith, b, r)

  receive_within : (h next : ℕ) (ms : List (Entry K V)) (c : Tree K V h) → Within h next (receive lt s h next ms c)
  receive_within zero next ms c =
      let l = leaf_next o s c.slot next (without_tombstones (merge lt ms c.entries)) (leaf_split lt s _ _ _) in
      omega (arith, l)
  receive_within (suc h) next ms c =
      cond_both (too_full lt s c) (move_batch lt s (receive lt s h) next c) (untouched next c)
      (λ out. Within (suc h) next (taking lt ms out))
      (λ e. batch_within h next c (receive_within h next)) (λ e. omega arith)

  root_within : (h next n : ℕ) (ts : Children K (Tree K V h)) →
      (next ≤ (rooted_at h next n ts).used) × ((rooted_at h next n ts).used ≤ suc next)
      × (h ≤ (rooted_at h next n ts).height)
  root_within h next n (one t) = (omega arith, omega arith, omega arith)
  root_within h next n (more t sk ts) = (omega arith, omega arith, omega arith)

  -- slots in use grow by at most levels + 1, and neither they nor the levels ever fall; n grows by one
  abbrev pub Grows : Index K V → Index K V → Type 0
  Grows i j =
      (i.used ≤ j.used) × (j.used ≤ i.used + (levels i + 1)) × (levels i ≤ levels j)
      × (j.changes ≡ suc i.changes)

  root_count : (h next n : ℕ) (ts : Children K (Tree K V h)) → (rooted_at h next n ts).changes ≡ n
  root_count h next n (one t) = refl
  root_count h next n (more t sk ts) = refl

  pub change_grows : (e : Entry K V) (i : Index K V) → Grows i (change lt s e i).index
  unfolding change_leaf change_inner
  change_grows e i = go i.height i.root
    where
      go : (h : ℕ) (t : Tree K V h) →
          Grows (record { height = h; root = t; used = i.used; changes = i.changes })
          (change_at lt s h e i.used i.changes t).index
      go zero t =
          let es = leaf_taking lt e t.entries in
          let r = split_leaf lt s t.slot i.used es in
          let l = leaf_next o s t.slot i.used es (leaf_split lt s _ _ _) in
          let b = root_within 0 r.next (suc i.changes) r.parts in (
            omega (arith, l, b),
            omega (arith, l, b),
            omega (arith, b),
            root_count 0 r.next (suc i.changes) r.parts,
          )
      go (suc h) t =
          cond_both (needs_relief lt s e.key t.entries) (move_batch lt s (receive lt s h) i.used t)
          (untouched i.used t)
          (λ r. Grows (record { height = suc h; root = t; used = i.used; changes = i.changes })
          (enter_root lt e (rooted_at (suc h) r.next (suc i.changes) r.parts)))
          (λ y.
          let r = move_batch lt s (receive lt s h) i.used t in
          let l = batch_within h i.used t (receive_within h i.used) in
          let b = root_within (suc h) r.next (suc i.changes) r.parts in (
            omega (arith, l, b),
            omega (arith, l, b),
            omega (arith, b),
            root_count (suc h) r.next (suc i.changes) r.parts,
          ))
          (λ n. (omega arith, omega arith, omega arith, refl))
