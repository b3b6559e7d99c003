-- What one change adds to each of the two sums: what the new entry counts in the root, less what its batches take away.
-- Each batch moves q entries down one level; and a leaf node that splits counted beyond g about what its new half does.
use Rattle.std.proofs.Common.{◌≡◌, ℕ, zero, suc, ◌+◌, ◌*◌, ◌/◌, ◌<◌, ◌≤◌, Bool, length, refl, ap, inl, inr, mul-le-mul_left, arith, length-drop, length-take}
use Rattle.std.proofs.lemmas.Bool.{cases_Bool}
use Rattle.shape.specs.Shape.{Shape, batch_of}
use Rattle.tree.specs.Order.{Ordered}
use Rattle.tree.specs.Entries.{Entry, least, most, insert}
use Rattle.tree.specs.Children.{Children, one, more, sum_of}
use Rattle.tree.specs.Tree.{Tree, Index, weigh}
use Rattle.tree.specs.Sound.{SoundNode, SoundRoot}
use Rattle.tree.specs.Relief.{split_leaf, move_batch, receive}
use Rattle.tree.specs.Change.{Changed, rooted_at, leaf_taking, enter_root, needs_relief, change_leaf, change_inner}
use Rattle.tree.specs.Change.{change_at, change}
use Rattle.tree.specs.History.{weight, potential_of_leaf, leaf_potential}
use Rattle.tree.proofs.Merge.{insert_length}
use Rattle.tree.proofs.Tombstones.{live_length}
use Rattle.tree.proofs.Sizes.{Sizes}
use Rattle.tree.proofs.Splits.{whole, halved, leaf_split}
use Rattle.tree.proofs.Path.{moves_path}
use Rattle.tree.proofs.Weigh.{LeafGrowth, batch_weigh, receive_weigh}
use Rattle.tree.proofs.Change.{needs_full}

module _ {K V : Type 0} {lt : K → K → Bool} (o : Ordered lt) (s : Shape) (sz : Sizes s) (per_entry per_leaf : ℕ → ℕ)
    (gain : ℕ) (rises : (h : ℕ) → per_entry h + gain ≤ per_entry (suc h))
    (leaf_batch : LeafGrowth V o s per_entry per_leaf (batch_of s))
    (leaf_entry : LeafGrowth V o s per_entry per_leaf 1) where
  abbrev total : Index K V → ℕ
  total i = weigh per_entry per_leaf i.height i.root

  root_total : (h next n : ℕ) (ts : Children K (Tree K V h)) →
      total (rooted_at h next n ts) ≡ sum_of (weigh per_entry per_leaf h) ts
  root_total h next n (one t) = refl
  root_total h next n (more t sk ts) = omega arith

  enter_total : (h next n : ℕ) (e : Entry K V) (ts : Children K (Tree K V (suc h))) →
      total (enter_root lt e (rooted_at (suc h) next n ts))
      ≤ sum_of (weigh per_entry per_leaf (suc h)) ts + per_entry (rooted_at (suc h) next n ts).height
  enter_total h next n e (one t) = omega (arith, mul-le-mul_left (per_entry (suc h)) (insert_length o e t.entries))
  enter_total h next n e (more t sk ts) = omega arith

  least_entry : (h : ℕ) → per_entry 0 ≤ per_entry h
  least_entry zero = omega arith
  least_entry (suc h) = omega (arith, least_entry h, rises h)

  -- the entry adds what it counts at the new root's height, and each batch takes away its gain
  abbrev Adds : ℕ → Changed K V → Type 0
  Adds before c = total c.index + c.moved * (batch_of s * gain) ≤ before + per_entry c.index.height

  leaf_adds : (e : Entry K V) (used n : ℕ) (t : Tree K V 0) → SoundNode lt s s.capacity 2 0 least most t →
      Adds (per_leaf (length t.entries)) (change_leaf lt s e used n t)
  unfolding change_leaf
  leaf_adds e used n t g =
      let all = insert lt e t.entries in
      let es = leaf_taking lt e t.entries in
      let r = split_leaf lt s t.slot used es in
      omega (
        arith,
        root_total 0 r.next (suc n) r.parts,
        leaf_entry t.slot used t.entries es r (leaf_split lt s _ _ _) g.1
            (omega (arith, live_length all, insert_length o e t.entries)),
        least_entry (rooted_at 0 r.next (suc n) r.parts).height,
      )

  inner_adds : (h : ℕ) (e : Entry K V) (used m : ℕ) (t : Tree K V (suc h)) →
      SoundNode lt s s.capacity 2 (suc h) least most t →
      Adds (weigh per_entry per_leaf (suc h) t) (change_inner lt s h e used m t)
  unfolding change_inner
  inner_adds h e used m t g =
      elim (cases_Bool (needs_relief lt s e.key t.entries)) [
        | inl y ↦
            let full : s.capacity < length t.entries + batch_of s =
            omega (arith, needs_full o s e.key t.entries y, sz.some) in
            let r = move_batch lt s (receive lt s h) used t in
            let bounds = receive_weigh o s sz per_entry per_leaf gain rises leaf_batch h in
            rw y
            (omega (
              arith,
              enter_total h r.next (suc m) e r.parts,
              batch_weigh o s sz per_entry per_leaf gain rises leaf_batch h 2 used least most t g full bounds,
              ap (λ v. v * (batch_of s * gain)) (moves_path o s sz h used t),
            ))
        | inr n ↦ rw n (omega (arith, enter_total h used (suc m) e (one t)))
      ]

  pub change_adds : (e : Entry K V) (i : Index K V) → SoundRoot lt s i →
      weigh per_entry per_leaf (change lt s e i).index.height (change lt s e i).index.root
      + (change lt s e i).moved * (batch_of s * gain)
      ≤ weigh per_entry per_leaf i.height i.root + per_entry (change lt s e i).index.height
  change_adds e i = go i.height i.root
    where
      go : (h : ℕ) (t : Tree K V h) → SoundNode lt s s.capacity 2 h least most t →
          Adds (weigh per_entry per_leaf h t) (change_at lt s h e i.used i.changes t)
      go zero t g = leaf_adds e i.used i.changes t g
      go (suc h) t g = inner_adds h e i.used i.changes t g

module _ {K V : Type 0} {lt : K → K → Bool} (o : Ordered lt) (s : Shape) (sz : Sizes s) where
  -- leaf nodes weigh nothing
  leaf_weightless : (n : ℕ) → LeafGrowth V o s (λ h. h) (λ m. 0) n
  leaf_weightless n slot next old es out (whole l) a b = omega arith
  leaf_weightless n slot next old es out (halved l r rs e) a b = omega arith

  -- Each half of a leaf node that splits holds at most half of σ + q, so it counts g alone; and the second g is at most
  -- what the node counted beyond g before, and the n entries that came.
  leaf_potential_lem : (n : ℕ) → 1 ≤ n → n ≤ batch_of s → LeafGrowth V o s (λ h. 1) (potential_of_leaf s) n
  leaf_potential_lem n some few slot next old es out (whole l) a b = omega arith
  leaf_potential_lem n some few slot next old es out (halved l r rs e) a b =
      omega (arith, length-take (length es / 2) es, length-drop (length es / 2) es, ap length e)

  pub change_weight : (e : Entry K V) (i : Index K V) → SoundRoot lt s i →
      weight (change lt s e i).index + (change lt s e i).moved * (batch_of s * 1)
      ≤ weight i + (change lt s e i).index.height
  change_weight =
      change_adds o s sz (λ h. h) (λ n. 0) 1 (λ h. omega arith) (leaf_weightless (batch_of s)) (leaf_weightless 1)

  pub change_potential : (e : Entry K V) (i : Index K V) → SoundRoot lt s i →
      leaf_potential s (change lt s e i).index ≤ leaf_potential s i + 1
  change_potential e i g =
      omega (
        arith,
        change_adds o s sz (λ h. 1) (potential_of_leaf s) 0 (λ h. omega arith)
            (leaf_potential_lem (batch_of s) sz.some (omega arith)) (leaf_potential_lem 1 (omega arith) sz.some) e i g,
      )
