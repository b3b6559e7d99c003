-- A change keeps the index sound and changes the map at its own key alone: relief does, the root then has room for the
-- entry, and an entry in the root is met before all others.
use Rattle.std.proofs.Common.{◌≡◌, ℕ, zero, suc, ◌+◌, ◌-◌, ◌<◌, ◌≤◌, Bool, true, false, List, [], ◌∷◌, length, None, Option, sym, refl, ap, ◌∙◌, subst, inl, inr, arith}
use Rattle.std.proofs.lemmas.Bool.{cases_Bool, cond_both, eqb-true, eqb-false}
use Rattle.shape.specs.Shape.{Shape, batch_of, least_children_of}
use Rattle.tree.specs.Order.{Below, Ordered, pick}
use Rattle.tree.specs.Entries.{Entry, Low, least, past, High, most, AboveLow, Ascending, read, has, insert}
use Rattle.tree.specs.Children.{Children, one, more, ask_child}
use Rattle.tree.specs.Tree.{Tree, Index, find, find_in}
use Rattle.tree.specs.Sound.{SoundNode, SoundRoot}
use Rattle.tree.specs.Relief.{untouched, split_leaf, move_batch, receive}
use Rattle.tree.specs.Change.{rooted_at, leaf_taking, enter_root, needs_relief, change_leaf, change_inner, change_at, change}
use Rattle.tree.specs.History.{after}
use Rattle.tree.proofs.Compare.{is_less, is_equal, is_greater, compared}
use Rattle.tree.proofs.Bounds.{not_above, same_not_below, above_up}
use Rattle.tree.proofs.Merge.{insert_length, insert_ascends, read_insert}
use Rattle.tree.proofs.Tombstones.{live_length, live_only, live_ascends, read_live}
use Rattle.tree.proofs.Heavy.{count_pos}
use Rattle.tree.proofs.Children.{each_weaker}
use Rattle.tree.proofs.Sizes.{Sizes}
use Rattle.tree.proofs.Splits.{leaf_split}
use Rattle.tree.proofs.Sound.{SoundChild, Taken, Moved, leaf_sound, batch_sound, receive_sound}
use Rattle.tree.proofs.Find.{leaf_read, batch_read, receive_read}

module _ {K V : Type 0} (lt : K → K → Bool) where
  pub root_find : (h next n : ℕ) (k : K) (ts : Children K (Tree K V h)) →
      find_in lt (rooted_at h next n ts) k ≡ ask_child lt (find lt h) k ts
  root_find h next n k (one t) = refl
  root_find h next n k (more t sk ts) = refl

module _ {K V : Type 0} {lt : K → K → Bool} (o : Ordered lt) where
  has_not : (lo : Low K) (hi : High K) (k : K) (es : List (Entry K V)) → Ascending lt lo hi es →
      (AboveLow lt lo k → ⊥) → has lt k es ≡ false
  has_not lo hi k [] h n = refl
  has_not lo hi k (x ∷ xs) h n =
      elim (compared o k x.key) as (λ d v. pick d (has lt k xs) true (has lt k xs) ≡ false) [
        | is_less p ↦ has_not (past x.key) hi k xs h.2 (not_above o k x.key p)
        | is_equal p ↦ absurd (n (subst (AboveLow lt lo) (sym p) h.0))
        | is_greater p ↦ absurd (n (above_up o lo x.key k h.0 p))
      ]

  has_length : (lo : Low K) (hi : High K) (e : Entry K V) (es : List (Entry K V)) → Ascending lt lo hi es →
      has lt e.key es ≡ true → length (insert lt e es) ≡ length es
  has_length lo hi e [] a h = let z : ◌≡◌ {A = ℕ} 0 1 = cc in absurd (omega arith)
  has_length lo hi e (x ∷ xs) a h =
      let ih : has lt e.key xs ≡ true → length (insert lt e xs) ≡ length xs =
      has_length (past x.key) hi e xs a.2 in
      let none : Below lt e.key x.key → has lt e.key xs ≡ false =
      λ b. has_not (past x.key) hi e.key xs a.2 (not_above o e.key x.key b) in
      grind arith

  -- one entry decides for its own key and for no other
  pub read_one : (k : K) (e : Entry K V) (older : Option V) →
      (k ≡ e.key → read lt k (e ∷ []) older ≡ e.value)
      × ((k ≡ e.key → ⊥) → read lt k (e ∷ []) older ≡ older)
  read_one k e older =
      elim (compared o k e.key) as
      (λ d v. (k ≡ e.key → pick d older e.value older ≡ e.value)
      × ((k ≡ e.key → ⊥) → pick d older e.value older ≡ older)) [
        | is_less p ↦ ((λ q. absurd (same_not_below o e.key k (sym q) p)), λ n. refl)
        | is_equal p ↦ ((λ q. refl), λ n. absurd (n p))
        | is_greater p ↦ ((λ q. absurd (same_not_below o k e.key q p)), λ n. refl)
      ]

module _ {K V : Type 0} {lt : K → K → Bool} (o : Ordered lt) (s : Shape) where
  pub needs_full : (k : K) (es : List (Entry K V)) → needs_relief lt s k es ≡ true → length es ≡ s.capacity
  needs_full k es h = eqb-true (length es) s.capacity (grind arith)

  -- without relief there is room: the root has the key, or fewer than σ entries
  pub root_room : (lo : Low K) (hi : High K) (e : Entry K V) (es : List (Entry K V)) → Ascending lt lo hi es →
      length es ≤ s.capacity → needs_relief lt s e.key es ≡ false → length (insert lt e es) ≤ s.capacity
  root_room lo hi e es a l n =
      elim (cases_Bool (has lt e.key es)) [
        | inl y ↦ omega (arith, has_length o lo hi e es a y)
        | inr y ↦
            let less : length es ≡ s.capacity → ⊥ = eqb-false (length es) s.capacity (rw y at n) in
            omega (arith, insert_length o e es)
      ]

module _ {K V : Type 0} (lt : K → K → Bool) (s : Shape) where
  -- an index after a change: sound, and of a key it says what the entry says, else what was said before
  abbrev pub Follows : Entry K V → K → Option V → Index K V → Type 0
  Follows e k older i = SoundRoot lt s i × (find_in lt i k ≡ read lt k (e ∷ []) older)

  -- a node with room for a batch is a sound node
  node_widened : (fewest h : ℕ) (lo : Low K) (hi : High K) (t : Tree K V h) →
      SoundNode lt s (s.capacity - batch_of s) fewest h lo hi t → SoundNode lt s s.capacity fewest h lo hi t
  node_widened fewest zero lo hi t g = (g.0, omega (arith, g.1), g.2)
  node_widened fewest (suc h) lo hi t g = (g.0, omega (arith, g.1), g.2, g.3, g.4)

  pub root_widened : (i : Index K V) →
      SoundNode lt s (s.capacity - batch_of s) 2 i.height least most i.root → SoundRoot lt s i
  root_widened i g = node_widened 2 i.height least most i.root g

module _ {K V : Type 0} {lt : K → K → Bool} (o : Ordered lt) (s : Shape) (sz : Sizes s) where
  -- an inner root with room takes the entry
  enter : (h n used : ℕ) (e : Entry K V) (k : K) (t : Tree K V (suc h)) →
      SoundNode lt s s.capacity 2 (suc h) least most t → length (insert lt e t.entries) ≤ s.capacity →
      Follows lt s e k (find lt (suc h) k t)
      (enter_root lt e (record { height = suc h; root = t; used = used; changes = n }))
  enter h n used e k t g l = (
    (insert_ascends o least most e t.entries tt tt g.0, l, g.2, g.3, g.4),
    read_insert o least most k e t.entries (ask_child lt (find lt h) k t.children) g.0,
  )

  -- what stands at the top after relief, the root or a new one above its halves, has room for a batch
  pub relieved_root : (h n next : ℕ) (ts : Children K (Tree K V (suc h))) → Moved lt s 2 h least most ts →
      SoundNode lt s (s.capacity - batch_of s) 2 (rooted_at (suc h) next n ts).height least most
      (rooted_at (suc h) next n ts).root
  relieved_root h n next (one t) m = m.each
  relieved_root h n next (more t sk ts) m =
      let P = SoundNode lt s (s.capacity - batch_of s) (least_children_of s) (suc h) in (
        tt,
        omega arith,
        (omega (arith, count_pos ts), omega (arith, sz.wide, m.few)),
        m.skeys,
        each_weaker P (SoundChild V lt s (suc h)) least most (more t sk ts)
            (node_widened lt s (least_children_of s) (suc h)) m.each,
      )

  enter_relieved : (h n next : ℕ) (e : Entry K V) (k : K) (older : Option V) (ts : Children K (Tree K V (suc h))) →
      Moved lt s 2 h least most ts → ask_child lt (find lt (suc h)) k ts ≡ older →
      Follows lt s e k older (enter_root lt e (rooted_at (suc h) next n ts))
  enter_relieved h n next e k older (one t) m r =
      let g = relieved_root h n next (one t) m in
      let room = insert_length o e t.entries in
      let f = enter h n next e k t (node_widened lt s 2 (suc h) least most t g)
      (omega (arith, g.1, room, sz.some, sz.fits)) in
      (f.0, f.1 ∙ ap (read lt k (e ∷ [])) r)
  enter_relieved h n next e k older (more t sk ts) m r =
      let g = relieved_root h n next (more t sk ts) m in
      let root : Tree K V (suc (suc h)) = record { slot = next; entries = []; children = more t sk ts } in
      let f = enter (suc h) n (suc next) e k root (node_widened lt s 2 (suc (suc h)) least most root g)
      (omega (arith, sz.some, sz.fits)) in
      (f.0, f.1 ∙ ap (read lt k (e ∷ [])) r)

  rooted_leaves : (next n : ℕ) (ts : Children K (Tree K V 0)) → Taken V lt s 0 least most ts →
      SoundRoot lt s (rooted_at 0 next n ts)
  rooted_leaves next n (one t) g = g.each
  rooted_leaves next n (more t sk ts) g =
      (tt, omega arith, (omega (arith, count_pos ts), omega (arith, sz.wide, g.few)), g.skeys, g.each)

  leaf_follows : (e : Entry K V) (used n : ℕ) (t : Tree K V 0) (k : K) →
      SoundNode lt s s.capacity 2 0 least most t →
      Follows lt s e k (find lt 0 k t) (change_leaf lt s e used n t).index
  unfolding change_leaf
  leaf_follows e used n t k g =
      let all = insert lt e t.entries in
      let a = insert_ascends o least most e t.entries tt tt g.0 in
      let live = live_ascends o least most all a in
      let r = split_leaf lt s t.slot used (leaf_taking lt e t.entries) in
      let view = leaf_split lt s t.slot used (leaf_taking lt e t.entries) in
      let size = insert_length o e t.entries in
      let taken =
      leaf_sound o s sz t.slot used least most (leaf_taking lt e t.entries) view live (live_only all)
      (omega (arith, g.1, live_length all, sz.some)) in (
        rooted_leaves r.next (suc n) r.parts taken,
        root_find lt 0 r.next (suc n) k r.parts
            ∙ leaf_read o s t.slot used least most k (leaf_taking lt e t.entries) view live
            ∙ read_live o least most k all a ∙ read_insert o least most k e t.entries None g.0,
      )

  inner_follows : (h : ℕ) (e : Entry K V) (used n : ℕ) (t : Tree K V (suc h)) (k : K) →
      SoundNode lt s s.capacity 2 (suc h) least most t →
      Follows lt s e k (find lt (suc h) k t) (change_inner lt s h e used n t).index
  unfolding change_inner
  inner_follows h e used n t k g =
      cond_both (needs_relief lt s e.key t.entries) (move_batch lt s (receive lt s h) used t)
      (untouched used t)
      (λ r. Follows lt s e k (find lt (suc h) k t) (enter_root lt e (rooted_at (suc h) r.next (suc n) r.parts)))
      (λ y.
      let full : s.capacity < length t.entries + batch_of s =
      omega (arith, needs_full o s e.key t.entries y, sz.some) in
      enter_relieved h (suc n) _ e k (find lt (suc h) k t) (move_batch lt s (receive lt s h) used t).parts
      (batch_sound o s sz h 2 used least most t (receive_sound o s sz h) g full)
      (batch_read o s sz h 2 used least most k t g full (receive_read o s sz h k)))
      (λ no. enter h (suc n) used e k t g (root_room o s least most e t.entries g.0 g.1 no))

  pub change_follows : (e : Entry K V) (i : Index K V) (k : K) → SoundRoot lt s i →
      Follows lt s e k (find_in lt i k) (change lt s e i).index
  change_follows e i k = go i.height i.root
    where
      go : (h : ℕ) (t : Tree K V h) → SoundNode lt s s.capacity 2 h least most t →
          Follows lt s e k (find lt h k t) (change_at lt s h e i.used i.changes t).index
      go zero t g = leaf_follows e i.used i.changes t k g
      go (suc h) t g = inner_follows h e i.used i.changes t k g

  pub after_sound : (es : List (Entry K V)) → SoundRoot lt s (after lt s es).index
  after_sound [] = (tt, omega arith, tt)
  after_sound (e ∷ es) = (change_follows e (after lt s es).index e.key (after_sound es)).0
