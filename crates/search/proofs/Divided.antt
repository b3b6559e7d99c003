-- Entries ascend, so the place where a key divides them is the number of those below it: the entry in front of the
-- place is below the key, so all before it are, and the entry at the place is not, so none after it is.
use Rattle.std.proofs.Common.{◌≡◌, ℕ, zero, suc, ◌+◌, ◌<◌, ◌≤◌, Bool, true, false, not, List, [], ◌∷◌, length, take, drop, Option, Ordering, Less, Equal, Greater, sym, refl, ap, ◌∙◌, subst, inl, inr, arith}
use Rattle.std.specs.Ordering.{is_lt, is_le, ordering_reverse}
use Rattle.std.proofs.lemmas.List.{length-drop}
use Rattle.std.proofs.lemmas.Bool.{cases_Bool}
use Rattle.records.specs.Kind.{Kind, Lawful}
use Rattle.tree.specs.Order.{Ordered}
use Rattle.tree.specs.Entries.{Low, past, High, Ascending, read}
use Rattle.tree.specs.Keys.{key_below}
use Rattle.tree.proofs.Keys.{kinds_order_keys}
use Rattle.layout.specs.Pages.{ByteEntry}
use Rattle.layout.specs.Slots.{first_key}
use Rattle.layout.specs.Rows.{key_in, Divides}
use Rattle.layout.specs.Search.{rank}
use Rattle.layout.specs.LeafPages.{low_after}
use Rattle.layout.specs.Holds.{ValidKey}
use Rattle.layout.proofs.DTree.{ascending_drop}

-- another test that says the same
pub divides_same :
    (test other : ℕ → Bool) (n r : ℕ) → ((i : ℕ) → i < n → test i ≡ other i) → Divides test n r → Divides other n r
divides_same test other n r same d = record {
  within = d.within;
  left = λ i e. sym (same i (omega (arith, d.within))) ∙ d.left i e;
  right = λ l. sym (same r l) ∙ d.right l;
}

-- a row as the code holds it
pub divides_row :
    (test : List ℕ → Bool) (w v n w' v' n' r : ℕ) (bytes bytes' : List ℕ) → w' ≡ w → v' ≡ v → n' ≡ n → bytes' ≡ bytes
    → Divides (λ i. test (key_in w' (w' + v') bytes' i)) n' r → Divides (λ i. test (key_in w (w + v) bytes i)) n r
divides_row test w v n w' v' n' r bytes bytes' a b c e d =
    let d₁ = subst (λ x. Divides (λ i. test (key_in x (x + v') bytes' i)) n' r) a d in
    let d₂ = subst (λ x. Divides (λ i. test (key_in w (w + x) bytes' i)) n' r) b d₁ in
    let d₃ = subst (λ x. Divides (λ i. test (key_in w (w + v) bytes' i)) x r) c d₂ in
    subst (λ x. Divides (λ i. test (key_in w (w + v) x i)) n r) e d₃

-- the kind's comparison and the tree's order

upto_is : (d : Ordering) → is_le d ≡ not (is_lt (ordering_reverse d))
upto_is Less = refl
upto_is Equal = refl
upto_is Greater = refl

pub before_by_tree :
    (kind : Kind) → Lawful kind → (a key : List ℕ) → ValidKey kind a → ValidKey kind key
    → is_lt (kind.order a key) ≡ key_below kind a key
before_by_tree kind law a key v w = sym ((kinds_order_keys kind law).1 a key v w)

pub upto_by_tree :
    (kind : Kind) → Lawful kind → (a key : List ℕ) → ValidKey kind a → ValidKey kind key
    → is_le (kind.order a key) ≡ not (key_below kind key a)
upto_by_tree kind law a key v w =
    upto_is (kind.order a key) ∙ ap (λ d. not (is_lt d)) (sym (law.mirrored a key))
    ∙ ap not (sym ((kinds_order_keys kind law).1 key a w v))

module _ {lt : List ℕ → List ℕ → Bool} (o : Ordered lt) (hi : High (List ℕ)) (key : List ℕ) where
  -- whether entry i is below the key
  abbrev pub under : List ByteEntry → ℕ → Bool
  under es i = lt (first_key (drop i es)) key

  above_drop :
      (k : List ℕ) (es : List ByteEntry) (i : ℕ) → Ascending lt (past k) hi es → i < length es
      → lt k (first_key (drop i es)) ≡ true
  above_drop k [] i a l = absurd (omega arith)
  above_drop k (e ∷ es) zero a l = a.0
  above_drop k (e ∷ es) (suc i) a l =
      o.transitive k e.key (first_key (drop i es)) a.0 (above_drop e.key es i a.2 (omega arith))

  first_under :
      (e : ByteEntry) (es : List ByteEntry) (r : ℕ) → Ascending lt (past e.key) hi es → r ≤ length es
      → ((i : ℕ) → suc i ≡ suc r → under (e ∷ es) i ≡ true) → lt e.key key ≡ true
  first_under e es zero a l left = left 0 refl
  first_under e es (suc r) a l left =
      o.transitive e.key (first_key (drop r es)) key (above_drop e.key es r a (omega arith)) (left (suc r) refl)

  -- all entries in front of the place are below the key
  in_front :
      (lo : Low (List ℕ)) (es : List ByteEntry) (r : ℕ) (older : Option (List ℕ)) → Ascending lt lo hi es
      → r ≤ length es → ((i : ℕ) → suc i ≡ r → under es i ≡ true)
      → (read lt key es older ≡ read lt key (drop r es) older) × (rank lt key es ≡ r + rank lt key (drop r es))
  in_front lo es zero older a l left = (refl, omega arith)
  in_front lo [] (suc r) older a l left = absurd (omega arith)
  in_front lo (e ∷ es) (suc r) older a l left =
      let below = first_under e es r a.2 (omega arith) left in
      let not_above : lt key e.key ≡ false = grind (arith, o.irreflexive, o.transitive) in
      let ih = in_front (past e.key) es r older a.2 (omega arith) (λ i q. left (suc i) (ap suc q)) in
      let i0 = ih.0 in
      let i1 = ih.1 in
      (rw (not_above, below) i0, rw below (omega (arith, i1)))

  -- where the first entry is not below the key, none is
  none_under :
      (lo : Low (List ℕ)) (e : ByteEntry) (es : List ByteEntry) → Ascending lt lo hi (e ∷ es)
      → lt e.key key ≡ false → rank lt key (e ∷ es) ≡ 0
  none_under lo e [] a n = rw n
  none_under lo e (x ∷ xs) a n =
      let more : lt x.key key ≡ false =
      elim (cases_Bool (lt x.key key)) [
        | inl q ↦ (let z : lt e.key key ≡ true = o.transitive e.key x.key key a.2.0 q in
            absurd (o.irreflexive key (grind (arith, z, n))))
        | inr q ↦ q
      ] in
      let ih = none_under (past e.key) x xs a.2 more in
      rw n ih

  abbrev NotUnder : List ByteEntry → Type 0
  NotUnder es = 0 < length es → lt (first_key es) key ≡ false

  rank_none : (lo : Low (List ℕ)) (es : List ByteEntry) → Ascending lt lo hi es → NotUnder es → rank lt key es ≡ 0
  rank_none lo [] a n = refl
  rank_none lo (e ∷ es) a n = none_under lo e es a (n (omega arith))

  pub divided :
      (lo : Low (List ℕ)) (es : List ByteEntry) (r : ℕ) (older : Option (List ℕ)) → Ascending lt lo hi es
      → Divides (under es) (length es) r
      → (read lt key es older ≡ read lt key (drop r es) older) × (rank lt key es ≡ r)
  divided lo es r older a d =
      let f = in_front lo es r older a d.within d.left in
      let z = rank_none (low_after lo (take r es)) (drop r es) (ascending_drop lt hi lo r es a)
      (λ l. d.right (omega (arith, length-drop r es))) in
      (f.0, omega (arith, f.1, z))
