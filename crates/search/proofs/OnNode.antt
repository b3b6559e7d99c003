-- The s-keys of a node ascend, so the number of those at the key or below it is the place of the child that the key
-- belongs to.
use Rattle.std.proofs.Common.{◌≡◌, ℕ, zero, suc, ◌+◌, ◌*◌, ◌<◌, ◌≤◌, Bool, true, false, not, List, [], ◌∷◌, length, get_or, take, drop, sym, refl, ap, ◌∙◌, subst, inl, inr, suc-mul, zero-mul, arith}
use Rattle.std.specs.List.{AllByRecursion}
use Rattle.std.specs.Ordering.{is_le}
use Rattle.std.specs.Int.{w16, from_be_bytes}
use Rattle.std.proofs.lemmas.List.{drop-drop}
use Rattle.std.proofs.lemmas.Bool.{not-true, not-false, cases_Bool, both_ways}
use Rattle.records.specs.Bytes.{word}
use Rattle.records.specs.Kind.{Kind, Lawful}
use Rattle.tree.specs.Order.{Ordered, ordering_of, pick}
use Rattle.tree.specs.Entries.{Low, past, High}
use Rattle.tree.specs.Children.{child_at, place_of, SKeysAscend}
use Rattle.tree.specs.Keys.{key_below}
use Rattle.tree.proofs.Keys.{key_ordered}
use Rattle.layout.specs.Slots.{s_key_list}
use Rattle.layout.specs.Nodes.{children_from}
use Rattle.layout.specs.Rows.{key_in, Divides}
use Rattle.layout.specs.Holds.{ValidKey}
use Rattle.layout.proofs.Numbers.{two_at}
use Rattle.search.specs.Found.{BelongsTo}
use Rattle.search.proofs.Divided.{divides_same, divides_row, upto_by_tree}

-- the next key of a row
next_key : (w i : ℕ) (keys : List ℕ) → key_in w w keys (suc i) ≡ key_in w w (drop w keys) i
next_key w i keys =
    let a : suc i * w ≡ w + i * w = omega (arith, suc-mul i w) in
    ap (λ n. take w (drop n keys)) a ∙ ap (take w) (sym (drop-drop (i * w) w keys))

first_key_lem : (w : ℕ) (keys : List ℕ) → key_in w w keys 0 ≡ take w keys
first_key_lem w keys = ap (λ n. take w (drop n keys)) (zero-mul w)

-- a child other than the first, where the key is not below the s-key
not_first : (b : Bool) (m : ℕ) → pick (ordering_of false b) 0 m m ≡ m
not_first true m = refl
not_first false m = refl

module _ {lt : List ℕ → List ℕ → Bool} (o : Ordered lt) (hi : High (List ℕ)) (w : ℕ) (key : List ℕ) where
  above_s_keys :
      (k : List ℕ) (n i : ℕ) (slots keys : List ℕ) → SKeysAscend lt (past k) hi (children_from w n slots keys) → i < n
      → lt k (key_in w w keys i) ≡ true
  unfolding children_from
  above_s_keys k zero i slots keys a l = absurd (omega arith)
  above_s_keys k (suc n) zero slots keys a l = ap (lt k) (first_key_lem w keys) ∙ a.0
  above_s_keys k (suc n) (suc i) slots keys a l =
      ap (lt k) (next_key w i keys)
      ∙ o.transitive k (take w keys) (key_in w w (drop w keys) i) a.0
      (above_s_keys (take w keys) n i (drop 2 slots) (drop w keys) a.2 (omega arith))

  abbrev up_to : List ℕ → ℕ → Bool
  up_to keys i = not (lt key (key_in w w keys i))

  -- the key is not below the first s-key, if it is not below a later one
  from_first :
      (n q : ℕ) (slots keys : List ℕ) → SKeysAscend lt (past (take w keys)) hi (children_from w n slots (drop w keys))
      → q ≤ n → up_to keys q ≡ true → lt key (take w keys) ≡ false
  from_first n zero slots keys a l u =
      ap (lt key) (sym (first_key_lem w keys)) ∙ not-true (lt key (key_in w w keys 0)) u
  from_first n (suc q) slots keys a l u =
      let far : lt key (key_in w w (drop w keys) q) ≡ false =
      ap (lt key) (sym (next_key w q keys)) ∙ not-true (lt key (key_in w w keys (suc q))) u in
      let up = above_s_keys (take w keys) n q slots (drop w keys) a (omega arith) in
      elim (cases_Bool (lt key (take w keys))) [
        | inl t ↦ absurd (both_ways (lt key (key_in w w (drop w keys) q)) far
            (o.transitive key (take w keys) (key_in w w (drop w keys) q) t up))
        | inr f ↦ f
      ]

  place_divides :
      (lo : Low (List ℕ)) (n r : ℕ) (slots keys : List ℕ) → SKeysAscend lt lo hi (children_from w n slots keys)
      → Divides (up_to keys) n r → place_of lt key (children_from w n slots keys) ≡ r
  unfolding children_from
  place_divides lo zero r slots keys a d = omega (arith, d.within)
  place_divides lo (suc n) zero slots keys a d =
      let b : lt key (take w keys) ≡ true =
      ap (lt key) (sym (first_key_lem w keys)) ∙ not-false (lt key (key_in w w keys 0)) (d.right (omega arith)) in
      rw b
  place_divides lo (suc n) (suc q) slots keys a d =
      let b = from_first n q (drop 2 slots) keys a.2 (omega (arith, d.within)) (d.left q refl) in
      let sk = take w keys in
      let rest : Divides (up_to (drop w keys)) n q =
      record {
        within = omega (arith, d.within);
        left = λ i e. ap (λ k. not (lt key k)) (sym (next_key w i keys)) ∙ d.left (suc i) (ap suc e);
        right = λ l. ap (λ k. not (lt key k)) (sym (next_key w q keys)) ∙ d.right (omega arith);
      } in
      let ih = place_divides (past sk) n q (drop 2 slots) (drop w keys) a.2 rest in
      let m = suc (place_of lt key (children_from w n (drop 2 slots) (drop w keys))) in
      ap (λ t. pick (ordering_of t (lt sk key)) 0 m m) b ∙ not_first (lt sk key) m ∙ ap suc ih

-- the slot of child r
child_slot :
    (w n r : ℕ) (slots keys : List ℕ) → r ≤ n
    → child_at r (children_from w n slots keys) ≡ word (take 2 (drop (2 * r) slots))
unfolding children_from
child_slot w zero zero slots keys l = refl
child_slot w zero (suc r) slots keys l = absurd (omega arith)
child_slot w (suc n) zero slots keys l = refl
child_slot w (suc n) (suc r) slots keys l =
    let a : 2 * suc r ≡ 2 + 2 * r = omega arith in
    child_slot w n r (drop 2 slots) (drop w keys) (omega arith)
    ∙ ap (λ xs. word (take 2 xs)) (drop-drop (2 * r) 2 slots) ∙ ap (λ m. word (take 2 (drop m slots))) (sym a)

s_key_valid :
    (kind : Kind) (w n i : ℕ) (slots keys : List ℕ)
    → AllByRecursion (ValidKey kind) (s_key_list (children_from w n slots keys))
    → i < n → ValidKey kind (key_in w w keys i)
unfolding children_from
s_key_valid kind w zero i slots keys v l = absurd (omega arith)
s_key_valid kind w (suc n) zero slots keys v l = ap kind.valid_key (first_key_lem w keys) ∙ v.0
s_key_valid kind w (suc n) (suc i) slots keys v l =
    ap kind.valid_key (next_key w i keys)
    ∙ s_key_valid kind w n i (drop 2 slots) (drop w keys) v.1 (omega arith)

-- the child as the code finds it
pub child_found :
    (kind : Kind) → Lawful kind → (key slots keys bytes : List ℕ) (w v m n r slot : ℕ) → w ≡ kind.key_width → v ≡ 0
    → m ≡ n → bytes ≡ keys → 2 * r + 1 < length slots
    → slot ≡ from_be_bytes w16 (get_or slots (2 * r) 0 ∷ get_or slots (2 * r + 1) 0 ∷ [])
    → Divides (λ i. is_le (kind.order (key_in w (w + v) bytes i) key)) m r
    → BelongsTo kind key (children_from kind.key_width n slots keys) slot
child_found kind law key slots keys bytes w v m n r slot wide none many same there is d = λ lo hi ascend valid good.
    let x = kind.key_width in
    let cs = children_from x n slots keys in
    let alone : x + 0 ≡ x = omega arith in
    let d₁ = divides_row (λ k. is_le (kind.order k key)) x 0 n w v m r keys bytes wide none many same d in
    let d₂ = subst (λ s. Divides (λ i. is_le (kind.order (key_in x s keys i) key)) n r) alone d₁ in
    let d₃ = divides_same _ (λ i. not (key_below kind key (key_in x x keys i))) n r (λ i l.
    upto_by_tree kind law (key_in x x keys i) key (s_key_valid kind x n i slots keys valid l) good) d₂ in
    let place = place_divides (key_ordered kind law) hi x key lo n r slots keys ascend d₃ in
    let two : slot ≡ get_or slots (2 * r) 0 * 256 + get_or slots (2 * r + 1) 0 = is ∙ omega arith in
    two ∙ sym (two_at (2 * r) slots there) ∙ sym (child_slot x n r slots keys d₃.within)
    ∙ ap (λ i. child_at i cs) (sym place)
