-- The inspection of a node page, child by child: each slot is tested and listed, each s-key tested, before the next.
use Rattle.std.proofs.Common.{◌≡◌, ℕ, zero, suc, ◌+◌, ◌-◌, ◌*◌, ◌/◌, ◌<◌, ◌≤◌, min, Bool, true, false, ◌&&◌, eqb, ltb, List, [], ◌∷◌, ◌++◌, map, length, get_or, take, drop, set, sym, refl, ap, subst, ◌∙◌, ⊎_elim, mul-le-mul, suc-mul, zero-mul, arith}
use Rattle.std.proofs.lemmas.List.{drop-drop, drop_more, take_rest, get_or-set_same, get_or-set_other, length-append, length-drop, take_at, drop_at, take-take, drop-take}
use Rattle.std.proofs.lemmas.Bool.{cases_eq, eq-eqb, ne_eqb, lt-ltb, le-ltb}
use Rattle.std.proofs.Math.Bool.{and-true}
use Rattle.std.specs.Int.{w16, from_be_bytes}
use Rattle.std.specs.Simd.{first_chunks}
use Rattle.records.specs.Bytes.{word}
use Rattle.tree.specs.Children.{one, more}
use Rattle.layout.specs.Nodes.{SlotChildren, children_from, times_in, good_slots, listed_after}
use Rattle.layout.proofs.Numbers.{two_at}
use Rattle.inspect.specs.declared.listed.Listed.{Listed}
use Rattle.inspect.specs.Listed.{Lists, SlotsBelow}

pub first_slot :
    (bs : List ℕ) → 2 ≤ length bs → word (take 2 bs) ≡ from_be_bytes w16 (get_or bs 0 0 ∷ get_or bs 1 0 ∷ [])
first_slot bs h = two_at 0 bs (omega arith) ∙ omega arith

-- children, one by one
pub children_one :
    (w n : ℕ) (slots keys : List ℕ) → n ≡ 0 → children_from w n slots keys ≡ one (word (take 2 slots))
unfolding children_from
children_one w zero slots keys e = refl
children_one w (suc n) slots keys e = absurd (omega arith)

pub children_more :
    (w n : ℕ) (slots keys : List ℕ) → 1 ≤ n
    → children_from w n slots keys
    ≡ more (word (take 2 slots)) (take w keys) (children_from w (n - 1) (drop 2 slots) (drop w keys))
unfolding children_from
children_more w zero slots keys h = absurd (omega arith)
children_more w (suc n) slots keys h =
    let e : n ≡ suc n - 1 = omega arith in
    ap (λ m. more (word (take 2 slots)) (take w keys) (children_from w m (drop 2 slots) (drop w keys))) e

-- the slots of children, in one list
abbrev pub slots_of : SlotChildren → List ℕ
slots_of (one x) = x ∷ []
slots_of (more x sk cs) = x ∷ slots_of cs

-- good_slots and listed_after of such a list, and that all of its slots are used ones; here no slot may be left
abbrev pub good_list : (used : ℕ) → List ℕ → List ℕ → Bool
good_list used listed [] = true
good_list used listed (x ∷ xs) = ltb x used && (eqb (times_in x listed) 0 && good_list used (x ∷ listed) xs)

abbrev pub list_after : List ℕ → List ℕ → List ℕ
list_after listed [] = listed
list_after listed (x ∷ xs) = list_after (x ∷ listed) xs

abbrev pub ListBelow : ℕ → List ℕ → Type 0
ListBelow used [] = Unit {0}
ListBelow used (x ∷ xs) = (x < used) × ListBelow used xs

pub slots_good :
    (used : ℕ) (listed : List ℕ) (cs : SlotChildren) → good_list used listed (slots_of cs) ≡ good_slots used listed cs
unfolding good_slots
slots_good used listed (one x) = ap (λ b. ltb x used && b) (and-true (eqb (times_in x listed) 0))
slots_good used listed (more x sk cs) =
    ap (λ b. ltb x used && (eqb (times_in x listed) 0 && b)) (slots_good used (x ∷ listed) cs)

slots_after : (listed : List ℕ) (cs : SlotChildren) → list_after listed (slots_of cs) ≡ listed_after listed cs
slots_after listed (one x) = refl
slots_after listed (more x sk cs) = slots_after (x ∷ listed) cs

slots_below : (used : ℕ) (cs : SlotChildren) → ListBelow used (slots_of cs) → SlotsBelow used cs
slots_below used (one x) h = h.0
slots_below used (more x sk cs) h = (h.0, slots_below used cs h.1)

-- the slots that pairs of bytes write
abbrev pub pair_slots : List (List ℕ) → List ℕ
pair_slots = map (from_be_bytes w16)

pair_slot : (bs : List ℕ) → 2 ≤ length bs → word (take 2 bs) ≡ from_be_bytes w16 (take 2 bs)
pair_slot [] h = absurd (omega arith)
pair_slot (a ∷ []) h = absurd (omega arith)
pair_slot (a ∷ b ∷ rest) h = first_slot (a ∷ b ∷ rest) h

pairs_of :
    (w n k : ℕ) (slots keys : List ℕ) → n < k → 2 * k ≤ length slots
    → pair_slots (take (suc n) (first_chunks 2 k slots)) ≡ slots_of (children_from w n slots keys)
unfolding children_from
pairs_of w n zero slots keys few long = absurd (omega arith)
pairs_of w zero (suc k) slots keys few long = ap (λ x. x ∷ []) (sym (pair_slot slots (omega arith)))
pairs_of w (suc n) (suc k) slots keys few long =
    rw (pair_slot slots (omega arith))
    (ap (λ xs. from_be_bytes w16 (take 2 slots) ∷ xs)
    (pairs_of w n k (drop 2 slots) (drop w keys) (omega arith) (omega (arith, length-drop 2 slots))))

pub pairs_told :
    (w n : ℕ) (slots keys : List ℕ) (pairs : List (List ℕ)) → 2 * n + 2 ≤ length slots
    → pairs ≡ first_chunks 2 (length slots / 2) slots
    → pair_slots (take (n + 1) pairs) ≡ slots_of (children_from w n slots keys)
pairs_told w n slots keys pairs long e =
    ap (λ ps. pair_slots (take (n + 1) ps)) e
    ∙ ap (λ m. pair_slots (take m (first_chunks 2 (length slots / 2) slots))) (let z : n + 1 ≡ suc n = omega arith in z)
    ∙ pairs_of w n (length slots / 2) slots keys (omega arith) (omega arith)

pub pairs_more :
    (pairs : List (List ℕ)) (i x : ℕ) → i < length pairs → x ≡ from_be_bytes w16 (get_or pairs i [])
    → pair_slots (drop i pairs) ≡ x ∷ pair_slots (drop (i + 1) pairs)
pairs_more pairs i x h e =
    ap pair_slots (drop_more pairs i [] h) ∙ ap (λ y. y ∷ pair_slots (drop (i + 1) pairs)) (sym e)

-- after some slots of a list were found good, and listed: what is known, from what is left
pub record Seen (used : ℕ) (now : Listed) (before all left : List ℕ) : Type 0 where
  pub seen : List ℕ
  pub listed : Lists now seen
  pub good : good_list used before all ≡ good_list used seen left
  pub after : list_after before all ≡ list_after seen left

pub record Taken (used : ℕ) (old now : Listed) (all left : List ℕ) : Type 0 where
  pub below : ListBelow used left → ListBelow used all
  pub lists : (before : List ℕ) → Lists old before → Seen used now before all left

pub taken_none : {used : ℕ} {old : Listed} {all : List ℕ} → Taken used old old all all
taken_none {used} {old} {all} = record {
  below = λ h. h;
  lists = λ before h. record { seen = before; listed = h; good = refl; after = refl };
}

module _ {used x : ℕ} {old now : Listed} {all left rest : List ℕ} (t : Taken used old now all left)
    (e : left ≡ x ∷ rest) where
  good_next : {before : List ℕ} → (s : Seen used now before all left) → good_list used before all
      ≡ ltb x used && (eqb (times_in x s.seen) 0 && good_list used (x ∷ s.seen) rest)
  good_next s = s.good ∙ ap (good_list used s.seen) e

  pub taken_more :
      {next : Listed} → x < used
      → ((seen : List ℕ) → Lists now seen → (true ≡ eqb (times_in x seen) 0) × (true ≡ true → Lists next (x ∷ seen)))
      → Taken used old next all rest
  taken_more small new = record {
    below = λ h. t.below (subst (ListBelow used) (sym e) (small, h));
    lists = λ before h.
        let s = t.lists before h in
        let n = new s.seen s.listed in
        record {
          seen = x ∷ s.seen;
          listed = n.1 refl;
          good = good_next s ∙ rw (lt-ltb x used small, sym n.0) refl;
          after = s.after ∙ ap (list_after s.seen) e;
        };
  }

  -- a slot that is not a used one, or was listed before
  pub taken_unused : {before : List ℕ} → used ≤ x → Lists old before → false ≡ good_list used before all
  taken_unused {before} big h = let s = t.lists before h in sym (good_next s ∙ rw (le-ltb x used big) refl)

  pub taken_twice :
      {before : List ℕ} → x < used → ((seen : List ℕ) → Lists now seen → false ≡ eqb (times_in x seen) 0)
      → Lists old before → false ≡ good_list used before all
  taken_twice {before} small twice h =
      let s = t.lists before h in sym (good_next s ∙ rw (lt-ltb x used small, sym (twice s.seen s.listed)) refl)

module _ {used : ℕ} {old now : Listed} {all left : List ℕ} (cs : SlotChildren) (t : Taken used old now all left)
    (e : left ≡ []) (is : all ≡ slots_of cs) where
  pub taken_below : SlotsBelow used cs
  taken_below = slots_below used cs (subst (ListBelow used) is (t.below (subst (ListBelow used) (sym e) tt)))

  pub taken_good :
      {before : List ℕ} → Lists old before
      → (true ≡ good_slots used before cs) × (true ≡ true → Lists now (listed_after before cs))
  taken_good {before} h =
      let s = t.lists before h in
      let good = s.good ∙ ap (good_list used s.seen) e in
      let after = s.after ∙ ap (list_after s.seen) e in (
        sym good ∙ ap (good_list used before) is ∙ slots_good used before cs,
        λ b. subst (Lists now) (sym after ∙ ap (list_after before) is ∙ slots_after before cs) s.listed,
      )

-- slots
times_more : (slot x : ℕ) (listed : List ℕ) → slot ≡ x → ltb 0 (times_in slot (x ∷ listed)) ≡ true
times_more slot x listed e = let b = eq-eqb x slot (sym e) in rw b (lt-ltb 0 _ (omega arith))

times_other : (slot x : ℕ) (listed : List ℕ) → (slot ≡ x → ⊥) → times_in slot (x ∷ listed) ≡ times_in slot listed
times_other slot x listed ne = let b = ne_eqb x slot (λ e. ne (sym e)) in rw b (omega arith)

pub lists_more :
    (l m : Listed) (x : ℕ) (listed : List ℕ) → x < 1024 → length l.flags ≡ 1024
    → m.flags ≡ set l.flags x true → m.count ≡ min (min (l.count + 1) 18446744073709551615) 65535
    → Lists l listed → Lists m (x ∷ listed)
lists_more l m x listed small long f c h = record {
  flags = λ slot lt. ap (λ fs. get_or fs slot false) f ∙ ⊎_elim
      (λ e. ap (λ i. get_or (set l.flags x true) i false) e ∙ get_or-set_same l.flags x true false (omega arith)
      ∙ sym (times_more slot x listed e))
      (λ ne. get_or-set_other l.flags x slot true false ne ∙ h.flags slot lt
      ∙ ap (ltb 0) (sym (times_other slot x listed ne)))
      (cases_eq slot x);
  count = omega (arith, c, h.count);
}

-- the parts of a page as the code takes them
pub keys_part :
    (page rest : List ℕ) (c : ℕ) → rest ≡ drop 3 page → take (length rest - 2 * c) (drop (2 * c) rest) ≡ drop
    (3 + 2 * c) page
keys_part page rest c e = take_rest rest (2 * c) ∙ ap (drop (2 * c)) e ∙ drop-drop (2 * c) 3 page

pub zero_part :
    (page keys : List ℕ) (c w x : ℕ) → keys ≡ drop (3 + 2 * c) page → x ≡ w
    → take (length keys - (c - 1) * x) (drop ((c - 1) * x) keys) ≡ drop (3 + 2 * c + (c - 1) * w) page
zero_part page keys c w x e is =
    take_rest keys ((c - 1) * x) ∙ ap (λ n. drop ((c - 1) * n) keys) is ∙ ap (drop ((c - 1) * w)) e
    ∙ drop-drop ((c - 1) * w) (3 + 2 * c) page

-- at most 8 children and keys of at most 24 bytes fit on a page
pub keys_room : (c w : ℕ) → 1 ≤ c → c ≤ 8 → w ≤ 24 → 3 + 2 * c + (c - 1) * w ≤ 512
keys_room c w some most wide = omega (arith, mul-le-mul {n₁ = c - 1} {n₂ = 7} (omega arith) wide)

-- s-keys, taken off their bytes one by one
pub key_first :
    (w n : ℕ) (all key rest : List ℕ) → 1 ≤ w → all ≡ key ++ rest → length key ≡ w → length all ≡ n * w
    → (k : ℕ) × (length rest ≡ k * w) × ((slots : List ℕ) → children_from w n slots all
    ≡ more (word (take 2 slots)) key (children_from w k (drop 2 slots) rest))
unfolding children_from
key_first w zero all key rest some parts long whole =
    absurd (omega (arith, ap length parts, length-append key rest, zero-mul w))
key_first w (suc k) all key rest some parts long whole =
    let e : suc k * w ≡ w + k * w = omega (arith, suc-mul k w) in
    let front : take w all ≡ key = ap (take w) parts ∙ take_at key rest w long in
    let after : drop w all ≡ rest = ap (drop w) parts ∙ drop_at key rest w long in
    (k, omega (arith, ap length parts, length-append key rest, e, whole), λ slots. rw (front, after))

-- where no s-key is left, the last child is
pub key_none :
    (w n : ℕ) (all : List ℕ) → length all < w → length all ≡ n * w
    → (slots : List ℕ) → children_from w n slots all ≡ one (word (take 2 slots))
unfolding children_from
key_none w zero all short whole slots = refl
key_none w (suc k) all short whole slots = absurd (omega (arith, suc-mul k w))

pub keys_taken :
    (w n : ℕ) (slots keys : List ℕ) → children_from w n slots (take (n * w) keys) ≡ children_from w n slots keys
unfolding children_from
keys_taken w zero slots keys = refl
keys_taken w (suc n) slots keys =
    let e : suc n * w ≡ w + n * w = omega (arith, suc-mul n w) in
    let key : take w (take (w + n * w) keys) ≡ take w keys = take-take w (w + n * w) keys (omega arith) in
    let others : drop w (take (w + n * w) keys) ≡ take (n * w) (drop w keys) = drop-take w (n * w) keys in
    rw (e, key, others) (ap (more (word (take 2 slots)) (take w keys)) (keys_taken w n (drop 2 slots) (drop w keys)))
