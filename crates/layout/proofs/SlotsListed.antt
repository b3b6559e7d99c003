-- The slots that a walk lists: a slot is listed only if it was not before, so each stands at most once in the list; and
-- if the list is as long as there are used slots, each of these stands in it exactly once.
use Rattle.std.proofs.Common.{◌≡◌, ℕ, zero, suc, ◌+◌, ◌<◌, ◌≤◌, true, false, cond, ◌&&◌, eqb, ltb, List, [], ◌∷◌, length, sym, refl, ap, ◌∙◌, inl, inr, arith}
use Rattle.std.specs.List.{AllByRecursion}
use Rattle.std.proofs.lemmas.Bool.{and_parts, and_from, eqb-true, eq-eqb, ne_eqb, ltb-true, lt-ltb, cases_lt, cases_eq}
use Rattle.std.proofs.lemmas.Bool.Decides.{nat_tests}
use Rattle.tree.specs.Children.{one, more, sum_of}
use Rattle.tree.proofs.Slots.{sum_below, below_same}
use Rattle.layout.specs.Slots.{child_list}
use Rattle.layout.specs.Nodes.{SlotChildren, is, weigh_list, times_in, good_slots, listed_after}

pub is_small : (x y : ℕ) → is x y ≤ 1
is_small x y = grind (arith, nat_tests)

pub is_same : (x : ℕ) → is x x ≡ 1
is_same x = grind (arith, nat_tests)

pub is_other : (x y : ℕ) → (y ≡ x → ⊥) → is x y ≡ 0
is_other x y d = let e : eqb y x ≡ false = ne_eqb y x d in rw e

abbrev pub AllBelow : ℕ → SlotChildren → Type 0
AllBelow used cs = AllByRecursion (λ x. x < used) (child_list cs)

pub listed_below :
    (used : ℕ) (listed : List ℕ) (cs : SlotChildren) → good_slots used listed cs ≡ true → AllBelow used cs
unfolding good_slots
listed_below used listed (one x) h = (ltb-true x used (and_parts (ltb x used) (eqb (times_in x listed) 0) h).0, tt)
listed_below used listed (more x sk cs) h =
    let a = and_parts (ltb x used) (eqb (times_in x listed) 0 && good_slots used (x ∷ listed) cs) h in
    let b = and_parts (eqb (times_in x listed) 0) (good_slots used (x ∷ listed) cs) a.1 in
    (ltb-true x used a.0, listed_below used (x ∷ listed) cs b.1)

one_more :
    (x y : ℕ) (listed : List ℕ) → times_in x listed ≤ 1 → times_in y listed ≡ 0 → is x y + times_in x listed ≤ 1
one_more x y listed h n =
    elim (cases_eq y x) [
      | inl e ↦ let m : times_in x listed ≡ 0 = rw (← e) n in omega (arith, is_small x y)
      | inr d ↦ omega (arith, is_other x y d)
    ]

pub listed_once :
    (used : ℕ) (listed : List ℕ) (cs : SlotChildren) → good_slots used listed cs ≡ true
    → (x : ℕ) → times_in x listed ≤ 1 → times_in x (listed_after listed cs) ≤ 1
unfolding good_slots
listed_once used listed (one y) h x l =
    let a = and_parts (ltb y used) (eqb (times_in y listed) 0) h in
    one_more x y listed l (eqb-true (times_in y listed) 0 a.1)
listed_once used listed (more y sk cs) h x l =
    let a = and_parts (ltb y used) (eqb (times_in y listed) 0 && good_slots used (y ∷ listed) cs) h in
    let b = and_parts (eqb (times_in y listed) 0) (good_slots used (y ∷ listed) cs) a.1 in
    listed_once used (y ∷ listed) cs b.1 x (one_more x y listed l (eqb-true (times_in y listed) 0 b.0))

pub listed_only :
    (used : ℕ) (listed : List ℕ) (cs : SlotChildren) → AllBelow used cs
    → (x : ℕ) → used ≤ x → times_in x listed ≡ 0 → times_in x (listed_after listed cs) ≡ 0
listed_only used listed (one y) h x l z = omega (arith, is_other x y (λ e. omega (arith, h.0)))
listed_only used listed (more y sk cs) h x l z =
    listed_only used (y ∷ listed) cs h.1 x l (omega (arith, is_other x y (λ e. omega (arith, h.0))))

pub weigh_listed :
    (w : ℕ → ℕ) (listed : List ℕ) (cs : SlotChildren)
    → weigh_list w (listed_after listed cs) ≡ weigh_list w listed + sum_of w cs
weigh_listed w listed (one x) = omega arith
weigh_listed w listed (more x sk cs) = omega (arith, weigh_listed w (x ∷ listed) cs)

pub slots_pass :
    (used : ℕ) (listed : List ℕ) (cs : SlotChildren) → AllBelow used cs
    → ((x : ℕ) → times_in x listed + sum_of (is x) cs ≤ 1) → good_slots used listed cs ≡ true
unfolding good_slots
slots_pass used listed (one y) b h =
    and_from _ _ (lt-ltb y used b.0) (eq-eqb (times_in y listed) 0 (omega (arith, h y, is_same y)))
slots_pass used listed (more y sk cs) b h =
    and_from _ _ (lt-ltb y used b.0) (
    and_from _ _ (eq-eqb (times_in y listed) 0 (omega (arith, h y, is_same y)))
    (slots_pass used (y ∷ listed) cs b.1 (λ x. omega (arith, h x))))

-- a number that is among those below n, since no other is
below_from : (n y : ℕ) → ((x : ℕ) → n ≤ x → is x y ≡ 0) → y < n
below_from n y h =
    elim (cases_lt y n) [
      | inl l ↦ l
      | inr l ↦ absurd (omega (arith, h y l, is_same y))
    ]

pub slots_below :
    (used : ℕ) (cs : SlotChildren) → ((x : ℕ) → used ≤ x → sum_of (is x) cs ≡ 0) → AllBelow used cs
slots_below used (one y) h = (below_from used y h, tt)
slots_below used (more y sk cs) h = (
  below_from used y (λ x l. omega (arith, h x l)),
  slots_below used cs (λ x l. omega (arith, h x l)),
)

-- numbers below n, each at most once, n of them: each once

sum_add : (f g : ℕ → ℕ) (n : ℕ) → sum_below (λ x. f x + g x) n ≡ sum_below f n + sum_below g n
sum_add f g zero = refl
sum_add f g (suc n) = omega (arith, sum_add f g n)

sum_zero : (n : ℕ) → sum_below (λ x. 0) n ≡ 0
sum_zero zero = refl
sum_zero (suc n) = omega (arith, sum_zero n)

length-sum :
    (n : ℕ) (xs : List ℕ) → ((x : ℕ) → n ≤ x → times_in x xs ≡ 0) → length xs ≡ sum_below (λ x. times_in x xs) n
length-sum n [] h = sym (sum_zero n)
length-sum n (y ∷ xs) h =
    let lt : y < n = below_from n y (λ x g. omega (arith, h x g)) in
    let one : sum_below (λ x. is x y) n ≡ 1 = below_same y n ∙ ap (λ b. cond b 1 0) (lt-ltb y n lt) in
    omega (
      arith,
      sum_add (λ x. is x y) (λ x. times_in x xs) n,
      length-sum n xs (λ x g. omega (arith, h x g)),
    )

sum_few : (f : ℕ → ℕ) (n : ℕ) → ((x : ℕ) → f x ≤ 1) → sum_below f n ≤ n
sum_few f zero h = omega arith
sum_few f (suc n) h = omega (arith, sum_few f n h, h n)

sum_full : (f : ℕ → ℕ) (n : ℕ) → ((x : ℕ) → f x ≤ 1) → sum_below f n ≡ n → (x : ℕ) → x < n → f x ≡ 1
sum_full f zero h e x l = absurd (omega arith)
sum_full f (suc n) h e x l =
    elim (cases_eq x n) [
      | inl q ↦ rw q (omega (arith, sum_few f n h, h n))
      | inr d ↦ sum_full f n h (omega (arith, sum_few f n h, h n)) x (omega arith)
    ]

sum_ones : (f : ℕ → ℕ) (n : ℕ) → ((x : ℕ) → x < n → f x ≡ 1) → sum_below f n ≡ n
sum_ones f zero h = refl
sum_ones f (suc n) h = omega (arith, sum_ones f n (λ x l. h x (omega arith)), h n (omega arith))

pub each_once :
    (n : ℕ) (xs : List ℕ) → ((x : ℕ) → times_in x xs ≤ 1) → ((x : ℕ) → n ≤ x → times_in x xs ≡ 0) → length xs ≡ n
    → (x : ℕ) → x < n → times_in x xs ≡ 1
each_once n xs few none long = sum_full (λ x. times_in x xs) n few (sym (length-sum n xs none) ∙ long)

pub length-once :
    (n : ℕ) (xs : List ℕ) → ((x : ℕ) → x < n → times_in x xs ≡ 1) → ((x : ℕ) → n ≤ x → times_in x xs ≡ 0)
    → length xs ≡ n
length-once n xs each none = length-sum n xs none ∙ sum_ones (λ x. times_in x xs) n each
