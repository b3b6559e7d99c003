-- The test of a kind orders all byte strings: valid keys by the kind's laws, the others by their bytes, and any valid
-- key before any other string.
use Rattle.std.proofs.Common.{◌≡◌, ℕ, true, false, List, [], ◌∷◌, Ordering, Less, Equal, Greater, refl, inl, inr, arith}
use Rattle.std.specs.Ordering.{is_lt, ordering_reverse}
use Rattle.std.proofs.lemmas.Bool.{cases_Bool}
use Rattle.records.specs.Kind.{Kind, Lawful}
use Rattle.tree.specs.Order.{Ordered}
use Rattle.tree.specs.Keys.{bytes_below, key_below, KindsOrderKeys}

bytes_irreflexive : (a : List ℕ) → bytes_below a a ≡ true → ⊥
bytes_irreflexive [] t = let z : ◌≡◌ {A = ℕ} 0 1 = cc in omega arith
bytes_irreflexive (x ∷ xs) t = bytes_irreflexive xs (grind arith)

bytes_transitive : (a b c : List ℕ) → bytes_below a b ≡ true → bytes_below b c ≡ true → bytes_below a c ≡ true
bytes_transitive [] [] c p q = q
bytes_transitive [] (y ∷ ys) [] p q = q
bytes_transitive [] (y ∷ ys) (z ∷ zs) p q = refl
bytes_transitive (x ∷ xs) [] c p q = let z : ◌≡◌ {A = ℕ} 0 1 = cc in absurd (omega arith)
bytes_transitive (x ∷ xs) (y ∷ ys) [] p q = q
bytes_transitive (x ∷ xs) (y ∷ ys) (z ∷ zs) p q =
    let ih : bytes_below xs ys ≡ true → bytes_below ys zs ≡ true → bytes_below xs zs ≡ true = bytes_transitive xs ys zs in
    grind arith

bytes_total : (a b : List ℕ) → bytes_below a b ≡ false → bytes_below b a ≡ false → a ≡ b
bytes_total [] [] p q = refl
bytes_total [] (y ∷ ys) p q = let z : ◌≡◌ {A = ℕ} 0 1 = cc in absurd (omega arith)
bytes_total (x ∷ xs) [] p q = let z : ◌≡◌ {A = ℕ} 0 1 = cc in absurd (omega arith)
bytes_total (x ∷ xs) (y ∷ ys) p q =
    let ih : bytes_below xs ys ≡ false → bytes_below ys xs ≡ false → xs ≡ ys = bytes_total xs ys in
    grind arith

is_below : (d : Ordering) → is_lt d ≡ true → d ≡ Less
is_below Less p = refl
is_below Equal p = let z : ◌≡◌ {A = ℕ} 0 1 = cc in absurd (omega arith)
is_below Greater p = let z : ◌≡◌ {A = ℕ} 0 1 = cc in absurd (omega arith)

-- not below either way round is equal
is_same : (d : Ordering) → is_lt d ≡ false → is_lt (ordering_reverse d) ≡ false → d ≡ Equal
is_same Less p q = let z : ◌≡◌ {A = ℕ} 0 1 = cc in absurd (omega arith)
is_same Equal p q = refl
is_same Greater p q = let z : ◌≡◌ {A = ℕ} 0 1 = cc in absurd (omega arith)

module _ (kind : Kind) (lawful : Lawful kind) where
  irreflexive : (a : List ℕ) → key_below kind a a ≡ true → ⊥
  irreflexive a p =
      elim (cases_Bool (kind.valid_key a)) [
        | inl v ↦
            let e = lawful.itself a in
            let z : ◌≡◌ {A = ℕ} 0 1 = grind arith in omega arith
        | inr n ↦ bytes_irreflexive a (grind arith)
      ]

  transitive : (a b c : List ℕ) → key_below kind a b ≡ true → key_below kind b c ≡ true → key_below kind a c ≡ true
  transitive a b c p q =
      let valid = lawful.onward a b c in
      let others = bytes_transitive a b c in
      let ab = is_below (kind.order a b) in
      let bc = is_below (kind.order b c) in
      grind arith

  total : (a b : List ℕ) → key_below kind a b ≡ false → key_below kind b a ≡ false → a ≡ b
  total a b p q =
      let valid = lawful.same a b in
      let others = bytes_total a b in
      let mirror = lawful.mirrored a b in
      let ab = is_same (kind.order a b) in
      grind arith

  pub key_ordered : Ordered (key_below kind)
  key_ordered = record { irreflexive = irreflexive; transitive = transitive; total = total }

pub kinds_order_keys : KindsOrderKeys
kinds_order_keys kind lawful = (key_ordered kind lawful, λ a b v w. grind arith)
