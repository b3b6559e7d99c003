-- A tree with at least two children to a node doubles with each level, and it has no more nodes than slots in use: so
-- 1,024 slots hold at most ten levels, and ten levels take at least 1,023 slots.
use Rattle.std.proofs.Common.{◌≡◌, ℕ, zero, suc, ◌+◌, ◌-◌, ◌*◌, ◌^◌, ◌≤◌, Bool, cond, eqb, sym, refl, ap, inl, inr, mul-le-mul_right, pow-suc, arith, pow_mono}
use native.Mathlib.Nat.{pow-zero}
use Rattle.std.proofs.lemmas.Bool.{cases_lt}
use Rattle.shape.specs.Shape.{Shape, least_children_of}
use Rattle.tree.specs.Entries.{Low, least, from, High, most, until}
use Rattle.tree.specs.Children.{Children, one, more, count, sum_of, EachIn}
use Rattle.tree.specs.Tree.{Tree, Index, levels, slot_sum, leaves}
use Rattle.tree.specs.Sound.{nodes_in, SlotsOnce, SoundNode, SoundRoot}
use Rattle.tree.proofs.Sizes.{Sizes}
use Rattle.tree.proofs.Sound.{SoundChild}
use Rattle.tree.proofs.Slots.{sum_below, below_same}

module _ {K X : Type 0} where
  -- if each child counts at least b, all children count at least b each
  pub sum_least : (w : X → ℕ) (P : Low K → High K → X → Type 0) (b : ℕ) (lo : Low K) (hi : High K)
      (cs : Children K X) → ((lo : Low K) (hi : High K) (x : X) → P lo hi x → b ≤ w x) → EachIn P lo hi cs →
      count cs * b ≤ sum_of w cs
  sum_least w P b lo hi (one x) f g = omega (arith, f lo hi x g)
  sum_least w P b lo hi (more x sk cs) f g =
      omega (arith, f lo (until sk) x g.0, sum_least w P b (from sk) hi cs f g.1)

  sum_plus : (v w : X → ℕ) (cs : Children K X) → sum_of (λ x. v x + w x) cs ≡ sum_of v cs + sum_of w cs
  sum_plus v w (one x) = refl
  sum_plus v w (more x sk cs) = omega (arith, sum_plus v w cs)

  sum_same : (v w : X → ℕ) (cs : Children K X) → ((x : X) → v x ≡ w x) → sum_of v cs ≡ sum_of w cs
  sum_same v w (one x) f = f x
  sum_same v w (more x sk cs) f = omega (arith, f x, sum_same v w cs f)

below_most : (w : ℕ → ℕ) (n : ℕ) → ((x : ℕ) → w x ≤ 1) → sum_below w n ≤ n
below_most w zero f = omega arith
below_most w (suc n) f = omega (arith, f n, below_most w n f)

module _ {K V : Type 0} (v w : ℕ → ℕ) where
  slots_plus : (h : ℕ) (t : Tree K V h) → slot_sum (λ x. v x + w x) h t ≡ slot_sum v h t + slot_sum w h t
  slots_plus zero t = refl
  slots_plus (suc h) t =
      omega (
        arith,
        sum_plus (slot_sum v h) (slot_sum w h) t.children,
        sum_same (slot_sum (λ x. v x + w x) h) (λ x. slot_sum v h x + slot_sum w h x) t.children (slots_plus h),
      )

  children_le : (h : ℕ) →
      ((c : Tree K V h) → ((x : ℕ) → 1 ≤ nodes_in x h c → v x ≤ w x) → slot_sum v h c ≤ slot_sum w h c) →
      (cs : Children K (Tree K V h)) → ((x : ℕ) → 1 ≤ sum_of (nodes_in x h) cs → v x ≤ w x) →
      sum_of (slot_sum v h) cs ≤ sum_of (slot_sum w h) cs
  children_le h le (one c) f = le c f
  children_le h le (more c sk cs) f =
      omega (arith, le c (λ x p. f x (omega arith)), children_le h le cs (λ x p. f x (omega arith)))

  -- two sums over the nodes need be compared only at slots where nodes stand
  slots_le : (h : ℕ) (t : Tree K V h) → ((x : ℕ) → 1 ≤ nodes_in x h t → v x ≤ w x) → slot_sum v h t ≤ slot_sum w h t
  slots_le zero t f = f t.slot (grind arith)
  slots_le (suc h) t f =
      let own : 1 ≤ cond (eqb t.slot t.slot) 1 0 = grind arith in
      omega (arith, f t.slot (omega arith), children_le h (slots_le h) t.children (λ x p. f x (omega arith)))

module _ {K V : Type 0} where
  slots_zero : (h : ℕ) (t : Tree K V h) → slot_sum (λ x. 0) h t ≡ 0
  slots_zero zero t = refl
  slots_zero (suc h) t = omega (arith, zeros (slot_sum (λ x. 0) h) t.children (slots_zero h))
    where
      zeros : {X : Type 0} (w : X → ℕ) (cs : Children K X) → ((x : X) → w x ≡ 0) → sum_of w cs ≡ 0
      zeros w (one x) f = f x
      zeros w (more x sk cs) f = omega (arith, f x, zeros w cs f)

  -- counting the nodes slot by slot
  slots_each : (h n : ℕ) (t : Tree K V h) →
      sum_below (λ x. nodes_in x h t) n ≡ slot_sum (λ y. sum_below (λ x. cond (eqb y x) 1 0) n) h t
  slots_each h zero t = sym (slots_zero h t)
  slots_each h (suc n) t =
      omega (
        arith,
        slots_each h n t,
        slots_plus (λ y. sum_below (λ x. cond (eqb y x) 1 0) n) (λ y. cond (eqb y n) 1 0) h t,
      )

  -- there are no more nodes than slots in use
  pub nodes_used : (i : Index K V) → SlotsOnce i → slot_sum (λ x. 1) i.height i.root ≤ i.used
  nodes_used i once =
      let h = i.height in
      let t = i.root in
      let w : ℕ → ℕ = λ y. sum_below (λ x. cond (eqb y x) 1 0) i.used in
      omega (
        arith,
        slots_le (λ x. 1) w h t stands,
        slots_each h i.used t,
        below_most (λ x. nodes_in x h t) i.used most_one,
      )
    where
      most_one : (x : ℕ) → nodes_in x i.height i.root ≤ 1
      most_one x = let e = once x in grind arith

      stands : (x : ℕ) → 1 ≤ nodes_in x i.height i.root →
          1 ≤ sum_below (λ y. cond (eqb x y) 1 0) i.used
      stands x p = omega (arith, once x, below_same x i.used)

module _ {K V : Type 0} (lt : K → K → Bool) (s : Shape) (sz : Sizes s) where
  -- with at least two children to each inner node
  pub nodes_least : (h fewest : ℕ) (lo : Low K) (hi : High K) (t : Tree K V h) → 2 ≤ fewest →
      SoundNode lt s s.capacity fewest h lo hi t → 2 ^ suc h - 1 ≤ slot_sum (λ x. 1) h t
  nodes_least zero fewest lo hi t f g = omega arith
  nodes_least (suc h) fewest lo hi t f g =
      let u : 2 ≤ least_children_of s = omega (arith, sz.wide) in
      let b : ℕ = 2 ^ suc h - 1 in
      let all = sum_least (slot_sum (λ x. 1) h) (SoundChild V lt s h) b lo hi t.children
      (λ lo hi x g. nodes_least h (least_children_of s) lo hi x u g) g.4 in
      let two : 2 ≤ count t.children = omega (arith, g.2) in
      omega (arith, all, mul-le-mul_right b two, pow-suc 2 (suc h))

  pub leaves_least : (h : ℕ) (lo : Low K) (hi : High K) (t : Tree K V h) → SoundChild V lt s h lo hi t →
      least_children_of s ^ h ≤ leaves h t
  leaves_least zero lo hi t g = omega (arith, pow-zero (least_children_of s))
  leaves_least (suc h) lo hi t g =
      let u = least_children_of s in
      omega (
        arith,
        sum_least (leaves h) (SoundChild V lt s h) (u ^ h) lo hi t.children (leaves_least h) g.4,
        mul-le-mul_right (u ^ h) g.2.0,
        pow-suc u h,
      )

  pub root_leaves : (i : Index K V) (h : ℕ) → levels i ≡ suc (suc h) → SoundRoot lt s i →
      2 * least_children_of s ^ h ≤ leaves i.height i.root
  root_leaves i h e = go i.height i.root (omega arith)
    where
      go : (n : ℕ) (t : Tree K V n) → n ≡ suc h → SoundNode lt s s.capacity 2 n least most t →
          2 * least_children_of s ^ h ≤ leaves n t
      go zero t e g = absurd (omega arith)
      go (suc n) t e g =
          let u = least_children_of s in
          let same : h ≡ n = omega arith in
          omega (
            arith,
            sum_least (leaves n) (SoundChild V lt s n) (u ^ n) least most t.children (leaves_least n) g.4,
            mul-le-mul_right (u ^ n) g.2.0,
            ap (λ x. u ^ x) same,
          )

  pub ten_levels : (i : Index K V) → SoundRoot lt s i → SlotsOnce i → i.used ≤ 1024 → levels i ≤ 10
  ten_levels i g once l =
      elim (cases_lt 9 i.height) [
        | inl b ↦ absurd (omega (
          arith,
          nodes_used i once,
          nodes_least i.height 2 least most i.root (omega arith) g,
          pow_mono {i = 11} {j = suc i.height} (omega arith),
        ))
        | inr b ↦ omega arith
      ]

  pub ten_full : (i : Index K V) → SoundRoot lt s i → SlotsOnce i → levels i ≡ 10 → 1023 ≤ i.used
  ten_full i g once e =
      let h : suc i.height ≡ 10 = e in
      omega (
        arith,
        nodes_used i once,
        nodes_least i.height 2 least most i.root (omega arith) g,
        ap (λ n. 2 ^ n) h,
      )
