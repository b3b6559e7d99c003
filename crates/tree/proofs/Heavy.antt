-- The heavy child holds at least its even share of the entries: each entry belongs to one child, so the tallies add up
-- to all entries, and no tally is above the largest.
use Rattle.std.proofs.Common.{◌≡◌, ℕ, zero, suc, ◌+◌, ◌-◌, ◌*◌, ◌<◌, ◌≤◌, Bool, cond, eqb, List, [], ◌∷◌, length, refl, ap, ◌∙◌, inl, inr, arith}
use Rattle.std.proofs.lemmas.Bool.{cases_lt, cases_eq}
use Rattle.tree.specs.Order.{Ordered}
use Rattle.tree.specs.Entries.{Entry, tally}
use Rattle.tree.specs.Children.{Children, one, more, count, leftmost_largest, place_of, belongs, heavy_place}

-- the sum of t 0, t 1, .. t n
abbrev sum_to : (ℕ → ℕ) → ℕ → ℕ
sum_to t zero = t 0
sum_to t (suc n) = sum_to t n + t (suc n)

pub largest_le : (t : ℕ → ℕ) (n : ℕ) → leftmost_largest t n ≤ n
largest_le t zero = omega arith
largest_le t (suc n) = let ih = largest_le t n in grind arith

pub largest_most : (t : ℕ → ℕ) (n i : ℕ) → i ≤ n → t i ≤ t (leftmost_largest t n)
largest_most t zero zero h = omega arith
largest_most t zero (suc i) h = absurd (omega arith)
largest_most t (suc n) i h =
    let ih : (i ≤ n) → t i ≤ t (leftmost_largest t n) = largest_most t n i in
    let at : (i ≡ suc n) → t i ≡ t (suc n) = ap t in
    let ways = cases_eq i (suc n) in
    grind arith

-- none further left is as large
pub largest_first : (t : ℕ → ℕ) (n i : ℕ) → i < leftmost_largest t n → t i < t (leftmost_largest t n)
largest_first t zero i h = absurd (omega arith)
largest_first t (suc n) i h =
    let ih : i < leftmost_largest t n → t i < t (leftmost_largest t n) = largest_first t n i in
    let all : i ≤ n → t i ≤ t (leftmost_largest t n) = largest_most t n i in
    grind arith

sum_most : (t : ℕ → ℕ) (m n : ℕ) → ((i : ℕ) → i ≤ n → t i ≤ m) → sum_to t n ≤ suc n * m
sum_most t m zero f = omega (arith, f 0 (omega arith))
sum_most t m (suc n) f = omega (arith, f (suc n) (omega arith), sum_most t m n (λ i h. f i (omega arith)))

sum_miss : (t : ℕ → ℕ) (j n : ℕ) → n < j → sum_to (λ i. cond (eqb j i) (suc (t i)) (t i)) n ≡ sum_to t n
sum_miss t j zero h = grind arith
sum_miss t j (suc n) h = let ih = sum_miss t j n (omega arith) in grind arith

sum_hit : (t : ℕ → ℕ) (j n : ℕ) → j ≤ n → sum_to (λ i. cond (eqb j i) (suc (t i)) (t i)) n ≡ suc (sum_to t n)
sum_hit t j zero h = grind arith
sum_hit t j (suc n) h =
    elim (cases_lt n j) [
      | inl l ↦
          let missed = sum_miss t j n l in
          grind arith
      | inr l ↦
          let hit = sum_hit t j n l in
          grind arith
    ]

module _ {K X : Type 0} where
  pub count_pos : (cs : Children K X) → 0 < count cs
  count_pos (one x) = omega arith
  count_pos (more x sk cs) = omega arith

module _ {K X : Type 0} {lt : K → K → Bool} (o : Ordered lt) where
  pub place_lt : (k : K) (cs : Children K X) → place_of lt k cs < count cs
  place_lt k (one x) = omega arith
  place_lt k (more x sk cs) = let ih = place_lt k cs in grind arith

module _ {K V X : Type 0} {lt : K → K → Bool} (o : Ordered lt) (cs : Children K X) where
  pub tallies_sum : (es : List (Entry K V)) → sum_to (λ i. tally (belongs lt cs i) es) (count cs - 1) ≡ length es
  tallies_sum [] = zeros (count cs - 1)
    where
      zeros : (n : ℕ) → sum_to (λ i. 0) n ≡ 0
      zeros zero = refl
      zeros (suc n) = omega (arith, zeros n)
  tallies_sum (e ∷ es) =
      let share : ℕ → ℕ = λ i. tally (belongs lt cs i) es in
      sum_hit share (place_of lt e.key cs) (count cs - 1) (omega (arith, place_lt o e.key cs))
      ∙ ap suc (tallies_sum es)

  -- the tally of the heavy child, times the number of children, is at least all entries
  pub heavy_most : (es : List (Entry K V)) → length es ≤ count cs * tally (belongs lt cs (heavy_place lt es cs)) es
  heavy_most es =
      let share : ℕ → ℕ = λ i. tally (belongs lt cs i) es in
      let largest = share (heavy_place lt es cs) in
      let last = count cs - 1 in
      let pos : 0 < count cs = omega (arith, count_pos cs) in
      let all = sum_most share largest last (largest_most share last) in
      omega (arith, tallies_sum es, all, ap (λ n. n * largest) (suc_last (count cs) pos))
    where
      suc_last : (n : ℕ) → 0 < n → suc (n - 1) ≡ n
      suc_last n l = omega arith

  pub heavy_lt : (es : List (Entry K V)) → heavy_place lt es cs < count cs
  heavy_lt es = omega (arith, largest_le (λ i. tally (belongs lt cs i) es) (count cs - 1), count_pos cs)
