-- The children of an inner node with the s-keys between them. An s-key is the key from which on keys belong to the
-- child at its right. The children may be nodes, or anything that stands for them, as their slots on a page.
use Rattle.std.specs.Prelude.{ℕ, zero, suc, ◌+◌, ◌-◌, Bool, cond, List, Some, None, Option, ◌==◌, nat_lt}
use Rattle.tree.specs.Order.{compare_by, pick}
use Rattle.tree.specs.Entries.{Entry, Low, from, past, High, until, AboveLow, BelowHigh, tally}

-- the last child alone; or a child, the s-key at its right, and the children further right
pub data Children (K X : Type 0) : Type 0 where
  one : X → Children K X
  more : X → K → Children K X → Children K X

-- children in two groups, and the s-key between the groups
pub record Halves (K X : Type 0) : Type 0 where
  pub front : Children K X
  pub middle : K
  pub back : Children K X

module _ {K X : Type 0} where
  abbrev pub count : Children K X → ℕ
  count (one x) = 1
  count (more x sk cs) = suc (count cs)

  abbrev pub sum_of : (X → ℕ) → Children K X → ℕ
  sum_of w (one x) = w x
  sum_of w (more x sk cs) = w x + sum_of w cs

  -- child i, counted from 0; past the end, the last
  abbrev pub child_at : ℕ → Children K X → X
  child_at i (one x) = x
  child_at zero (more x sk cs) = x
  child_at (suc i) (more x sk cs) = child_at i cs

  -- two groups of children, with an s-key between
  abbrev pub join : Children K X → K → Children K X → Children K X
  join (one x) sk cs = more x sk cs
  join (more x tk new) sk cs = more x tk (join new sk cs)

  -- the children `new` in place of child i
  abbrev pub replace_at : ℕ → Children K X → Children K X → Children K X
  replace_at i new (one x) = new
  replace_at zero new (more x sk cs) = join new sk cs
  replace_at (suc i) new (more x sk cs) = more x sk (replace_at i new cs)

  abbrev pub behind : X → K → Option (Halves K X) → Option (Halves K X)
  behind x sk None = None
  behind x sk (Some c) = Some (record { front = more x sk c.front; middle = c.middle; back = c.back })

  -- the first i + 1 children, and the rest, if there is a rest
  abbrev pub divide_after : ℕ → Children K X → Option (Halves K X)
  divide_after i (one x) = None
  divide_after zero (more x sk cs) = Some (record { front = one x; middle = sk; back = cs })
  divide_after (suc i) (more x sk cs) = behind x sk (divide_after i cs)

-- the leftmost largest of the tallies t 0, t 1, .. t n
abbrev pub leftmost_largest : (ℕ → ℕ) → ℕ → ℕ
leftmost_largest t zero = 0
leftmost_largest t (suc n) = cond (nat_lt (t (leftmost_largest t n)) (t (suc n))) (suc n) (leftmost_largest t n)

module _ {K X : Type 0} (lt : K → K → Bool) where
  -- which child a key belongs to: below the first s-key the first, from an s-key on the next
  abbrev pub place_of : K → Children K X → ℕ
  place_of k (one x) = 0
  place_of k (more x sk cs) = pick (compare_by lt k sk) 0 (suc (place_of k cs)) (suc (place_of k cs))

  -- what the child says that a key belongs to
  abbrev pub ask_child : {B : Type 0} → (K → X → B) → K → Children K X → B
  ask_child ask k (one x) = ask k x
  ask_child ask k (more x sk cs) = pick (compare_by lt k sk) (ask k x) (ask_child ask k cs) (ask_child ask k cs)

  abbrev pub belongs : Children K X → ℕ → K → Bool
  belongs cs i k = place_of k cs == i

  -- The place of the heavy child: the child that most of the entries belong to, the leftmost on ties.
  abbrev pub heavy_place : {V : Type 0} → List (Entry K V) → Children K X → ℕ
  heavy_place es cs = leftmost_largest (λ i. tally (belongs cs i) es) (count cs - 1)

  -- The s-keys are in the range, its low end included, and ascend strictly.
  abbrev pub SKeysAscend : Low K → High K → Children K X → Type 0
  SKeysAscend lo hi (one x) = Unit {0}
  SKeysAscend lo hi (more x sk cs) = AboveLow lt lo sk × BelowHigh lt hi sk × SKeysAscend (past sk) hi cs

module _ {K X : Type 0} where
  -- something holds of each child in the range that the s-keys give it
  abbrev pub EachIn : (Low K → High K → X → Type 0) → Low K → High K → Children K X → Type 0
  EachIn P lo hi (one x) = P lo hi x
  EachIn P lo hi (more x sk cs) = P lo (until sk) x × EachIn P (from sk) hi cs
