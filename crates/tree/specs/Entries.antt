-- The entries of a node: a list of keys in ascending order, each with a value or a tombstone.
use Rattle.std.specs.Prelude.{◌≡◌, ℕ, zero, suc, Bool, true, false, cond, List, [], ◌∷◌, is_some, Option}
use Rattle.tree.specs.Order.{Below, compare_by, pick}

-- `Some v` is a live entry, `None` a tombstone: the key is absent, whatever older entries below say.
pub record Entry (K V : Type 0) : Type 0 where
  pub key : K
  pub value : Option V

-- The ends of a range of keys: no low end, from a key on, or above a key; no high end, or below a key.
pub data Low (K : Type 0) : Type 0 where
  least : Low K
  from : K → Low K
  past : K → Low K

pub data High (K : Type 0) : Type 0 where
  most : High K
  until : K → High K

module _ {K : Type 0} (lt : K → K → Bool) where
  abbrev pub AboveLow : Low K → K → Type 0
  AboveLow least k = Unit {0}
  AboveLow (from a) k = Below lt k a → ⊥
  AboveLow (past a) k = Below lt a k

  abbrev pub BelowHigh : High K → K → Type 0
  BelowHigh most k = Unit {0}
  BelowHigh (until b) k = Below lt k b

module _ {K V : Type 0} (lt : K → K → Bool) where
  -- the keys ascend strictly, and all are in the range
  abbrev pub Ascending : Low K → High K → List (Entry K V) → Type 0
  Ascending lo hi [] = Unit {0}
  Ascending lo hi (e ∷ es) =
      AboveLow lt lo e.key × BelowHigh lt hi e.key × Ascending (past e.key) hi es

  -- What the entries say of a key: an entry with that key decides; without one it is `older`, what older entries say.
  abbrev pub read : K → List (Entry K V) → Option V → Option V
  read k [] older = older
  read k (e ∷ es) older = pick (compare_by lt k e.key) (read k es older) e.value (read k es older)

  abbrev pub has : K → List (Entry K V) → Bool
  has k [] = false
  has k (e ∷ es) = pick (compare_by lt k e.key) (has k es) true (has k es)

  -- an entry takes its place in the order, in place of any entry with its key
  abbrev pub insert : Entry K V → List (Entry K V) → List (Entry K V)
  insert e [] = e ∷ []
  insert e (x ∷ xs) = pick (compare_by lt e.key x.key) (e ∷ x ∷ xs) (e ∷ xs) (x ∷ insert e xs)

  -- The entries of both lists in order. Of two entries with one key the first list's, the mover's, wins.
  abbrev pub merge : List (Entry K V) → List (Entry K V) → List (Entry K V)
  merge [] ys = ys
  merge (x ∷ xs) ys = insert x (merge xs ys)

  -- The merge of two lists entry by entry: the next entry comes from whichever list has the lower key; on equal keys
  -- the mover's is taken and the other dropped. `rest` merges what follows x.
  abbrev pub merge_next : Entry K V → (List (Entry K V) → List (Entry K V)) → List (Entry K V) → List (Entry K V)
  merge_next x rest [] = x ∷ rest []
  merge_next x rest (y ∷ ys) =
      pick (compare_by lt x.key y.key) (x ∷ rest (y ∷ ys)) (x ∷ rest ys) (y ∷ merge_next x rest ys)

  abbrev pub merge_lists : List (Entry K V) → List (Entry K V) → List (Entry K V)
  merge_lists [] ys = ys
  merge_lists (x ∷ xs) ys = merge_next x (merge_lists xs) ys

  -- entries in order divide at a key: those below it, and those from it on
  abbrev pub entries_below : K → List (Entry K V) → List (Entry K V)
  entries_below k [] = []
  entries_below k (e ∷ es) = pick (compare_by lt e.key k) (e ∷ entries_below k es) [] []

  abbrev pub entries_from : K → List (Entry K V) → List (Entry K V)
  entries_from k [] = []
  entries_from k (e ∷ es) = pick (compare_by lt e.key k) (entries_from k es) (e ∷ es) (e ∷ es)

module _ {K V : Type 0} where
  -- the first n entries whose keys pass a test, and the entries that these leave
  abbrev pub first_of : (K → Bool) → ℕ → List (Entry K V) → List (Entry K V)
  first_of p zero es = []
  first_of p (suc n) [] = []
  first_of p (suc n) (e ∷ es) = cond (p e.key) (e ∷ first_of p n es) (first_of p (suc n) es)

  abbrev pub rest_of : (K → Bool) → ℕ → List (Entry K V) → List (Entry K V)
  rest_of p zero es = es
  rest_of p (suc n) [] = []
  rest_of p (suc n) (e ∷ es) = cond (p e.key) (rest_of p n es) (e ∷ rest_of p (suc n) es)

  -- how many entries have keys that pass
  abbrev pub tally : (K → Bool) → List (Entry K V) → ℕ
  tally p [] = 0
  tally p (e ∷ es) = cond (p e.key) (suc (tally p es)) (tally p es)

  abbrev pub without_tombstones : List (Entry K V) → List (Entry K V)
  without_tombstones [] = []
  without_tombstones (e ∷ es) = cond (is_some e.value) (e ∷ without_tombstones es) (without_tombstones es)

  abbrev pub NoTombstones : List (Entry K V) → Type 0
  NoTombstones [] = Unit {0}
  NoTombstones (e ∷ es) = (is_some e.value ≡ true) × NoTombstones es
