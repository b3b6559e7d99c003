-- An index over a list of changes, and the two sums that its limits rest on.
use Rattle.std.specs.Prelude.{ℕ, ◌+◌, ◌-◌, Bool, cond, List, [], ◌∷◌}
use Rattle.shape.specs.Shape.{Shape, ceiling, batch_of, changes_per_leaf_of}
use Rattle.tree.specs.Entries.{Entry}
use Rattle.tree.specs.Tree.{Index, leaves, weigh}
use Rattle.tree.specs.Change.{Changed, change, out_of_slots}

module _ {K V : Type 0} where
  -- one leaf node in slot 0, with no entries
  abbrev pub empty : Index K V
  empty = record { height = 0; root = record { slot = 0; entries = []; children = tt }; used = 1; changes = 0 }

  -- the sum over all entries of the height of their node: how many moves by one level are still before them
  abbrev pub weight : Index K V → ℕ
  weight i = weigh (λ h. h) (λ n. 0) i.height i.root

  abbrev pub leaves_in : Index K V → ℕ
  leaves_in i = leaves i.height i.root

-- what a leaf node counts in the leaf potential: g, and the entries it has over half of σ + q, rounded up
abbrev pub potential_of_leaf : Shape → ℕ → ℕ
potential_of_leaf shape n = changes_per_leaf_of shape + (n - ceiling (shape.capacity + batch_of shape) 2)

module _ {K V : Type 0} (shape : Shape) where
  -- The leaf potential: what each leaf node counts, and one for each entry of an inner node.
  abbrev pub leaf_potential : Index K V → ℕ
  leaf_potential i = weigh (λ h. 1) (potential_of_leaf shape) i.height i.root

module _ {K V : Type 0} (lt : K → K → Bool) (shape : Shape) where
  -- The empty index after a list of changes, the latest first; `moved` is the sum of what each change moved.
  abbrev pub after : List (Entry K V) → Changed K V
  after [] = record { moved = 0; index = empty }
  after (e ∷ es) =
      let before = after es in
      let c = change lt shape e before.index in
      record { moved = before.moved + c.moved; index = c.index }

  -- The empty index after a list of changes that were asked for, the latest first, where there are so many slots: a
  -- change that is out of slots is refused and leaves the index as it is.
  abbrev pub asked : ℕ → List (Entry K V) → Index K V
  asked slots [] = empty
  asked slots (e ∷ es) =
      let i = asked slots es in
      cond (out_of_slots lt shape slots e i) i (change lt shape e i).index
