-- The path of a relief: which nodes move a batch of entries down, which entries these are, and to which child.
use Rattle.std.specs.Prelude.{◌≡◌, ℕ, zero, suc, ◌-◌, ◌<◌, ◌≤◌, Bool, cond, List, [], ◌∷◌, length, Some, None, Option, nat_lt}
use Rattle.shape.specs.Shape.{Shape, batch_of}
use Rattle.tree.specs.Entries.{Entry, first_of, rest_of}
use Rattle.tree.specs.Children.{Children, child_at, belongs, heavy_place}
use Rattle.tree.specs.Tree.{Node, Tree}

-- An inner node, with the height of its children.
pub record PathNode (K V : Type 0) : Type 0 where
  pub below : ℕ
  pub node : Tree K V (suc below)

module _ {K V : Type 0} (lt : K → K → Bool) where
  abbrev pub heavy_child : {C : Type 0} → Node K V (Children K (Node K V C)) → Node K V C
  heavy_child t = child_at (heavy_place lt t.entries t.children) t.children

  -- whether a key belongs to the heavy child
  abbrev pub for_heavy : {C : Type 0} → Node K V (Children K (Node K V C)) → K → Bool
  for_heavy t = belongs lt t.children (heavy_place lt t.entries t.children)

  -- the heavy child of a path node, unless it is a leaf node
  abbrev pub inner_heavy : (h : ℕ) → Tree K V (suc h) → Option (PathNode K V)
  inner_heavy zero t = None
  inner_heavy (suc h) t = Some (record { below = h; node = heavy_child t })

module _ {K V : Type 0} (lt : K → K → Bool) (shape : Shape) where
  -- the batch: of the entries for the heavy child the lowest q; and the entries that stay
  abbrev pub batch : {C : Type 0} → Node K V (Children K (Node K V C)) → List (Entry K V)
  batch t = first_of (for_heavy lt t) (batch_of shape) t.entries

  abbrev pub staying : {C : Type 0} → Node K V (Children K (Node K V C)) → List (Entry K V)
  staying t = rest_of (for_heavy lt t) (batch_of shape) t.entries

  -- Too full to take a batch: such an inner heavy child moves a batch of its own first.
  abbrev pub too_full : {C : Type 0} → Node K V C → Bool
  too_full c = nat_lt (shape.capacity - batch_of shape) (length c.entries)

  -- the path nodes below a node that moves a batch: its heavy child and on down, while these are inner and too full
  abbrev pub path_below : (h : ℕ) → Tree K V (suc h) → List (PathNode K V)
  path_below zero t = []
  path_below (suc h) t =
      let c = heavy_child lt t in
      cond (too_full c) (record { below = h; node = c } ∷ path_below h c) []

  -- The path from a node that moves a batch. Its length is m, the number of batches.
  abbrev pub path : (h : ℕ) → Tree K V (suc h) → List (PathNode K V)
  path h t = record { below = h; node = t } ∷ path_below h t

  abbrev pub EndsBefore : Option (PathNode K V) → Type 0
  EndsBefore None = Unit {0}
  EndsBefore (Some c) = length c.node.entries ≤ shape.capacity - batch_of shape

  -- The rule of a path: each node after the first is the heavy child of the one before and has more than σ − q entries,
  -- and the heavy child of the last is a leaf node or has at most σ − q.
  abbrev pub IsPath : List (PathNode K V) → Type 0
  IsPath [] = ⊥
  IsPath (a ∷ []) = EndsBefore (inner_heavy lt a.below a.node)
  IsPath (a ∷ b ∷ ns) =
      (inner_heavy lt a.below a.node ≡ Some b)
      × (shape.capacity - batch_of shape < length b.node.entries)
      × IsPath (b ∷ ns)
