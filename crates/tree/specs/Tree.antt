-- The tree: nodes with a slot and entries of their own, all leaf nodes at one depth; and the map that it means.
use Rattle.std.specs.Prelude.{ℕ, zero, suc, ◌+◌, ◌*◌, Bool, List, length, None, Option}
use Rattle.tree.specs.Entries.{Entry, read}
use Rattle.tree.specs.Children.{Children, sum_of, ask_child}

-- A node owns one slot of the store. Its entries are its d-tree.
pub record Node (K V C : Type 0) : Type 0 where
  pub slot : ℕ
  pub entries : List (Entry K V)
  pub children : C

-- what stands below a node of that height: nothing below a leaf node, whose height is 0
abbrev pub ChildrenAt : (K V : Type 0) → ℕ → Type 0
ChildrenAt K V zero = Unit {0}
ChildrenAt K V (suc h) = Children K (Node K V (ChildrenAt K V h))

abbrev pub Tree : (K V : Type 0) → ℕ → Type 0
Tree K V h = Node K V (ChildrenAt K V h)

-- An index: the tree, how many slots are in use, and how many changes were accepted.
pub record Index (K V : Type 0) : Type 0 where
  pub height : ℕ
  pub root : Tree K V height
  pub used : ℕ
  pub changes : ℕ

module _ {K V : Type 0} where
  -- the nodes from the root to a leaf node, both counted
  abbrev pub levels : Index K V → ℕ
  levels i = suc i.height

module _ {K V : Type 0} (lt : K → K → Bool) where
  -- The map, read from the root down: the first entry met for a key decides, and a tombstone means absent.
  abbrev pub find : (h : ℕ) → K → Tree K V h → Option V
  find zero k t = read lt k t.entries None
  find (suc h) k t = read lt k t.entries (ask_child lt (find h) k t.children)

  abbrev pub find_in : Index K V → K → Option V
  find_in i k = find i.height k i.root

module _ {K V : Type 0} where
  -- the sum over all nodes of a number that depends on the node's slot
  abbrev pub slot_sum : (ℕ → ℕ) → (h : ℕ) → Tree K V h → ℕ
  slot_sum w zero t = w t.slot
  slot_sum w (suc h) t = w t.slot + sum_of (slot_sum w h) t.children

  abbrev pub leaves : (h : ℕ) → Tree K V h → ℕ
  leaves zero t = 1
  leaves (suc h) t = sum_of (leaves h) t.children

  -- A sum over the tree: each entry of an inner node counts by the node's height, each leaf node by its entries.
  abbrev pub weigh : (ℕ → ℕ) → (ℕ → ℕ) → (h : ℕ) → Tree K V h → ℕ
  weigh per_entry per_leaf zero t = per_leaf (length t.entries)
  weigh per_entry per_leaf (suc h) t =
      per_entry (suc h) * length t.entries + sum_of (weigh per_entry per_leaf h) t.children
