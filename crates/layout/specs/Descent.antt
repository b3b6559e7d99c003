-- The way down from the root: the s-keys on a node page tell the one child whose entries, and those below it, say what
-- a key means where the node's own entries say nothing.
use Rattle.std.specs.Prelude.{◌≡◌, ℕ, suc, ◌≤◌, List}
use Rattle.records.specs.Kind.{Kind}
use Rattle.stores.specs.Store.{StoreState, page_at}
use Rattle.shape.specs.Shape.{Shape}
use Rattle.tree.specs.Entries.{Low, High, read}
use Rattle.tree.specs.Children.{child_at, place_of}
use Rattle.tree.specs.Tree.{find}
use Rattle.tree.specs.Sound.{nodes_in, SoundNode}
use Rattle.tree.specs.Keys.{key_below}
use Rattle.layout.specs.Slots.{node_page_of}
use Rattle.layout.specs.Holds.{ByteTree, Stored, NodesStand, ValidTree, Holds}
use Rattle.layout.specs.Nodes.{SlotChildren, children_on}

module _ (kind : Kind) (shape : Shape) (page : ℕ → List ℕ) where
  -- the children as they are read from the node page of a slot, and the slot of the child that a key belongs to
  abbrev pub children_in : ℕ → SlotChildren
  children_in slot = children_on kind.key_width (page (node_page_of shape slot))

  abbrev pub slot_for : List ℕ → ℕ → ℕ
  slot_for key slot = child_at (place_of (key_below kind) key (children_in slot)) (children_in slot)

module _ (kind : Kind) (shape : Shape) (page : ℕ → List ℕ) (used : ℕ) where
  -- a node and all below it stand on the pages of used slots, sound in some range
  pub record Subtree (h : ℕ) (t : ByteTree h) : Type 0 where
    pub low : Low (List ℕ)
    pub high : High (List ℕ)
    pub fewest : ℕ
    pub stands : NodesStand kind shape page h t
    pub valid : ValidTree kind h t
    pub sound : SoundNode (key_below kind) shape shape.capacity fewest h low high t
    pub slots : (x : ℕ) → used ≤ x → nodes_in x h t ≡ 0

  -- such a node, of which at least two children are asked if it is no leaf node
  pub record Branching (h : ℕ) (t : ByteTree h) : Type 0 where
    pub subtree : Subtree h t
    pub two : 2 ≤ subtree.fewest

  -- what a node says of a key is what its entries say, and where they say nothing, what that child says
  pub record ChildFor (h : ℕ) (key : List ℕ) (t : ByteTree (suc h)) : Type 0 where
    pub child : ByteTree h
    pub slot : slot_for kind shape page key t.slot ≡ child.slot
    pub subtree : Subtree h child
    pub found :
        find (key_below kind) (suc h) key t
        ≡ read (key_below kind) key t.entries (find (key_below kind) h key child)

-- Where pages hold an index, the root and all below it stand so, and each inner node has such a child for every key.
abbrev pub SKeysTellTheChild : Kind → StoreState → Type 0
SKeysTellTheChild kind store =
    (s : Stored) → Holds kind store.pages s →
    let page = page_at store.pages in
    let used = s.index.used in
    Subtree kind s.shape page used s.index.height s.index.root
    × ((h : ℕ) (key : List ℕ) (t : ByteTree (suc h)) → Subtree kind s.shape page used (suc h) t →
    ChildFor kind s.shape page used h key t)
