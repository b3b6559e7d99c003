-- A node page as a search reads it.
use Rattle.std.specs.Prelude.{◌≡◌, ℕ, zero, suc, ◌<◌, ◌≤◌, Bool, cond, ◌&&◌, List, take, drop, Some, None, Ok, Err, Option, Result, ◌==◌, nat_le}
use Rattle.records.specs.Kind.{Kind}
use Rattle.shape.specs.Shape.{Shape}
use Rattle.tree.specs.Tree.{find}
use Rattle.tree.specs.Keys.{key_below}
use Rattle.layout.specs.Nodes.{child_count_on, entry_count_on}
use Rattle.layout.specs.Holds.{ByteTree}
use Rattle.layout.specs.Descent.{Branching}
use Rattle.layout.specs.declared.faults.PageFault.{PageFault}
use Rattle.layout.specs.declared.parts.NodeParts.{NodeParts}
use Rattle.search.specs.declared.descent.Step.{Step}
use Rattle.search.specs.declared.descent.Step.TheVariants.{Found, Absent, Child}

-- a leaf node, of height 0, has no children, another at least two and at most f
abbrev pub may_have : (h children f : ℕ) → Bool
may_have h children f = cond (h == 0) (children == 0) (nat_le 2 children && nat_le children f)

-- a page taken apart
pub record NodeOf (page : List ℕ) (node : NodeParts) : Type 0 where
  pub children : node.children ≡ child_count_on page
  pub entries : node.entries ≡ entry_count_on page
  pub rest : node.rest.now ≡ drop 3 page

-- The child that a search goes on to is in a used slot, and the node is no leaf node.
abbrev pub GoesOn : (used h : ℕ) → Step → Type 0
GoesOn used h (Found value) = Unit {0}
GoesOn used h Absent = Unit {0}
GoesOn used h (Child slot) = (1 ≤ h) × (slot < used)

-- a step to the child in a slot that a key belongs to, or a slot that is not used
abbrev pub SteppedDown : (used : ℕ) → (ℕ → Type 0) → Result Step PageFault → Type 0
SteppedDown used Belongs (Ok (Found value)) = ⊥
SteppedDown used Belongs (Ok Absent) = ⊥
SteppedDown used Belongs (Ok (Child slot)) = (slot < used) × Belongs slot
SteppedDown used Belongs (Err fault) = (slot : ℕ) × (used ≤ slot) × Belongs slot

module _ (kind : Kind) (shape : Shape) (page : ℕ → List ℕ) (used : ℕ) (key : List ℕ) where
  -- a node stands in a slot on its pages and says this
  pub record NodeSays (h slot : ℕ) (said : Option (List ℕ)) : Type 0 where
    pub node : ByteTree h
    pub at : node.slot ≡ slot
    pub branching : Branching kind shape page used h node
    pub same : said ≡ find (key_below kind) h key node

  -- one step of the search at a node that stands on its pages
  abbrev pub StepAt : (h : ℕ) → ByteTree h → Result Step PageFault → Type 0
  StepAt h t (Ok (Found value)) = find (key_below kind) h key t ≡ Some (take kind.value_width value)
  StepAt h t (Ok Absent) = find (key_below kind) h key t ≡ None
  StepAt zero t (Ok (Child slot)) = ⊥
  StepAt (suc h) t (Ok (Child slot)) = NodeSays h slot (find (key_below kind) (suc h) key t)
  StepAt h t (Err fault) = ⊥
