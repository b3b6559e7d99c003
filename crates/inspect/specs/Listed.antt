-- The slots listed so far in a walk, as the code keeps them: a flag for each slot, and their number, which stops
-- at 65,535.
use Rattle.std.specs.Prelude.{◌≡◌, ℕ, ◌<◌, ◌≤◌, min, false, List, length, nat_lt, slice_index_or}
use Rattle.shape.specs.Shape.{Shape}
use Rattle.tree.specs.Children.{one, more}
use Rattle.layout.specs.Nodes.{SlotChildren, times_in, child_count_on, entry_count_on, children_on}
use Rattle.inspect.specs.declared.listed.Listed.{Listed}

pub record Lists (l : Listed) (listed : List ℕ) : Type 0 where
  pub flags : (slot : ℕ) → slot < 1024 → slice_index_or l.flags slot false ≡ nat_lt 0 (times_in slot listed)
  pub count : l.count ≡ min (length listed) 65535

-- every child's slot is a used one
abbrev pub SlotsBelow : ℕ → SlotChildren → Type 0
SlotsBelow used (one x) = x < used
SlotsBelow used (more x sk cs) = (x < used) × SlotsBelow used cs

-- what is known of an inner node's page once it passed
pub record GoodInner (w : ℕ) (shape : Shape) (used fewest : ℕ) (page : List ℕ) : Type 0 where
  pub least : fewest ≤ child_count_on page
  pub most : child_count_on page ≤ shape.fanout
  pub few : entry_count_on page ≤ shape.capacity
  pub slots : SlotsBelow used (children_on w page)
