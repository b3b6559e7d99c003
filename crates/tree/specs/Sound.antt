-- What every tree of an index keeps.
use Rattle.std.specs.Prelude.{◌≡◌, ℕ, zero, suc, ◌≤◌, Bool, cond, length, ◌==◌, nat_lt}
use Rattle.shape.specs.Shape.{Shape, least_children_of}
use Rattle.tree.specs.Entries.{Low, least, High, most, Ascending, NoTombstones}
use Rattle.tree.specs.Children.{count, SKeysAscend, EachIn}
use Rattle.tree.specs.Tree.{Tree, Index, levels, slot_sum}

module _ {K V : Type 0} where
  -- how many nodes stand in a slot
  abbrev pub nodes_in : ℕ → (h : ℕ) → Tree K V h → ℕ
  nodes_in slot = slot_sum (λ x. cond (x == slot) 1 0)

  -- Each slot below `used` is exactly one node's, and no other slot is any node's.
  abbrev pub SlotsOnce : Index K V → Type 0
  SlotsOnce i = (slot : ℕ) → nodes_in slot i.height i.root ≡ cond (nat_lt slot i.used) 1 0

module _ {K V : Type 0} (lt : K → K → Bool) (shape : Shape) where
  -- A sound node in a range of keys: at most `room` entries, ascending and in the range; a leaf node has no tombstone;
  -- an inner node has at least `fewest` children and at most f, and each node below is sound in its own range.
  abbrev pub SoundNode : (room fewest : ℕ) (h : ℕ) → Low K → High K → Tree K V h → Type 0
  SoundNode room fewest zero lo hi t =
      Ascending lt lo hi t.entries × (length t.entries ≤ room) × NoTombstones t.entries
  SoundNode room fewest (suc h) lo hi t =
      Ascending lt lo hi t.entries
      × (length t.entries ≤ room)
      × ((fewest ≤ count t.children) × (count t.children ≤ shape.fanout))
      × SKeysAscend lt lo hi t.children
      × EachIn (SoundNode shape.capacity (least_children_of shape) h) lo hi t.children

  -- The root, whose range is all keys and which may have as few as two children.
  abbrev pub SoundRoot : Index K V → Type 0
  SoundRoot i = SoundNode shape.capacity 2 i.height least most i.root

  pub record Sound (i : Index K V) : Type 0 where
    pub root : SoundRoot i
    pub slots : SlotsOnce i
    pub depth : levels i ≤ 10
