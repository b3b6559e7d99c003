-- The laws of the model. Each is asked for by the contract of a function of this crate, over byte strings as keys and
-- values, every order of keys and every legal shape.
use Rattle.std.specs.Prelude.{◌≡◌, ℕ, suc, ◌+◌, ◌-◌, ◌*◌, ◌^◌, ◌<◌, ◌≤◌, Bool, true, false, ◌||◌, List, ◌∷◌, map, length, Option, ◌≢◌}
use Rattle.std.specs.List.{AllByRecursion}
use Rattle.shape.specs.Shape.{Shape, batch_of, least_children_of, changes_per_leaf_of, legal}
use Rattle.tree.specs.Order.{Ordered}
use Rattle.tree.specs.Entries.{Entry, Low, least, High, most, Ascending, read, has, merge, merge_lists, tally}
use Rattle.tree.specs.Map.{KeysAscend, look_up, put_or_remove, map_after}
use Rattle.tree.specs.Children.{count, belongs, heavy_place}
use Rattle.tree.specs.Tree.{Tree, Index, levels, find, find_in}
use Rattle.tree.specs.Sound.{SlotsOnce, SoundNode, SoundRoot, Sound}
use Rattle.tree.specs.Path.{PathNode, path, IsPath}
use Rattle.tree.specs.Relief.{move_batch, receive}
use Rattle.tree.specs.Change.{rooted_at, change, needs_slots, out_of_slots}
use Rattle.tree.specs.History.{weight, leaves_in, leaf_potential, after, asked}
use Rattle.tree.specs.Room.{HasRoom}

abbrev pub Everywhere : ((V : Type 0) → (List ℕ → List ℕ → Bool) → Shape → Type 0) → Type 0
Everywhere Law =
    (lt : List ℕ → List ℕ → Bool) → Ordered lt → (width : ℕ) (shape : Shape) → legal width shape ≡ true →
    Law (List ℕ) lt shape

-- One change, of any sound index.
module _ {K : Type 0} (V : Type 0) (lt : K → K → Bool) (shape : Shape) where
  -- a change that is not refused keeps the index sound, within the slots there are
  abbrev pub StaysSound : Type 0
  StaysSound = (slots : ℕ) (e : Entry K V) (i : Index K V) → slots ≤ 1024 → i.used ≤ slots →
      Sound lt shape i → out_of_slots lt shape slots e i ≡ false →
      Sound lt shape (change lt shape e i).index × ((change lt shape e i).index.used ≤ slots)

  -- the changed key then has the entry's value, or none after a remove; every other key keeps what it had
  abbrev pub ChangesItsKey : Type 0
  ChangesItsKey = (e : Entry K V) (i : Index K V) (k : K) → Sound lt shape i →
      (k ≡ e.key → find_in lt (change lt shape e i).index k ≡ e.value)
      × ((k ≢ e.key) → find_in lt (change lt shape e i).index k ≡ find_in lt i k)

  -- an index that means an ordered map means, after a change, that map after the put or the remove
  abbrev pub ChangesTheMap : Type 0
  ChangesTheMap = (e : Entry K V) (i : Index K V) (ps : List (K × V)) → Sound lt shape i →
      KeysAscend lt least ps → ((k : K) → find_in lt i k ≡ look_up lt k ps) →
      let qs = put_or_remove lt e.key e.value ps in
      KeysAscend lt least qs × ((k : K) → find_in lt (change lt shape e i).index k ≡ look_up lt k qs)

  -- m is at most levels − 1
  abbrev pub FewBatches : Type 0
  FewBatches = (e : Entry K V) (i : Index K V) → (change lt shape e i).moved ≤ levels i - 1

  -- slots in use grow by at most levels + 1, levels never fall, and n grows by one
  abbrev pub FewSlots : Type 0
  FewSlots = (e : Entry K V) (i : Index K V) →
      let j = (change lt shape e i).index in
      (i.used ≤ j.used) × (j.used ≤ i.used + (levels i + 1)) × (levels i ≤ levels j)
      × (j.changes ≡ suc i.changes)

  -- on the path of a full inner root every node has a batch to move, and nothing overflows on the way
  abbrev pub NothingOverflows : Type 0
  NothingOverflows = (h : ℕ) (t : Tree K V (suc h)) →
      SoundNode lt shape shape.capacity 2 (suc h) least most t → length t.entries ≡ shape.capacity →
      AllByRecursion (HasRoom lt shape) (path lt shape h t)

  -- m batches of q entries, each moved down one level, lower the weight by as much; the new entry adds its height
  abbrev pub WeightBoundsBatches : Type 0
  WeightBoundsBatches = (e : Entry K V) (i : Index K V) → Sound lt shape i →
      let c = change lt shape e i in
      c.moved * batch_of shape + weight c.index ≤ weight i + (levels c.index - 1)

  abbrev pub PotentialGrowsByOne : Type 0
  PotentialGrowsByOne = (e : Entry K V) (i : Index K V) → Sound lt shape i →
      leaf_potential shape (change lt shape e i).index ≤ leaf_potential shape i + 1

-- Any list of changes of the empty index.
module _ {K : Type 0} (V : Type 0) (lt : K → K → Bool) (shape : Shape) where
  abbrev pub AlwaysSound : Type 0
  AlwaysSound = (es : List (Entry K V)) →
      let i = (after lt shape es).index in
      SoundRoot lt shape i × SlotsOnce i × (i.used ≤ 1024 → Sound lt shape i)

  -- in 1,024 slots or fewer every list of changes asked for leaves a sound index, so there are never eleven levels
  abbrev pub AlwaysWithinSlots : Type 0
  AlwaysWithinSlots = (slots : ℕ) (es : List (Entry K V)) → 1 ≤ slots → slots ≤ 1024 →
      Sound lt shape (asked lt shape slots es) × ((asked lt shape slots es).used ≤ slots)

  -- the index means the plain ordered map after the same puts and removes
  abbrev pub AlwaysTheMap : Type 0
  AlwaysTheMap = (es : List (Entry K V)) →
      KeysAscend lt least (map_after lt es)
      × ((k : K) → find_in lt (after lt shape es).index k ≡ look_up lt k (map_after lt es))

  -- M·q ≤ n·(levels − 1), and n is the number of changes
  abbrev pub BatchesInAll : Type 0
  BatchesInAll = (es : List (Entry K V)) →
      let r = after lt shape es in
      (r.index.changes ≡ length es) × (r.moved * batch_of shape ≤ r.index.changes * (levels r.index - 1))

  abbrev pub LeavesInAll : Type 0
  LeavesInAll = (es : List (Entry K V)) →
      let i = (after lt shape es).index in
      (leaves_in i - 1) * changes_per_leaf_of shape ≤ i.changes

-- Levels.
module _ {K : Type 0} (V : Type 0) (lt : K → K → Bool) (shape : Shape) where
  -- two levels and more have at least 2·u^(levels − 2) leaf nodes
  abbrev pub ManyLeaves : Type 0
  ManyLeaves = (i : Index K V) (h : ℕ) → SoundRoot lt shape i → levels i ≡ h + 2 →
      2 * least_children_of shape ^ h ≤ leaves_in i

  abbrev pub TenLevels : Type 0
  TenLevels = (i : Index K V) → SoundRoot lt shape i → SlotsOnce i → i.used ≤ 1024 → levels i ≤ 10

  -- at ten levels the slots are used up, so that a change that may take slots is refused
  abbrev pub TenLevelsRefuse : Type 0
  TenLevelsRefuse = (slots : ℕ) (e : Entry K V) (i : Index K V) → slots ≤ 1024 → Sound lt shape i →
      levels i ≡ 10 → needs_slots lt shape i.height e i.root ≡ true → out_of_slots lt shape slots e i ≡ true

-- Steps.
module _ {K : Type 0} (V : Type 0) (lt : K → K → Bool) (shape : Shape) where
  -- a merge is the union in order, in which the mover wins; and the merge entry by entry is that
  abbrev pub MergeIsUnion : Type 0
  MergeIsUnion = (lo : Low K) (hi : High K) (xs ys : List (Entry K V)) →
      Ascending lt lo hi xs → Ascending lt lo hi ys →
      Ascending lt lo hi (merge lt xs ys)
      × ((k : K) → has lt k (merge lt xs ys) ≡ (has lt k xs || has lt k ys))
      × ((k : K) (older : Option V) → read lt k (merge lt xs ys) older ≡ read lt k xs (read lt k ys older))
      × (merge_lists lt xs ys ≡ merge lt xs ys)

  -- no child has a larger tally than the heavy child, and none at its left has as large a one
  abbrev pub HeavyIsLeftmost : Type 0
  HeavyIsLeftmost = (h : ℕ) (t : Tree K V (suc h)) (i : ℕ) → i < count t.children →
      let place = heavy_place lt t.entries t.children in
      let share : ℕ → ℕ = λ j. tally (belongs lt t.children j) t.entries in
      (place < count t.children) × (share i ≤ share place) × (i < place → share i < share place)

  -- one list of nodes follows the rule of a path from a node, and that is the path
  abbrev pub PathIsPinned : Type 0
  PathIsPinned = (h : ℕ) (t : Tree K V (suc h)) →
      IsPath lt shape (path lt shape h t)
      × ((ns : List (PathNode K V)) → IsPath lt shape (record { below = h; node = t } ∷ ns) →
      record { below = h; node = t } ∷ ns ≡ path lt shape h t)

  -- relief of a full inner root leaves a sound root and the same map
  abbrev pub ReliefKeepsTheMap : Type 0
  ReliefKeepsTheMap = (h used changes : ℕ) (t : Tree K V (suc h)) →
      SoundNode lt shape shape.capacity 2 (suc h) least most t → length t.entries ≡ shape.capacity →
      let r = move_batch lt shape (receive lt shape h) used t in
      let i = rooted_at (suc h) r.next changes r.parts in
      SoundRoot lt shape i × ((k : K) → find_in lt i k ≡ find lt (suc h) k t)

  -- in relief the nodes that move a batch are those of the path
  abbrev pub ReliefFollowsPath : Type 0
  ReliefFollowsPath = (h next : ℕ) (t : Tree K V (suc h)) →
      (move_batch lt shape (receive lt shape h) next t).movers ≡ map (λ n. n.node.slot) (path lt shape h t)
