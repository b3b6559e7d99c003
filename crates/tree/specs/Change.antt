-- A change of the index: a put brings a live entry, a remove a tombstone.
use Rattle.std.specs.Prelude.{ℕ, zero, suc, ◌+◌, ◌-◌, Bool, false, cond, ◌&&◌, List, [], length, ◌==◌, nat_lt}
use Rattle.shape.specs.Shape.{Shape}
use Rattle.tree.specs.Entries.{Entry, has, insert, without_tombstones}
use Rattle.tree.specs.Children.{Children, one, more}
use Rattle.tree.specs.Tree.{Tree, Index, levels}
use Rattle.tree.specs.Path.{PathNode, path}
use Rattle.tree.specs.Relief.{untouched, split_leaf, move_batch, receive}

-- What comes of a change: m, the number of nodes on the path, which is the number of batches moved; and the index.
pub record Changed (K V : Type 0) : Type 0 where
  pub moved : ℕ
  pub index : Index K V

module _ {K V : Type 0} where
  -- a split root gets a new root above it, in the next slot, with no entries
  abbrev pub rooted_at : (h next changes : ℕ) → Children K (Tree K V h) → Index K V
  rooted_at h next changes (one t) = record { height = h; root = t; used = next; changes = changes }
  rooted_at h next changes (more t sk ts) =
      let root : Tree K V (suc h) = record { slot = next; entries = []; children = more t sk ts } in
      record { height = suc h; root = root; used = suc next; changes = changes }

module _ {K V : Type 0} (lt : K → K → Bool) where
  -- what a leaf root would hold: it drops a tombstone together with the entry of its key
  abbrev pub leaf_taking : Entry K V → List (Entry K V) → List (Entry K V)
  leaf_taking e es = without_tombstones (insert lt e es)

  -- the root takes the entry, in place of any entry with its key
  abbrev pub enter_root : Entry K V → Index K V → Index K V
  enter_root e i =
      let t = i.root in
      let root : Tree K V i.height =
      record { slot = t.slot; entries = insert lt e t.entries; children = t.children } in
      record { height = i.height; root = root; used = i.used; changes = i.changes }

module _ {K V : Type 0} (lt : K → K → Bool) (shape : Shape) where
  -- an inner root needs relief when it holds σ entries, none with this key
  abbrev pub needs_relief : K → List (Entry K V) → Bool
  needs_relief k es = cond (has lt k es) false (length es == shape.capacity)

  -- a leaf root is split with the new entry among its entries, and there is no path
  unfoldable pub change_leaf : Entry K V → (used changes : ℕ) → Tree K V 0 → Changed K V
  change_leaf e used changes t =
      let r = split_leaf lt shape t.slot used (leaf_taking lt e t.entries) in
      record { moved = 0; index = rooted_at 0 r.next (suc changes) r.parts }

  -- the path of a change starts at an inner root that needs relief
  abbrev pub change_path : (h : ℕ) → Entry K V → Tree K V (suc h) → List (PathNode K V)
  change_path h e t = cond (needs_relief e.key t.entries) (path lt shape h t) []

  unfoldable pub change_inner : (h : ℕ) → Entry K V → (used changes : ℕ) → Tree K V (suc h) → Changed K V
  change_inner h e used changes t =
      let relief = move_batch lt shape (receive lt shape h) used t in
      let r = cond (needs_relief e.key t.entries) relief (untouched used t) in
      let index = enter_root lt e (rooted_at (suc h) r.next (suc changes) r.parts) in
      record { moved = length (change_path h e t); index = index }

  abbrev pub change_at : (h : ℕ) → Entry K V → (used changes : ℕ) → Tree K V h → Changed K V
  change_at zero e used changes t = change_leaf e used changes t
  change_at (suc h) e used changes t = change_inner h e used changes t

  -- an accepted change; the next unused slot is the number of slots in use
  abbrev pub change : Entry K V → Index K V → Changed K V
  change e i = change_at i.height e i.used i.changes i.root

  -- whether a change may take new slots: by relief, or by the split of a leaf root
  abbrev pub needs_slots : (h : ℕ) → Entry K V → Tree K V h → Bool
  needs_slots zero e t = nat_lt shape.capacity (length (leaf_taking lt e t.entries))
  needs_slots (suc h) e t = needs_relief e.key t.entries

  -- Out of slots, which is refusal 11: new slots may be needed and fewer than levels + 1 are unused.
  abbrev pub out_of_slots : (slots : ℕ) → Entry K V → Index K V → Bool
  out_of_slots slots e i = needs_slots i.height e i.root && nat_lt (slots - i.used) (levels i + 1)
