-- Worked examples, all small enough to compute: tickets as records, whose keys differ in the serial alone.
use Rattle.std.specs.Prelude.{◌≡◌, ℕ, ◌*◌, Bool, true, false, List, [], ◌∷◌, ◌++◌, map, reverse, Some, None}
use Rattle.records.specs.Kind.{record_width}
use Rattle.records.specs.Ticket.{ticket_kind}
use Rattle.shape.specs.Shape.{Shape, batch_of, leaf_pages_of, slot_pages_of, least_children_of, changes_per_leaf_of, slots_of}
use Rattle.shape.specs.Shape.{legal}
use Rattle.tree.specs.Entries.{Entry}
use Rattle.tree.specs.Children.{Children, one, more}
use Rattle.tree.specs.Tree.{Tree, Index}
use Rattle.tree.specs.Relief.{split_inner}
use Rattle.tree.specs.Change.{Changed, out_of_slots}
use Rattle.tree.specs.History.{after}
use Rattle.tree.specs.Keys.{key_below}

abbrev tickets_below : List ℕ → List ℕ → Bool
tickets_below = key_below ticket_kind

abbrev shape_of : (f σ E : ℕ) → Shape
shape_of f σ E = record { fanout = f; capacity = σ; per_page = E }

-- the shape of all trees below
abbrev pub small : Shape
small = shape_of 3 6 2

abbrev fits : Shape → Bool
fits shape = legal (record_width ticket_kind) shape

-- the key of a ticket of course 1 and day 1 with that serial, below 256
abbrev pub ticket : ℕ → List ℕ
ticket serial = 0 ∷ 0 ∷ 0 ∷ serial ∷ 0 ∷ 1 ∷ 0 ∷ 1 ∷ []

-- the value of every ticket here: race 1, pool 1, runner 1, stake 1, sold
abbrev pub sold : List ℕ
sold = 1 ∷ 1 ∷ 1 ∷ 0 ∷ 0 ∷ 0 ∷ 0 ∷ 0 ∷ 1 ∷ 1 ∷ []

abbrev putting : ℕ → Entry (List ℕ) (List ℕ)
putting serial = record { key = ticket serial; value = Some sold }

abbrev removing : ℕ → Entry (List ℕ) (List ℕ)
removing serial = record { key = ticket serial; value = None }

abbrev tickets : List ℕ → List (Entry (List ℕ) (List ℕ))
tickets serials = map putting serials

abbrev leaf : ℕ → List ℕ → Tree (List ℕ) (List ℕ) 0
leaf slot serials = record { slot = slot; entries = tickets serials; children = tt }

abbrev inner : ℕ → List ℕ → Children (List ℕ) (Tree (List ℕ) (List ℕ) 0) → Tree (List ℕ) (List ℕ) 1
inner slot serials children = record { slot = slot; entries = tickets serials; children = children }

-- the empty index of the small shape after changes, the first first
abbrev changed : List (Entry (List ℕ) (List ℕ)) → Changed (List ℕ) (List ℕ)
changed es = after tickets_below small (reverse es)

abbrev leaf_root : List ℕ → ℕ → Index (List ℕ) (List ℕ)
leaf_root serials changes = record { height = 0; root = leaf 0 serials; used = 1; changes = changes }

-- the index with an inner root over two leaf nodes that the first split of a leaf root leaves
abbrev two_leaves : List ℕ → List ℕ → ℕ → List ℕ → ℕ → Index (List ℕ) (List ℕ)
two_leaves entries left sk right changes =
    let root = inner 2 entries (more (leaf 0 left) (ticket sk) (one (leaf 1 right))) in
    record { height = 1; root = root; used = 3; changes = changes }

-- the change moved so many batches, and left this index
abbrev moving : ℕ → Index (List ℕ) (List ℕ) → Changed (List ℕ) (List ℕ)
moving m index = record { moved = m; index = index }

abbrev six : List ℕ
six = 1 ∷ 2 ∷ 8 ∷ 15 ∷ 21 ∷ 32 ∷ []

abbrev seven : List ℕ
seven = 1 ∷ 2 ∷ 8 ∷ 15 ∷ 21 ∷ 32 ∷ 33 ∷ []

abbrev four_children : Children (List ℕ) (Tree (List ℕ) (List ℕ) 0)
four_children =
    more (leaf 0 []) (ticket 8) (more (leaf 1 []) (ticket 15) (more (leaf 3 []) (ticket 21) (one (leaf 4 []))))

pub record WorkedExamples : Type 0 where
  pub sizes :
      (batch_of small ≡ 1) × (leaf_pages_of small ≡ 3) × (slot_pages_of small ≡ 5) × (least_children_of small ≡ 2)
      × (changes_per_leaf_of small ≡ 3) × (fits small ≡ true)
  pub large_sizes :
      let large = shape_of 8 256 16 in
      (batch_of large ≡ 28) × (leaf_pages_of large ≡ 16) × (slot_pages_of large ≡ 18) × (changes_per_leaf_of large ≡ 115)
      × (fits large ≡ true)
  -- the capacity is above the fanout
  pub least_capacity :
      (fits (shape_of 3 3 2) ≡ false)
      × (fits (shape_of 3 4 2) ≡ true) × (batch_of (shape_of 3 4 2) ≡ 1) × (changes_per_leaf_of (shape_of 3 4 2) ≡ 2)
  -- a leaf page has room for 27 tickets
  pub most_per_page :
      (27 * record_width ticket_kind ≡ 486) × (fits (shape_of 3 6 27) ≡ true)
      × (28 * record_width ticket_kind ≡ 504) × (fits (shape_of 3 6 28) ≡ false)
  -- a full leaf root is split with the new entry among its entries
  pub leaf_root_splits :
      changed (tickets seven) ≡ moving 0 (two_leaves [] (1 ∷ 2 ∷ 8 ∷ []) 15 (15 ∷ 21 ∷ 32 ∷ 33 ∷ []) 7)
  -- a tie of the tallies, so the lowest entry moves to the left child
  pub tie_moves_left :
      changed (tickets seven ++ tickets (3 ∷ 4 ∷ 5 ∷ 16 ∷ 17 ∷ 18 ∷ 40 ∷ []))
      ≡ moving 1 (two_leaves (4 ∷ 5 ∷ 16 ∷ 17 ∷ 18 ∷ 40 ∷ []) (1 ∷ 2 ∷ 3 ∷ 8 ∷ []) 15
      (15 ∷ 21 ∷ 32 ∷ 33 ∷ []) 14)
  -- the tombstone of 1 moves to the left leaf node and goes together with the entry of 1
  pub tombstone_goes :
      changed (tickets seven ++ removing 1 ∷ tickets (3 ∷ 4 ∷ 5 ∷ 16 ∷ 17 ∷ 40 ∷ []))
      ≡ moving 1 (two_leaves (3 ∷ 4 ∷ 5 ∷ 16 ∷ 17 ∷ 40 ∷ []) (2 ∷ 8 ∷ []) 15 (15 ∷ 21 ∷ 32 ∷ 33 ∷ []) 14)
  -- a full root that has the key takes the entry in place of the old one
  pub own_key_needs_no_relief :
      changed (tickets seven ++ tickets (3 ∷ 4 ∷ 5 ∷ 16 ∷ 17 ∷ 18 ∷ 4 ∷ []))
      ≡ moving 0 (two_leaves (3 ∷ 4 ∷ 5 ∷ 16 ∷ 17 ∷ 18 ∷ []) (1 ∷ 2 ∷ 8 ∷ []) 15 (15 ∷ 21 ∷ 32 ∷ 33 ∷ []) 14)
  -- a leaf root keeps no tombstone
  pub leaf_root_removes :
      changed (tickets (1 ∷ 2 ∷ []) ++ removing 1 ∷ []) ≡ moving 0 (leaf_root (2 ∷ []) 3)
  -- of four children two stay left, the s-key after them is in neither half, and its own entry goes right
  pub inner_split :
      (split_inner tickets_below small [] 2 5 (tickets (3 ∷ 14 ∷ 15 ∷ 30 ∷ [])) four_children).parts
      ≡ more (inner 2 (3 ∷ 14 ∷ []) (more (leaf 0 []) (ticket 8) (one (leaf 1 []))))
      (ticket 15)
      (one (inner 5 (15 ∷ 30 ∷ []) (more (leaf 3 []) (ticket 21) (one (leaf 4 [])))))
  -- on 11 pages there are two slots, on 16 there are three: the split of a leaf root may take two more
  pub slots_short :
      (out_of_slots tickets_below small (slots_of small 11) (putting 33) (leaf_root six 6) ≡ true)
      × (out_of_slots tickets_below small (slots_of small 16) (putting 33) (leaf_root six 6) ≡ false)
  -- a key that is there, or a remove, needs no split of a full leaf root, so that no slot is missed
  pub no_slot_needed :
      (out_of_slots tickets_below small (slots_of small 11) (putting 2) (leaf_root six 6) ≡ false)
      × (out_of_slots tickets_below small (slots_of small 11) (removing 33) (leaf_root six 6) ≡ false)
