-- The walk over the nodes from the root, depth first, each node before its children, left to right; and rule 12.
use Rattle.std.specs.Prelude.{ℕ, zero, suc, true, false, List, [], ◌∷◌, length, Ok, ◌==◌}
use Rattle.records.specs.Kind.{Kind}
use Rattle.shape.specs.Shape.{Shape, least_children_of}
use Rattle.tree.specs.Entries.{Low, least, from, High, most, until}
use Rattle.tree.specs.Children.{Children, one, more}
use Rattle.layout.specs.Slots.{node_page_of, head_page_of}
use Rattle.layout.specs.Holds.{ByteTree}
use Rattle.layout.specs.Checked.{Checked, test, then}
use Rattle.layout.specs.LeafPages.{inspect_d_tree}
use Rattle.layout.specs.Nodes.{SlotChildren, entry_count_on, listed_after, inspect_leaf_node, inspect_inner_node}
use Rattle.layout.specs.declared.faults.Rule.TheVariants.{SlotsReached}

-- each child in its range in turn, with the slots listed so far handed on
unfoldable pub walk_children :
    {Y : Type 0} → (List ℕ → Low (List ℕ) → High (List ℕ) → ℕ → Checked (Y × List ℕ))
    → List ℕ → Low (List ℕ) → High (List ℕ) → SlotChildren → Checked (Children (List ℕ) Y × List ℕ)
walk_children visit listed lo hi (one x) = then (visit listed lo hi x) (λ r. Ok (one r.0, r.1))
walk_children visit listed lo hi (more x sk cs) =
    then (visit listed lo (until sk) x) (λ r.
    then (walk_children visit r.1 (from sk) hi cs) (λ q.
    Ok (more r.0 sk q.0, q.1)))

module _ (kind : Kind) (shape : Shape) (page : ℕ → List ℕ) (used : ℕ) where
  -- The node in a slot, which is h levels above the leaf nodes, and all nodes below it; with the slots listed by then.
  unfoldable pub walk :
      (h fewest : ℕ) (listed : List ℕ) → Low (List ℕ) → High (List ℕ) → (slot : ℕ)
      → Checked (ByteTree h × List ℕ)
  walk zero fewest listed lo hi slot =
      then (inspect_leaf_node kind shape page (node_page_of shape slot)) (λ n.
      then (inspect_d_tree kind shape.per_page page true hi n lo (head_page_of shape slot)) (λ es.
      Ok (record { slot = slot; entries = es; children = tt }, listed)))
  walk (suc h) fewest listed lo hi slot =
      let n = entry_count_on (page (node_page_of shape slot)) in
      then (inspect_inner_node kind shape page used fewest listed lo hi (node_page_of shape slot)) (λ cs.
      then (inspect_d_tree kind shape.per_page page false hi n lo (head_page_of shape slot)) (λ es.
      then (walk_children (walk h (least_children_of shape)) (listed_after listed cs) lo hi cs) (λ r.
      Ok (record { slot = slot; entries = es; children = r.0 }, r.1))))

  -- the whole tree: its root may have as few as two children, and every used slot is to be reached
  unfoldable pub walk_tree : (h root : ℕ) → Checked (ByteTree h)
  walk_tree h root =
      then (walk h 2 (root ∷ []) least most root) (λ r.
      test (length r.1 == used) 0 SlotsReached
      (Ok r.0))
