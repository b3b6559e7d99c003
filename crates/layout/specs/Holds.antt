-- What it means that the pages of a store hold an index: which bytes stand on which page, zeros too, and that the index
-- is sound. Nothing is said of leaf pages past the filled ones, nor of slots that are not used.
use Rattle.std.specs.Prelude.{◌≡◌, ℕ, zero, suc, ◌*◌, ◌^◌, ◌<◌, ◌≤◌, true, List, [], map, length, take, drop, Some, None, Option}
use Rattle.std.specs.List.{AllByRecursion}
use Rattle.records.specs.Kind.{Kind, record_width}
use Rattle.stores.specs.Store.{page_at}
use Rattle.shape.specs.Shape.{Shape, ceiling, slot_pages_of, legal}
use Rattle.tree.specs.Children.{Children, one, more}
use Rattle.tree.specs.Tree.{Tree, Index, levels}
use Rattle.tree.specs.Sound.{Sound}
use Rattle.tree.specs.Keys.{key_below}
use Rattle.layout.specs.Pages.{Header, header_page, node_page, head_page, leaf_page, ByteEntry}
use Rattle.layout.specs.Slots.{node_page_of, head_page_of, leaf_page_of, child_list, s_key_list, first_keys}

abbrev pub ByteTree : ℕ → Type 0
ByteTree h = Tree (List ℕ) (List ℕ) h

abbrev pub ByteIndex : Type 0
ByteIndex = Index (List ℕ) (List ℕ)

-- an index with the shape it is kept in
pub record Stored : Type 0 where
  pub shape : Shape
  pub index : ByteIndex

-- the numbers of page 0
abbrev pub header_for : Stored → Header
header_for s = record {
  shape = s.shape;
  levels = levels s.index;
  used = s.index.used;
  root = s.index.root.slot;
  changes = s.index.changes;
}

-- something holds of each child
abbrev pub Each : {K X : Type 0} → (X → Type 0) → Children K X → Type 0
Each P (one x) = P x
Each P (more x sk cs) = P x × Each P cs

module _ (kind : Kind) (shape : Shape) (page : ℕ → List ℕ) where
  -- The pages of one slot: the node page with the slots of the children, the s-keys and the number of entries; the head
  -- page with the first key of each leaf page filled; and leaf page j with the entries from j × E on, E of them or what
  -- is left.
  pub record SlotHolds (slot : ℕ) (children : List ℕ) (s_keys : List (List ℕ)) (es : List ByteEntry) : Type 0 where
    pub node : page (node_page_of shape slot) ≡ node_page children s_keys (length es)
    pub head :
        page (head_page_of shape slot)
        ≡ head_page (first_keys (ceiling (length es) shape.per_page) shape.per_page es)
    pub leaves :
        (j : ℕ) → j < ceiling (length es) shape.per_page
        → page (leaf_page_of shape slot j) ≡ leaf_page kind (take shape.per_page (drop (j * shape.per_page) es))

  -- every node of the tree stands on the pages of its slot
  abbrev pub NodesStand : (h : ℕ) → ByteTree h → Type 0
  NodesStand zero t = SlotHolds t.slot [] [] t.entries
  NodesStand (suc h) t =
      SlotHolds t.slot (map (λ c. c.slot) (child_list t.children)) (s_key_list t.children) t.entries
      × Each (NodesStand h) t.children

module _ (kind : Kind) where
  abbrev pub ValidKey : List ℕ → Type 0
  ValidKey key = kind.valid_key key ≡ true

  -- a tombstone has no value to be valid
  abbrev pub ValidValue : Option (List ℕ) → Type 0
  ValidValue None = Unit {0}
  ValidValue (Some value) = kind.valid_value value ≡ true

  abbrev pub ValidEntry : ByteEntry → Type 0
  ValidEntry e = ValidKey e.key × ValidValue e.value

  -- every key, every s-key and every live value of the tree is valid
  abbrev pub ValidTree : (h : ℕ) → ByteTree h → Type 0
  ValidTree zero t = AllByRecursion ValidEntry t.entries
  ValidTree (suc h) t =
      AllByRecursion ValidEntry t.entries × AllByRecursion ValidKey (s_key_list t.children) × Each (ValidTree h) t.children

  pub record Holds (pages : List (List ℕ)) (s : Stored) : Type 0 where
    pub shape : legal (record_width kind) s.shape ≡ true
    -- the numbers of page 0 fit, and the pages of all used slots are there
    pub slots : s.index.used ≤ 1024
    pub changes : s.index.changes < 2 ^ 32
    pub there : s.index.used * slot_pages_of s.shape < length pages
    pub header : page_at pages 0 ≡ header_page kind.number (header_for s)
    pub nodes : NodesStand kind s.shape (page_at pages) s.index.height s.index.root
    pub valid : ValidTree s.index.height s.index.root
    pub sound : Sound (key_below kind) s.shape s.index
