-- Small facts that both directions of the walk share: children and the slots that stand for them on a page, and the
-- pages of a slot as a node page and a d-tree.
use Rattle.std.proofs.Common.{◌≡◌, ℕ, suc, ◌+◌, Bool, true, false, List, [], ◌∷◌, map, length, sym, refl, ap, ◌∙◌}
use Rattle.std.specs.List.{AllByRecursion}
use Rattle.std.proofs.ByRecursion.{All-weaker}
use Rattle.records.specs.Kind.{Kind}
use Rattle.shape.specs.Shape.{Shape, ceiling}
use Rattle.tree.specs.Entries.{Low, past, High, Ascending, NoTombstones}
use Rattle.tree.specs.Children.{Children, one, more, count, SKeysAscend}
use Rattle.tree.specs.Tree.{Node}
use Rattle.tree.specs.Sound.{SoundNode}
use Rattle.layout.specs.Pages.{ByteEntry, node_page}
use Rattle.layout.specs.Slots.{node_page_of, head_page_of, child_list, s_key_list}
use Rattle.layout.specs.Holds.{ByteTree, SlotHolds, ValidEntry}
use Rattle.layout.specs.LeafPages.{ordered_below}
use Rattle.layout.specs.Nodes.{SlotChildren}
use Rattle.layout.proofs.LeafPage.{GoodEntry}
use Rattle.layout.proofs.DTree.{DTreeHeld, leaves_each, leaves_all}

-- children and their slots

-- children turned into something else, with the same s-keys between them
abbrev pub map_children : {K X Y : Type 0} → (X → Y) → Children K X → Children K Y
map_children f (one x) = one (f x)
map_children f (more x sk cs) = more (f x) sk (map_children f cs)

module _ {X Y : Type 0} (f : X → Y) where
  pub count_map : (cs : Children (List ℕ) X) → count (map_children f cs) ≡ count cs
  count_map (one x) = refl
  count_map (more x sk cs) = ap suc (count_map cs)

  pub list_map : (cs : Children (List ℕ) X) → child_list (map_children f cs) ≡ map f (child_list cs)
  list_map (one x) = refl
  list_map (more x sk cs) = ap (λ r. f x ∷ r) (list_map cs)

  pub keys_map : (cs : Children (List ℕ) X) → s_key_list (map_children f cs) ≡ s_key_list cs
  keys_map (one x) = refl
  keys_map (more x sk cs) = ap (λ r. sk ∷ r) (keys_map cs)

  module _ (lt : List ℕ → List ℕ → Bool) where
    pub ascend_unmap :
        (lo : Low (List ℕ)) (hi : High (List ℕ)) (cs : Children (List ℕ) X)
        → SKeysAscend lt lo hi (map_children f cs) → SKeysAscend lt lo hi cs
    ascend_unmap lo hi (one x) h = tt
    ascend_unmap lo hi (more x sk cs) h = (h.0, h.1, ascend_unmap (past sk) hi cs h.2)

    pub ascend_map :
        (lo : Low (List ℕ)) (hi : High (List ℕ)) (cs : Children (List ℕ) X)
        → SKeysAscend lt lo hi cs → SKeysAscend lt lo hi (map_children f cs)
    ascend_map lo hi (one x) h = tt
    ascend_map lo hi (more x sk cs) h = (h.0, h.1, ascend_map (past sk) hi cs h.2)

abbrev pub slots_of : {C : Type 0} → Children (List ℕ) (Node (List ℕ) (List ℕ) C) → SlotChildren
slots_of = map_children (λ t. t.slot)

-- a node page by the slots of the children with the s-keys between them
pub node_with_slots :
    {C : Type 0} (n : ℕ) (ts : Children (List ℕ) (Node (List ℕ) (List ℕ) C)) (bytes : List ℕ)
    → bytes ≡ node_page (map (λ t. t.slot) (child_list ts)) (s_key_list ts) n
    → bytes ≡ node_page (child_list (slots_of ts)) (s_key_list (slots_of ts)) n
node_with_slots n ts bytes e =
    e ∙ ap (λ x. node_page x (s_key_list ts) n) (sym (list_map (λ t. t.slot) ts))
    ∙ ap (λ x. node_page (child_list (slots_of ts)) x n) (sym (keys_map (λ t. t.slot) ts))

-- good entries of a leaf node and of an inner node

pub no_tombstones : (kind : Kind) (es : List ByteEntry) → AllByRecursion (GoodEntry kind true) es → NoTombstones es
no_tombstones kind [] h = tt
no_tombstones kind (e ∷ es) h = (h.0.1, no_tombstones kind es h.1)

pub good_in_leaf :
    (kind : Kind) (es : List ByteEntry) → AllByRecursion (ValidEntry kind) es → NoTombstones es
    → AllByRecursion (GoodEntry kind true) es
good_in_leaf kind [] v h = tt
good_in_leaf kind (e ∷ es) v h = ((v.0, h.0), good_in_leaf kind es v.1 h.1)

pub good_in_inner :
    (kind : Kind) (es : List ByteEntry) → AllByRecursion (ValidEntry kind) es → AllByRecursion (GoodEntry kind false) es
good_in_inner kind = All-weaker (ValidEntry kind) (GoodEntry kind false) (λ e v. (v, tt))

module _ (kind : Kind) (shape : Shape) (page : ℕ → List ℕ) where
  -- the pages of a slot are its node page and its d-tree's pages

  pub slot_holds :
      (leaf : Bool) (hi : High (List ℕ)) (lo : Low (List ℕ)) (slot : ℕ) (cs : List ℕ) (sks : List (List ℕ))
      (es : List ByteEntry)
      → page (node_page_of shape slot) ≡ node_page cs sks (length es)
      → DTreeHeld kind shape.per_page page leaf hi (length es) lo (head_page_of shape slot) es
      → SlotHolds kind shape page slot cs sks es
  slot_holds leaf hi lo slot cs sks es n d = record {
    node = n;
    head = d.head;
    leaves =
        leaves_each kind shape.per_page page (ceiling (length es) shape.per_page) (head_page_of shape slot + 1) es
        d.leaves;
  }

  pub dtree_of :
      (leaf : Bool) (hi : High (List ℕ)) (lo : Low (List ℕ)) (slot : ℕ) (cs : List ℕ) (sks : List (List ℕ))
      (es : List ByteEntry)
      → SlotHolds kind shape page slot cs sks es
      → AllByRecursion (GoodEntry kind leaf) es → Ascending (ordered_below kind) lo hi es
      → DTreeHeld kind shape.per_page page leaf hi (length es) lo (head_page_of shape slot) es
  dtree_of leaf hi lo slot cs sks es s good asc = record {
    count = refl;
    ascending = asc;
    good = good;
    head = s.head;
    leaves =
        leaves_all kind shape.per_page page (ceiling (length es) shape.per_page) (head_page_of shape slot + 1) es
        s.leaves;
  }

-- a sound node by the order of the kind, as the inspection asks for it
abbrev pub SoundHere : Kind → Shape → (fewest h : ℕ) → Low (List ℕ) → High (List ℕ) → ByteTree h → Type 0
SoundHere kind shape fewest h = SoundNode (ordered_below kind) shape shape.capacity fewest h
