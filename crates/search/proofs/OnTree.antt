-- One node of a tree that stands on its pages: its counts pass the tests, its d-tree is searched as it stands, and
-- where its entries say nothing of a key, the child that the key belongs to says what the node says.
use Rattle.std.proofs.Common.{◌≡◌, ℕ, zero, suc, ◌+◌, ◌-◌, ◌*◌, ◌≤◌, true, false, cond, ◌&&◌, eqb, leb, List, length, drop, IfOk, None, Ok, Err, Option, Result, sym, ap, ◌∙◌, subst, arith}
use Rattle.std.proofs.lemmas.List.{drop-drop}
use Rattle.std.proofs.lemmas.Bool.{and_from, eq-eqb, ne_eqb, le-leb}
use Rattle.records.specs.Kind.{Kind, Lawful, record_width}
use Rattle.stores.specs.Store.{page_at}
use Rattle.shape.specs.Shape.{Shape, legal}
use Rattle.tree.specs.Children.{ask_child}
use Rattle.tree.specs.Tree.{find}
use Rattle.tree.specs.Keys.{key_below}
use Rattle.layout.specs.Pages.{ByteEntry, node_page}
use Rattle.layout.specs.Slots.{node_page_of}
use Rattle.layout.specs.Nodes.{SlotChildren, child_count_on, entry_count_on, children_from}
use Rattle.layout.specs.Holds.{ByteTree, ValidKey, SlotHolds}
use Rattle.layout.specs.Descent.{Branching, children_in}
use Rattle.layout.specs.declared.faults.PageFault.{PageFault}
use Rattle.layout.specs.declared.parts.NodeParts.{NodeParts}
use Rattle.layout.proofs.Fits.{Fits, fits}
use Rattle.layout.proofs.Descent.{node_read, leaf_children, read_children, child_for, child_branching}
use Rattle.search.specs.Found.{said_by, PlaceOf, GoodEntries, DTreeOn, BelongsTo}
use Rattle.search.specs.Nodes.{may_have, NodeOf, GoesOn, SteppedDown, StepAt}
use Rattle.search.specs.declared.d_tree.Place.{Place}
use Rattle.search.specs.declared.d_tree.Saying.TheVariants.{Nothing, Tombstone, Live}
use Rattle.search.specs.declared.descent.Step.{Step}
use Rattle.search.specs.declared.descent.Step.TheVariants.{Found, Absent, Child}
use Rattle.search.proofs.OnLeaf.{page_there}

module _
    (kind : Kind) (law : Lawful kind) (shape : Shape) (good : legal (record_width kind) shape ≡ true)
    (page : ℕ → List ℕ) (used : ℕ) (most : used ≤ 1024) where
  abbrev On : (h : ℕ) → ByteTree h → Type 0
  On h t = Branching kind shape page used h t

  fit : Fits kind shape
  fit = fits kind shape law good

  small : used ≤ 65536
  small = omega arith

  slot_holds :
      (h : ℕ) (t : ByteTree h) → On h t
      → (children : List ℕ) × (s_keys : List (List ℕ))
      × SlotHolds kind shape page t.slot children s_keys t.entries
  slot_holds zero t o = (_, _, o.subtree.stands)
  slot_holds (suc h) t o = (_, _, o.subtree.stands.0)

  entries_good : (h : ℕ) (t : ByteTree h) → On h t → GoodEntries kind t.entries
  entries_good zero t o =
      record { valid = o.subtree.valid; low = o.subtree.low; high = o.subtree.high; ascending = o.subtree.sound.0 }
  entries_good (suc h) t o =
      record { valid = o.subtree.valid.0; low = o.subtree.low; high = o.subtree.high; ascending = o.subtree.sound.0 }

  -- the d-tree of a node that stands in a slot
  d_tree_on :
      (h : ℕ) (t : ByteTree h) (p : ℕ) → On h t → p ≡ node_page_of shape t.slot
      → DTreeOn kind shape.per_page page (p + 1) t.entries
  d_tree_on h t p o e =
      let s = (slot_holds h t o).2 in
      record {
        head = ap (λ n. page (n + 1)) e ∙ s.head;
        leaves = λ j l. ap (λ n. page (n + 1 + 1 + j)) e ∙ s.leaves j l;
        good = entries_good h t o;
      }

  entries_counted :
      (h : ℕ) (t : ByteTree h) (p : ℕ) (buffer : List ℕ) → On h t → p ≡ node_page_of shape t.slot → buffer ≡ page p
      → length t.entries ≡ entry_count_on buffer
  entries_counted h t p buffer o e is =
      sym (ap entry_count_on (is ∙ ap page e) ∙ (node_read kind law shape fit page used small h t o.subtree).entries)

  may_have_lem :
      (h : ℕ) (t : ByteTree h) → On h t
      → may_have h (child_count_on (page (node_page_of shape t.slot))) shape.fanout ≡ true
  may_have_lem zero t o = eq-eqb _ 0 (leaf_children kind law shape fit page used small t o.subtree)
  may_have_lem (suc h) t o =
      let c = child_count_on (page (node_page_of shape t.slot)) in
      let r = read_children kind law shape fit page used small h t o in
      let n : eqb (suc h) 0 ≡ false = ne_eqb (suc h) 0 (λ q. omega arith) in
      ap (λ b. cond b (eqb c 0) (leb 2 c && leb c shape.fanout)) n
      ∙ and_from _ _ (le-leb 2 c r.two) (le-leb c shape.fanout r.most)

  -- the tests of the counts pass
  counts_pass :
      (h : ℕ) (t : ByteTree h) (p : ℕ) (buffer : List ℕ) → On h t → p ≡ node_page_of shape t.slot → buffer ≡ page p
      → (may_have h (child_count_on buffer) shape.fanout ≡ true) × (entry_count_on buffer ≤ shape.capacity)
  counts_pass h t p buffer o e is =
      let same : buffer ≡ page (node_page_of shape t.slot) = is ∙ ap page e in
      let n = node_read kind law shape fit page used small h t o.subtree in (
        ap (λ b. may_have h (child_count_on b) shape.fanout) same ∙ may_have_lem h t o,
        omega (arith, ap entry_count_on same, n.entries, n.within),
      )

  module _ (key : List ℕ) (valid : ValidKey kind key) where
    abbrev said : (h : ℕ) → ByteTree h → Option (List ℕ)
    said h t = find (key_below kind) h key t

    abbrev Says : (h : ℕ) → ByteTree h → Result Step PageFault → Type 0
    Says h t r = StepAt kind shape page used key h t r

    -- what the node says, by what its entries say and what the nodes below it would say
    below_says : (h : ℕ) → ByteTree h → Option (List ℕ)
    below_says zero t = None
    below_says (suc h) t = ask_child (key_below kind) (find (key_below kind) h) key t.children

    node_says :
        (h : ℕ) (t : ByteTree h) (place : Place) → PlaceOf kind key t.entries place
        → said h t ≡ said_by kind.value_width place.saying (below_says h t)
    unfolding below_says
    node_says zero t place f = sym (f.says None)
    node_says (suc h) t place f = sym (f.says _)

    step_found :
        (h : ℕ) (t : ByteTree h) (place : Place) (value : List ℕ) → place.saying ≡ Live value
        → PlaceOf kind key t.entries place → Says h t (Ok (Found value))
    step_found h t place value e f =
        node_says h t place f ∙ ap (λ s. said_by kind.value_width s (below_says h t)) e

    step_removed :
        (h : ℕ) (t : ByteTree h) (place : Place) → place.saying ≡ Tombstone → PlaceOf kind key t.entries place
        → Says h t (Ok Absent)
    step_removed h t place e f =
        node_says h t place f ∙ ap (λ s. said_by kind.value_width s (below_says h t)) e

    step_absent :
        (h : ℕ) (t : ByteTree h) (place : Place) → h ≡ 0 → place.saying ≡ Nothing
        → PlaceOf kind key t.entries place → Says h t (Ok Absent)
    step_absent zero t place z e f = sym (f.says None) ∙ ap (λ s. said_by kind.value_width s None) e
    step_absent (suc h) t place z e f = absurd (omega arith)

    -- the children on the page as it was read
    abbrev children_of : NodeParts → SlotChildren
    children_of node =
        children_from kind.key_width (node.children - 1) node.rest.now
        (drop (2 * node.children) node.rest.now)

    children_same : (buffer : List ℕ) (node : NodeParts) → NodeOf buffer node
        → children_of node
        ≡ children_from kind.key_width (child_count_on buffer - 1) (drop 3 buffer)
        (drop (3 + 2 * child_count_on buffer) buffer)
    children_same buffer node n =
        let w = kind.key_width in
        let c = child_count_on buffer in
        ap (λ m. children_from w (m - 1) node.rest.now (drop (2 * m) node.rest.now)) n.children
        ∙ ap (λ r. children_from w (c - 1) r (drop (2 * c) r)) n.rest
        ∙ ap (children_from w (c - 1) (drop 3 buffer)) (drop-drop (2 * c) 3 buffer)

    -- the slot found is the child's
    child_slot :
        (h : ℕ) (t : ByteTree (suc h)) (p : ℕ) (buffer : List ℕ) (node : NodeParts) (slot : ℕ) → (o : On (suc h) t)
        → p ≡ node_page_of shape t.slot → buffer ≡ page p → NodeOf buffer node
        → BelongsTo kind key (children_of node) slot
        → slot ≡ (child_for kind law shape fit page used small h key t o.subtree).child.slot
    child_slot h t p buffer node slot o e is n b =
        let same : buffer ≡ page (node_page_of shape t.slot) = is ∙ ap page e in
        let r = read_children kind law shape fit page used small h t o in
        let cs = children_same buffer node n
        ∙ ap (λ x. children_from kind.key_width (child_count_on x - 1) (drop 3 x) (drop (3 + 2 * child_count_on x) x))
        same in
        let b' : BelongsTo kind key (children_in kind shape page t.slot) slot =
        subst (λ x. BelongsTo kind key x slot) cs b in
        b' r.low r.high r.ascend r.valid valid
        ∙ (child_for kind law shape fit page used small h key t o.subtree).slot

    step_down :
        (h : ℕ) (t : ByteTree h) (place : Place) (p : ℕ) (buffer : List ℕ) (node : NodeParts)
        (r : Result Step PageFault) → 1 ≤ h → On h t → p ≡ node_page_of shape t.slot → buffer ≡ page p
        → NodeOf buffer node → place.saying ≡ Nothing → PlaceOf kind key t.entries place
        → SteppedDown used (BelongsTo kind key (children_of node)) r → Says h t r
    step_down zero t place p buffer node r one o e is of n f d = absurd (omega arith)
    step_down (suc h) t place p buffer node (Ok (Found value)) one o e is of n f d = absurd d
    step_down (suc h) t place p buffer node (Ok Absent) one o e is of n f d = absurd d
    step_down (suc h) t place p buffer node (Ok (Child slot)) one o e is of n f d =
        let c = child_for kind law shape fit page used small h key t o.subtree in
        record {
          node = c.child;
          at = sym (child_slot h t p buffer node slot o e is of d.1);
          branching = child_branching kind law shape fit page used small h key t o.subtree;
          same = c.found
              ∙ sym (sym (ap (λ s. said_by kind.value_width s (said h c.child)) n) ∙ f.says (said h c.child));
        }
    step_down (suc h) t place p buffer node (Err fault) one o e is of n f d =
        let c = child_for kind law shape fit page used small h key t o.subtree in
        let at = child_slot h t p buffer node d.0 o e is of d.2 in
        let low = (node_read kind law shape fit page used small h c.child c.subtree).used_slot in
        absurd (omega (arith, d.1, at, low))

-- a step down goes on to a used slot, from an inner node
pub goes_on :
    (used h : ℕ) (Belongs : ℕ → Type 0) (r : Result Step PageFault) → 1 ≤ h → SteppedDown used Belongs r
    → IfOk r (GoesOn used h)
goes_on used h Belongs (Ok (Found value)) one d = tt
goes_on used h Belongs (Ok Absent) one d = tt
goes_on used h Belongs (Ok (Child slot)) one d = (one, d.0)
goes_on used h Belongs (Err fault) one d = tt

-- the node page of a node that stands is there
node_there :
    (kind : Kind) (shape : Shape) (pages : List (List ℕ)) (used h : ℕ) (t : ByteTree h) (p : ℕ) → length pages ≤ p
    → Branching kind shape (page_at pages) used h t → p ≡ node_page_of shape t.slot → ⊥
unfolding node_page
node_there kind shape pages used zero t p l o e =
    page_there pages p _ _ l (ap (page_at pages) e ∙ o.subtree.stands.node)
node_there kind shape pages used (suc h) t p l o e =
    page_there pages p _ _ l (ap (page_at pages) e ∙ o.subtree.stands.0.node)

-- one node as the code reads it
module _
    (kind : Kind) (law : Lawful kind) (shape : Shape) (before after : List (List ℕ)) (used : ℕ) (most : used ≤ 1024)
    (key : List ℕ) (h slot p : ℕ) (at : p ≡ node_page_of shape slot) where
  -- what is shown of each node that stands on the pages
  abbrev EachNode : (ByteTree h → Type 0) → Type 0
  EachNode Shown =
      (t : ByteTree h) → legal (record_width kind) shape ≡ true → Branching kind shape (page_at before) used h t
      → t.slot ≡ slot → ValidKey kind key → Shown t

  abbrev here : (t : ByteTree h) → t.slot ≡ slot → p ≡ node_page_of shape t.slot
  here t is = at ∙ ap (node_page_of shape) (sym is)

  pub none_missing : length before ≤ p → EachNode (λ t. ⊥)
  none_missing past t good o is valid = node_there kind shape before used h t p past o (here t is)

  pub none_refused :
      (buffer : List ℕ) → buffer ≡ page_at before p
      → (may_have h (child_count_on buffer) shape.fanout ≡ true → entry_count_on buffer ≤ shape.capacity → ⊥)
      → EachNode (λ t. ⊥)
  none_refused buffer read refused t good o is valid =
      let pass = counts_pass kind law shape good (page_at before) used most h t p buffer o (here t is) read in
      refused pass.0 pass.1

  module _
      (buffer : List ℕ) (node : NodeParts) (read : buffer ≡ page_at before p) (same : after ≡ before)
      (parts : NodeOf buffer node) where
    -- what the search of the d-tree behind the node page promises
    abbrev Searched : (List ByteEntry → Type 0) → Type 0
    Searched Gives =
        (es : List ByteEntry) → DTreeOn kind shape.per_page (page_at after) (p + 1) es → length es ≡ node.entries
        → ValidKey kind key → Gives es

    pub entries_found : (Gives : List ByteEntry → Type 0) → Searched Gives → EachNode (λ t. Gives t.entries)
    entries_found Gives f t good o is valid =
        let on = d_tree_on kind law shape good (page_at before) used most h t p o (here t is) in
        let many = entries_counted kind law shape good (page_at before) used most h t p buffer o (here t is) read in
        f t.entries (subst (λ x. DTreeOn kind shape.per_page (page_at x) (p + 1) t.entries) (sym same) on)
        (many ∙ sym parts.entries) valid

    module _ (place : Place) (searched : Searched (λ es. PlaceOf kind key es place)) where
      abbrev NodeSays : Result Step PageFault → Type 0
      NodeSays r = EachNode (λ t. StepAt kind shape (page_at before) used key h t r)

      pub says_found : (value : List ℕ) → place.saying ≡ Live value → NodeSays (Ok (Found value))
      says_found value e t good o is valid =
          step_found kind law shape good (page_at before) used most key valid h t place value e
          (entries_found _ searched t good o is valid)

      pub says_removed : place.saying ≡ Tombstone → NodeSays (Ok Absent)
      says_removed e t good o is valid =
          step_removed kind law shape good (page_at before) used most key valid h t place e
          (entries_found _ searched t good o is valid)

      pub says_absent : h ≡ 0 → place.saying ≡ Nothing → NodeSays (Ok Absent)
      says_absent low e t good o is valid =
          step_absent kind law shape good (page_at before) used most key valid h t place low e
          (entries_found _ searched t good o is valid)

      pub says_below :
          (r : Result Step PageFault) → 1 ≤ h → place.saying ≡ Nothing
          → SteppedDown used (BelongsTo kind key (children_from kind.key_width (node.children - 1) node.rest.now
          (drop (2 * node.children) node.rest.now))) r
          → NodeSays r
      says_below r high e d t good o is valid =
          step_down kind law shape good (page_at before) used most key valid h t place p buffer node r high o
          (here t is) read parts e (entries_found _ searched t good o is valid) d
