-- The children on a node page are the slots of the node's children with the same s-keys, so a key belongs to the same
-- place in both; and what holds of all children holds of the one in that place.
use Rattle.std.proofs.Common.{◌≡◌, ℕ, zero, suc, ◌<◌, ◌≤◌, Bool, cond, List, length, sym, refl, ap, ◌∙◌, subst, inl, inr, arith}
use Rattle.std.specs.List.{AllByRecursion}
use Rattle.std.proofs.lemmas.Bool.{eq-eqb, le-ltb, cases_lt}
use Rattle.records.specs.Kind.{Kind, Lawful}
use Rattle.stores.specs.Store.{StoreState, page_at}
use Rattle.stores.specs.Store as stores
use Rattle.shape.specs.Shape.{Shape, least_children_of}
use Rattle.tree.specs.Entries.{Low, least, High, most, read}
use Rattle.tree.specs.Order.{compare_by, pick}
use Rattle.tree.specs.Children.{Children, one, more, sum_of, child_at, place_of, SKeysAscend}
use Rattle.tree.specs.Tree.{find}
use Rattle.tree.specs.Sound.{nodes_in, SoundNode}
use Rattle.tree.specs.Keys.{key_below}
use Rattle.tree.proofs.Keys.{key_ordered}
use Rattle.tree.proofs.Children.{low_at, high_at, each_at}
use Rattle.tree.proofs.Belong.{ask_at}
use Rattle.layout.specs.Slots.{node_page_of, s_key_list}
use Rattle.layout.specs.Holds.{ByteTree, Each, Stored, Holds, NodesStand, ValidKey, ValidTree}
use Rattle.layout.specs.Laws.{Everywhere}
use Rattle.layout.specs.Descent.{Subtree, Branching, ChildFor, children_in, SKeysTellTheChild}
use Rattle.layout.specs.Nodes.{child_count_on, entry_count_on}
use Rattle.layout.proofs.NodePage.{s_keys_long, InnerRead, inner_read, leaf_node_read}
use Rattle.layout.proofs.SlotsListed.{AllBelow, slots_below, is_same}
use Rattle.layout.proofs.Fits.{Fits, fits}
use Rattle.layout.proofs.Children.{map_children, keys_map, count_map, ascend_map, slots_of, node_with_slots}
use Rattle.layout.proofs.WalkAccepts.{own_slot, own_slots, two_bytes_lem}

module _ {X Y : Type 0} (f : X → Y) where
  at_map : (i : ℕ) (cs : Children (List ℕ) X) → child_at i (map_children f cs) ≡ f (child_at i cs)
  at_map i (one x) = refl
  at_map zero (more x sk cs) = refl
  at_map (suc i) (more x sk cs) = at_map i cs

  place_map :
      (lt : List ℕ → List ℕ → Bool) (key : List ℕ) (cs : Children (List ℕ) X)
      → place_of lt key (map_children f cs) ≡ place_of lt key cs
  place_map lt key (one x) = refl
  place_map lt key (more x sk cs) =
      ap (λ n. pick (compare_by lt key sk) 0 (suc n) (suc n)) (place_map lt key cs)

each_child : {X : Type 0} (P : X → Type 0) (i : ℕ) (cs : Children (List ℕ) X) → Each P cs → P (child_at i cs)
each_child P i (one x) h = h
each_child P zero (more x sk cs) h = h.0
each_child P (suc i) (more x sk cs) h = each_child P i cs h.1

child_of_sum : {X : Type 0} (w : X → ℕ) (i : ℕ) (cs : Children (List ℕ) X) → w (child_at i cs) ≤ sum_of w cs
child_of_sum w i (one x) = omega arith
child_of_sum w zero (more x sk cs) = omega arith
child_of_sum w (suc i) (more x sk cs) = omega (arith, child_of_sum w i cs)

module _ (kind : Kind) (law : Lawful kind) (shape : Shape) (fit : Fits kind shape) (page : ℕ → List ℕ) (used : ℕ)
    (few : used ≤ 65536) where
  -- the node page of an inner node, as it is read
  inner_node :
      (h : ℕ) (t : ByteTree (suc h)) → Subtree kind shape page used (suc h) t
      → InnerRead kind.key_width (slots_of t.children) (length t.entries) (page (node_page_of shape t.slot))
  inner_node h t o =
      let ts = t.children in
      let cs = slots_of ts in
      let n = length t.entries in
      let low : AllBelow used cs =
      slots_below used cs (λ x l. omega (arith, o.slots x l, own_slots x h ts)) in
      let valid : AllByRecursion (ValidKey kind) (s_key_list cs) =
      subst (λ x. AllByRecursion (ValidKey kind) x) (sym (keys_map (λ t. t.slot) ts)) o.valid.1 in
      let node = node_with_slots n ts (page (node_page_of shape t.slot)) o.stands.0.node in
      inner_read kind.key_width cs n (page (node_page_of shape t.slot)) (two_bytes_lem used cs few low)
      (s_keys_long kind law cs valid) (omega (arith, o.sound.1, fit.few_entries)) node

  -- what a search reads from the node page of a node
  pub record NodeRead (h : ℕ) (t : ByteTree h) : Type 0 where
    pub entries : entry_count_on (page (node_page_of shape t.slot)) ≡ length t.entries
    pub within : length t.entries ≤ shape.capacity
    pub used_slot : t.slot < used

  slot_used : (h : ℕ) (t : ByteTree h) → Subtree kind shape page used h t → t.slot < used
  slot_used h t o =
      elim (cases_lt t.slot used) [
        | inl l ↦ l
        | inr l ↦ absurd (omega (arith, o.slots t.slot l, own_slot t.slot h t, is_same t.slot))
      ]

  pub node_read : (h : ℕ) (t : ByteTree h) → Subtree kind shape page used h t → NodeRead h t
  node_read zero t o =
      let n = length t.entries in
      let read = leaf_node_read n (page (node_page_of shape t.slot))
      (omega (arith, o.sound.1, fit.few_entries)) o.stands.node in
      record { entries = read.entries; within = o.sound.1; used_slot = slot_used zero t o }
  node_read (suc h) t o =
      record { entries = (inner_node h t o).entries; within = o.sound.1; used_slot = slot_used (suc h) t o }

  pub leaf_children :
      (t : ByteTree zero) → Subtree kind shape page used zero t → child_count_on (page (node_page_of shape t.slot)) ≡ 0
  leaf_children t o =
      (leaf_node_read (length t.entries) (page (node_page_of shape t.slot))
      (omega (arith, o.sound.1, fit.few_entries)) o.stands.node).counted

  children_read :
      (h : ℕ) (t : ByteTree (suc h)) → Subtree kind shape page used (suc h) t
      → children_in kind shape page t.slot ≡ slots_of t.children
  children_read h t o = (inner_node h t o).children

  -- the children of an inner node, as they are read from its page
  pub record ChildrenRead (h : ℕ) (t : ByteTree (suc h)) : Type 0 where
    pub two : 2 ≤ child_count_on (page (node_page_of shape t.slot))
    pub most : child_count_on (page (node_page_of shape t.slot)) ≤ shape.fanout
    pub low : Low (List ℕ)
    pub high : High (List ℕ)
    pub ascend : SKeysAscend (key_below kind) low high (children_in kind shape page t.slot)
    pub valid : AllByRecursion (ValidKey kind) (s_key_list (children_in kind shape page t.slot))

  pub read_children : (h : ℕ) (t : ByteTree (suc h)) → Branching kind shape page used (suc h) t → ChildrenRead h t
  read_children h t b =
      let o = b.subtree in
      let ts = t.children in
      let slot : ByteTree h → ℕ = λ t. t.slot in
      let on = inner_node h t o in
      let counted = on.counted ∙ count_map slot ts in
      record {
        two = omega (arith, counted, b.two, o.sound.2.0);
        most = omega (arith, counted, o.sound.2.1);
        low = o.low;
        high = o.high;
        ascend =
            subst (λ cs. SKeysAscend (key_below kind) o.low o.high cs) (sym on.children)
            (ascend_map slot (key_below kind) o.low o.high ts o.sound.3);
        valid =
            subst (λ cs. AllByRecursion (ValidKey kind) (s_key_list cs)) (sym on.children)
            (subst (λ x. AllByRecursion (ValidKey kind) x) (sym (keys_map slot ts)) o.valid.1);
      }

  pub child_for :
      (h : ℕ) (key : List ℕ) (t : ByteTree (suc h)) → Subtree kind shape page used (suc h) t
      → ChildFor kind shape page used h key t
  child_for h key t o =
      let lt = key_below kind in
      let ts = t.children in
      let i = place_of lt key ts in
      let on = children_read h t o in
      let place : place_of lt key (slots_of ts) ≡ i = place_map (λ t. t.slot) lt key ts in
      record {
        child = child_at i ts;
        slot =
            ap (λ cs. child_at (place_of lt key cs) cs) on ∙ ap (λ j. child_at j (slots_of ts)) place
            ∙ at_map (λ t. t.slot) i ts;
        subtree = record {
          low = low_at i o.low ts;
          high = high_at i o.high ts;
          fewest = least_children_of shape;
          stands = each_child (NodesStand kind shape page h) i ts o.stands.1;
          valid = each_child (ValidTree kind h) i ts o.valid.2;
          sound =
              each_at (SoundNode lt shape shape.capacity (least_children_of shape) h) i o.low o.high ts
              o.sound.4;
          slots = λ x l. omega (arith, o.slots x l, child_of_sum (nodes_in x h) i ts);
        };
        found =
            ap (read lt key t.entries) (ask_at (key_ordered kind law) (find lt h) i key ts (eq-eqb i i refl));
      }

  pub child_branching :
      (h : ℕ) (key : List ℕ) (t : ByteTree (suc h)) → (o : Subtree kind shape page used (suc h) t)
      → Branching kind shape page used h (child_for h key t o).child
  unfolding child_for
  child_branching h key t o = record { subtree = (child_for h key t o).subtree; two = fit.some_children }

pub s_keys_tell_the_child : Everywhere SKeysTellTheChild
s_keys_tell_the_child kind law store whole s o =
    let i = s.index in
    let fit = fits kind s.shape law o.shape in (
      record {
        low = least;
        high = most;
        fewest = 2;
        stands = o.nodes;
        valid = o.valid;
        sound = o.sound.root;
        slots = λ x l. o.sound.slots x ∙ ap (λ b. cond b 1 0) (le-ltb x i.used l);
      },
      λ h key t sub.
          child_for kind law s.shape fit (page_at store.pages) i.used (omega (arith, o.slots)) h key t sub,
    )

pub root_branching :
    (kind : Kind) (law : Lawful kind) (store : StoreState) (whole : stores.Lawful store) (s : Stored)
    (o : Holds kind store.pages s)
    → Branching kind s.shape (page_at store.pages) s.index.used s.index.height s.index.root
unfolding s_keys_tell_the_child
root_branching kind law store whole s o =
    record { subtree = (s_keys_tell_the_child kind law store whole s o).0; two = omega arith }
