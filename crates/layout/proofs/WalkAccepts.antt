-- A tree that stands on the pages, is valid and sound and has each used slot once is accepted by the walk: every test
-- passes, and no slot was listed before, since each is one node's.
use Rattle.std.proofs.Common.{◌≡◌, ℕ, zero, suc, ◌+◌, ◌<◌, ◌≤◌, true, false, List, [], map, length, Ok, sym, refl, subst, arith}
use Rattle.std.specs.List.{AllByRecursion}
use Rattle.std.proofs.ByRecursion.{All-weaker}
use Rattle.records.specs.Kind.{Kind, Lawful}
use Rattle.shape.specs.Shape.{Shape, least_children_of}
use Rattle.tree.specs.Entries.{Low, from, High, until}
use Rattle.tree.specs.Children.{Children, one, more, count, sum_of, EachIn}
use Rattle.tree.specs.Tree.{slot_sum}
use Rattle.layout.specs.Slots.{node_page_of, child_list, s_key_list}
use Rattle.layout.specs.Holds.{ByteTree, Each, NodesStand, ValidKey, ValidTree}
use Rattle.layout.specs.LeafPages.{ordered_below}
use Rattle.layout.specs.Nodes.{SlotChildren, is, weigh_list, times_in, listed_after}
use Rattle.layout.specs.Walk.{walk_children, walk}
use Rattle.layout.proofs.DTree.{dtree_accepted}
use Rattle.layout.proofs.NodePage.{TwoBytes}
use Rattle.layout.proofs.Nodes.{InnerNodeHeld, leaf_node_accepted, inner_node_accepted}
use Rattle.layout.proofs.SlotsListed.{AllBelow, weigh_listed, slots_pass, slots_below}
use Rattle.layout.proofs.Fits.{Fits}
use Rattle.layout.proofs.Children.{count_map, keys_map, ascend_map, slots_of, good_in_leaf, good_in_inner}
use Rattle.layout.proofs.Children.{node_with_slots, dtree_of, SoundHere}

-- a node's own slot is among those of its tree

pub own_slot : (x h : ℕ) (t : ByteTree h) → is x t.slot ≤ slot_sum (is x) h t
own_slot x zero t = omega arith
own_slot x (suc h) t = omega arith

pub own_slots :
    (x h : ℕ) (ts : Children (List ℕ) (ByteTree h)) → sum_of (is x) (slots_of ts) ≤ sum_of (slot_sum (is x) h) ts
own_slots x h (one t) = own_slot x h t
own_slots x h (more t sk ts) = omega (arith, own_slot x h t, own_slots x h ts)

pub two_bytes_lem : (used : ℕ) (cs : SlotChildren) → used ≤ 65536 → AllBelow used cs → TwoBytes cs
two_bytes_lem used cs l = All-weaker (λ x. x < used) (λ x. x < 65536) (λ x h. omega arith) (child_list cs)

module _ (kind : Kind) (law : Lawful kind) (shape : Shape) (page : ℕ → List ℕ) (used : ℕ) (fit : Fits kind shape)
    (few : used ≤ 65536) where
  pub record Accepted (h fewest : ℕ) (listed : List ℕ) (lo : Low (List ℕ)) (hi : High (List ℕ)) (t : ByteTree h)
      : Type 0 where
    pub out : List ℕ
    pub walked : walk kind shape page used h fewest listed lo hi t.slot ≡ Ok (t, out)
    pub weight : (w : ℕ → ℕ) → weigh_list w out + w t.slot ≡ weigh_list w listed + slot_sum w h t

  record ChildrenAccepted (h : ℕ) (listed : List ℕ) (lo : Low (List ℕ)) (hi : High (List ℕ))
      (ts : Children (List ℕ) (ByteTree h)) : Type 0 where
    pub out : List ℕ
    pub walked :
        walk_children (walk kind shape page used h (least_children_of shape)) listed lo hi (slots_of ts) ≡ Ok (ts, out)
    pub weight :
        (w : ℕ → ℕ) → weigh_list w out + sum_of w (slots_of ts) ≡ weigh_list w listed + sum_of (slot_sum w h) ts

  abbrev Accepting : ℕ → Type 0
  Accepting h =
      (fewest : ℕ) (listed : List ℕ) (lo : Low (List ℕ)) (hi : High (List ℕ)) (t : ByteTree h)
      → NodesStand kind shape page h t → ValidTree kind h t → SoundHere kind shape fewest h lo hi t
      → ((x : ℕ) → times_in x listed + slot_sum (is x) h t ≤ 1 + is x t.slot)
      → ((x : ℕ) → used ≤ x → slot_sum (is x) h t ≡ 0) → Accepted h fewest listed lo hi t

  children_accepted :
      (h : ℕ) → Accepting h → (listed : List ℕ) (lo : Low (List ℕ)) (hi : High (List ℕ))
      (ts : Children (List ℕ) (ByteTree h)) → Each (NodesStand kind shape page h) ts → Each (ValidTree kind h) ts
      → EachIn (SoundHere kind shape (least_children_of shape) h) lo hi ts
      → ((x : ℕ) → times_in x listed + sum_of (slot_sum (is x) h) ts ≤ 1 + sum_of (is x) (slots_of ts))
      → ((x : ℕ) → used ≤ x → sum_of (slot_sum (is x) h) ts ≡ 0) → ChildrenAccepted h listed lo hi ts
  unfolding walk_children
  children_accepted h ih listed lo hi (one t) st v so b c =
      let f = ih (least_children_of shape) listed lo hi t st v so b c in
      record { out = f.out; walked = rw f.walked; weight = f.weight }
  children_accepted h ih listed lo hi (more t sk ts) st v so b c =
      let f =
      ih (least_children_of shape) listed lo (until sk) t st.0 v.0 so.0
      (λ x. omega (arith, b x, own_slots x h ts)) (λ x l. omega (arith, c x l)) in
      let g =
      children_accepted h ih f.out (from sk) hi ts st.1 v.1 so.1
      (λ x. omega (arith, b x, f.weight (is x))) (λ x l. omega (arith, c x l)) in
      record {
        out = g.out;
        walked = rw (f.walked, g.walked);
        weight = λ w. omega (arith, f.weight w, g.weight w);
      }

  pub walk_accepts : (h : ℕ) → Accepting h
  unfolding walk
  walk_accepts zero fewest listed lo hi t st v so b c =
      let p = node_page_of shape t.slot in
      let n = length t.entries in
      let good = good_in_leaf kind t.entries v so.2 in
      let held = dtree_of kind shape page true hi lo t.slot [] [] t.entries st good so.0 in
      let dt =
      dtree_accepted kind shape.per_page page true hi law fit.some fit.few n lo (p + 1) t.entries held in
      let node = leaf_node_accepted kind shape page p n fit (record { node = st.node; few = so.1 }) in
      let e : walk kind shape page used zero fewest listed lo hi t.slot ≡ Ok (t, listed) = rw (node, dt) in
      record { out = listed; walked = e; weight = λ w. refl }
  walk_accepts (suc h) fewest listed lo hi t st v so b c =
      let p = node_page_of shape t.slot in
      let n = length t.entries in
      let ts = t.children in
      let cs = slots_of ts in
      let counted : count cs ≡ count ts = count_map (λ t. t.slot) ts in
      let low : AllBelow used cs = slots_below used cs (λ x l. omega (arith, c x l, own_slots x h ts)) in
      let fresh = slots_pass used listed cs low (λ x. omega (arith, b x, own_slots x h ts)) in
      let keys : s_key_list ts ≡ s_key_list cs = sym (keys_map (λ t. t.slot) ts) in
      let held : InnerNodeHeld kind shape page used fewest listed lo hi p cs n =
      record {
        node = node_with_slots n ts (page p) st.0.node;
        few = so.1;
        at_least = omega (arith, so.2);
        at_most = omega (arith, so.2);
        slots = fresh;
        valid = subst (λ x. AllByRecursion (ValidKey kind) x) keys v.1;
        ascend = ascend_map (λ t. t.slot) (ordered_below kind) lo hi ts so.3;
      } in
      let node =
      inner_node_accepted kind shape page used fewest listed lo hi p cs n law fit (two_bytes_lem used cs few low) held in
      let good = good_in_inner kind t.entries v.0 in
      let pages =
      dtree_of kind shape page false hi lo t.slot (map (λ t. t.slot) (child_list ts)) (s_key_list ts) t.entries
      st.0 good so.0 in
      let dt =
      dtree_accepted kind shape.per_page page false hi law fit.some fit.few n lo (p + 1) t.entries pages in
      let g =
      children_accepted h (walk_accepts h) (listed_after listed cs) lo hi ts st.1 v.2 so.4
      (λ x. omega (arith, b x, weigh_listed (is x) listed cs)) (λ x l. omega (arith, c x l)) in
      let e : walk kind shape page used (suc h) fewest listed lo hi t.slot ≡ Ok (t, g.out) =
      rw (node.0, node.1, dt, g.walked) in
      record { out = g.out; walked = e; weight = λ w. omega (arith, g.weight w, weigh_listed w listed cs) }
