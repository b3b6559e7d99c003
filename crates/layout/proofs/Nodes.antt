-- The inspection of a node page accepts exactly the pages of nodes that keep the rules: each test is one of them, and
-- page and node determine each other.
use Rattle.std.proofs.Common.{◌≡◌, ℕ, ◌+◌, ◌-◌, ◌*◌, ◌≤◌, true, ◌&&◌, eqb, leb, List, [], drop, Ok, ap, ◌∙◌, subst, mul-le-mul_right, arith}
use Rattle.std.specs.List.{AllByRecursion}
use Rattle.std.proofs.lemmas.Bool.{and_parts, and_from, eqb-true, eq-eqb, leb-true, le-leb}
use Rattle.records.specs.Kind.{Kind, Lawful}
use Rattle.shape.specs.Shape.{Shape}
use Rattle.tree.specs.Entries.{Low, High}
use Rattle.tree.specs.Children.{count, SKeysAscend}
use Rattle.layout.specs.Pages.{node_page}
use Rattle.layout.specs.Slots.{child_list, s_key_list}
use Rattle.layout.specs.Holds.{ValidKey}
use Rattle.layout.specs.Checked.{zeros}
use Rattle.layout.specs.LeafPages.{ordered_below}
use Rattle.layout.specs.Nodes.{SlotChildren, child_count_on, entry_count_on, children_on, good_slots, good_s_keys}
use Rattle.layout.specs.Nodes.{inspect_leaf_node, inspect_inner_node}
use Rattle.layout.specs.declared.faults.Rule.TheVariants.{ChildCount, EntryCount, ChildSlots, SKeys, NodeRest}
use Rattle.layout.proofs.Checked.{test_ok}
use Rattle.layout.proofs.DTree.{WholePage}
use Rattle.layout.proofs.NodePage.{length-children, TwoBytes, s_keys_are, s_keys_from, s_keys_long}
use Rattle.layout.proofs.NodePage.{inner_page, leaf_node_page, inner_read, leaf_node_read}
use Rattle.layout.proofs.Fits.{Fits}

module _ (kind : Kind) (shape : Shape) (page : ℕ → List ℕ) where
  -- page p is the node page of a leaf node with n entries
  pub record LeafNodeHeld (p n : ℕ) : Type 0 where
    pub node : page p ≡ node_page [] [] n
    pub few : n ≤ shape.capacity

  pub leaf_node_holds :
      (p n : ℕ) → WholePage page p → inspect_leaf_node kind shape page p ≡ Ok n → LeafNodeHeld p n
  unfolding inspect_leaf_node
  leaf_node_holds p n here e =
      let s = entry_count_on (page p) in
      let t2 = test_ok (eqb (child_count_on (page p)) 0) p ChildCount _ n e in
      let t3 = test_ok (leb s shape.capacity) p EntryCount _ n t2.1 in
      let t6 = test_ok (zeros (drop 3 (page p))) p NodeRest (Ok s) n t3.1 in
      let same : s ≡ n = cc t6.1 in
      let none = eqb-true (child_count_on (page p)) 0 t2.0 in
      record {
        node = leaf_node_page (page p) here.long here.bytes none t6.0 ∙ ap (node_page [] []) same;
        few = omega (arith, leb-true s shape.capacity t3.0);
      }

  pub leaf_node_accepted :
      (p n : ℕ) → Fits kind shape → LeafNodeHeld p n → inspect_leaf_node kind shape page p ≡ Ok n
  unfolding inspect_leaf_node
  leaf_node_accepted p n fit h =
      let r = leaf_node_read n (page p) (omega (arith, h.few, fit.few_entries)) h.node in
      let t2 : eqb (child_count_on (page p)) 0 ≡ true = eq-eqb (child_count_on (page p)) 0 r.counted in
      let t3 : leb n shape.capacity ≡ true = le-leb n shape.capacity h.few in
      rw (t2, r.entries, t3, r.rest)

  module _ (used fewest : ℕ) (listed : List ℕ) (lo : Low (List ℕ)) (hi : High (List ℕ)) where
    -- page p is the node page of an inner node with these children and n entries
    pub record InnerNodeHeld (p : ℕ) (cs : SlotChildren) (n : ℕ) : Type 0 where
      pub node : page p ≡ node_page (child_list cs) (s_key_list cs) n
      pub few : n ≤ shape.capacity
      pub at_least : fewest ≤ count cs
      pub at_most : count cs ≤ shape.fanout
      pub slots : good_slots used listed cs ≡ true
      pub valid : AllByRecursion (ValidKey kind) (s_key_list cs)
      pub ascend : SKeysAscend (ordered_below kind) lo hi cs

    children_counted :
        (bytes : List ℕ) (cs : SlotChildren) (n : ℕ) → bytes ≡ node_page (child_list cs) (s_key_list cs) n
        → child_count_on bytes ≡ count cs
    unfolding node_page
    children_counted bytes cs n e = ap child_count_on e ∙ length-children cs

    pub inner_node_holds :
        (p : ℕ) (cs : SlotChildren) → Fits kind shape → WholePage page p → 1 ≤ fewest
        → inspect_inner_node kind shape page used fewest listed lo hi p ≡ Ok cs
        → InnerNodeHeld p cs (entry_count_on (page p))
    unfolding inspect_inner_node
    inner_node_holds p cs fit here some e =
        let w = kind.key_width in
        let n = entry_count_on (page p) in
        let c = child_count_on (page p) in
        let on = children_on w (page p) in
        let t2 = test_ok (leb fewest c && leb c shape.fanout) p ChildCount _ cs e in
        let t3 = test_ok (leb n shape.capacity) p EntryCount _ cs t2.1 in
        let t4 = test_ok (good_slots used listed on) p ChildSlots _ cs t3.1 in
        let t5 = test_ok (good_s_keys kind lo hi on) p SKeys _ cs t4.1 in
        let t6 = test_ok (zeros (drop (3 + 2 * c + (c - 1) * w) (page p))) p NodeRest (Ok on) cs t5.1 in
        let same : on ≡ cs = cc t6.1 in
        let bounds = and_parts (leb fewest c) (leb c shape.fanout) t2.0 in
        let c1 : fewest ≤ c = leb-true fewest c bounds.0 in
        let c2 : c ≤ shape.fanout = leb-true c shape.fanout bounds.1 in
        let room = mul-le-mul_right {m = c - 1} {n = shape.fanout} w (omega arith) in
        let node : page p ≡ node_page (child_list on) (s_key_list on) n =
        inner_page (page p) here.long here.bytes w (omega arith) (omega (arith, fit.node_room)) t6.0 in
        let counted : c ≡ count on = children_counted (page p) on n node in
        let keys = s_keys_are kind lo hi on t5.0 in
        subst (λ x. InnerNodeHeld p x n) same (record {
          node = node;
          few = leb-true n shape.capacity t3.0;
          at_least = omega arith;
          at_most = omega arith;
          slots = t4.0;
          valid = keys.0;
          ascend = keys.1;
        })

    pub inner_node_accepted :
        (p : ℕ) (cs : SlotChildren) (n : ℕ) → Lawful kind → Fits kind shape → TwoBytes cs → InnerNodeHeld p cs n
        → (inspect_inner_node kind shape page used fewest listed lo hi p ≡ Ok cs) × (entry_count_on (page p) ≡ n)
    unfolding inspect_inner_node
    inner_node_accepted p cs n law fit small h =
        let w = kind.key_width in
        let c = child_count_on (page p) in
        let long = s_keys_long kind law cs h.valid in
        let r = inner_read w cs n (page p) small long (omega (arith, h.few, fit.few_entries)) h.node in
        let t2 : (leb fewest c && leb c shape.fanout) ≡ true =
        and_from _ _ (le-leb fewest c (omega (arith, r.counted, h.at_least)))
        (le-leb c shape.fanout (omega (arith, r.counted, h.at_most))) in
        let t3 : leb n shape.capacity ≡ true = le-leb n shape.capacity h.few in
        let t5 : good_s_keys kind lo hi cs ≡ true = s_keys_from kind lo hi cs h.valid h.ascend in
        (rw (t2, r.entries, t3, r.children, h.slots, t5, r.rest), r.entries)
