-- What an accepted walk has found stands on the pages, is valid and sound, and each slot listed was new: by induction
-- on the height, the slots listed being counted by one equation for any weight of slots.
use Rattle.std.proofs.Common.{◌≡◌, ℕ, zero, suc, ◌+◌, ◌*◌, ◌<◌, ◌≤◌, true, false, List, [], map, length, Ok, sym, refl, ap, ◌∙◌, subst, mul-le-mul_right, suc-mul, arith}
use Rattle.std.specs.List.{AllByRecursion}
use Rattle.records.specs.Kind.{Kind}
use Rattle.shape.specs.Shape.{Shape, ceiling, slot_pages_of, least_children_of}
use Rattle.tree.specs.Entries.{Low, from, High, until}
use Rattle.tree.specs.Children.{Children, one, more, count, sum_of, SKeysAscend, EachIn}
use Rattle.tree.specs.Tree.{slot_sum}
use Rattle.layout.specs.Pages.{ByteEntry, node_page}
use Rattle.layout.specs.Slots.{node_page_of, head_page_of, child_list, s_key_list}
use Rattle.layout.specs.Holds.{ByteTree, Each, NodesStand, ValidKey, ValidTree}
use Rattle.layout.specs.LeafPages.{ordered_below, inspect_d_tree}
use Rattle.layout.specs.Nodes.{SlotChildren, entry_count_on, weigh_list, times_in, listed_after}
use Rattle.layout.specs.Nodes.{inspect_leaf_node, inspect_inner_node}
use Rattle.layout.specs.Walk.{walk_children, walk}
use Rattle.layout.proofs.Checked.{then_ok}
use Rattle.layout.proofs.LeafPage.{good_valid}
use Rattle.layout.proofs.DTree.{WholePage, DTreeHeld, dtree_holds}
use Rattle.layout.proofs.Nodes.{InnerNodeHeld, leaf_node_holds, inner_node_holds}
use Rattle.layout.proofs.SlotsListed.{AllBelow, listed_below, listed_once, listed_only, weigh_listed}
use Rattle.layout.proofs.Fits.{Fits}
use Rattle.layout.proofs.Children.{count_map, list_map, keys_map, ascend_unmap, slots_of, no_tombstones, slot_holds}
use Rattle.layout.proofs.Children.{SoundHere}

module _ (kind : Kind) (shape : Shape) (page : ℕ → List ℕ) (used : ℕ) where
  -- what an accepted walk gives
  pub record Walked (h fewest : ℕ) (listed : List ℕ) (lo : Low (List ℕ)) (hi : High (List ℕ)) (slot : ℕ)
      (t : ByteTree h) (out : List ℕ) : Type 0 where
    pub at : t.slot ≡ slot
    pub stands : NodesStand kind shape page h t
    pub valid : ValidTree kind h t
    pub sound : SoundHere kind shape fewest h lo hi t
    pub weight : (w : ℕ → ℕ) → weigh_list w out + w slot ≡ weigh_list w listed + slot_sum w h t
    pub once : (x : ℕ) → times_in x listed ≤ 1 → times_in x out ≤ 1
    pub only : (x : ℕ) → used ≤ x → times_in x listed ≡ 0 → times_in x out ≡ 0

  record ChildrenWalked (h : ℕ) (listed : List ℕ) (lo : Low (List ℕ)) (hi : High (List ℕ)) (cs : SlotChildren)
      (ts : Children (List ℕ) (ByteTree h)) (out : List ℕ) : Type 0 where
    pub at : slots_of ts ≡ cs
    pub stand : Each (NodesStand kind shape page h) ts
    pub valid : Each (ValidTree kind h) ts
    pub sound : EachIn (SoundHere kind shape (least_children_of shape) h) lo hi ts
    pub weight : (w : ℕ → ℕ) → weigh_list w out + sum_of w cs ≡ weigh_list w listed + sum_of (slot_sum w h) ts
    pub once : (x : ℕ) → times_in x listed ≤ 1 → times_in x out ≤ 1
    pub only : (x : ℕ) → used ≤ x → times_in x listed ≡ 0 → times_in x out ≡ 0

  abbrev Holding : ℕ → Type 0
  Holding h =
      (fewest : ℕ) → 1 ≤ fewest → (listed : List ℕ) (lo : Low (List ℕ)) (hi : High (List ℕ)) (slot : ℕ)
      (r : ByteTree h × List ℕ) → slot < used → walk kind shape page used h fewest listed lo hi slot ≡ Ok r
      → Walked h fewest listed lo hi slot r.0 r.1

  children_hold :
      (h : ℕ) → 1 ≤ least_children_of shape → Holding h
      → (listed : List ℕ) (lo : Low (List ℕ)) (hi : High (List ℕ)) (cs : SlotChildren)
      (r : Children (List ℕ) (ByteTree h) × List ℕ) → AllBelow used cs
      → walk_children (walk kind shape page used h (least_children_of shape)) listed lo hi cs ≡ Ok r
      → ChildrenWalked h listed lo hi cs r.0 r.1
  unfolding walk_children
  children_hold h some ih listed lo hi (one x) r b e =
      let u = least_children_of shape in
      let a = then_ok (walk kind shape page used h u listed lo hi x) (λ r. Ok (one r.0, r.1)) r e in
      let q = a.0 in
      let same : (one q.0, q.1) ≡ r = cc a.2 in
      let c = ih u some listed lo hi x q b.0 a.1 in
      subst (λ r. ChildrenWalked h listed lo hi (one x) r.0 r.1) same (record {
        at = ap one c.at;
        stand = c.stands;
        valid = c.valid;
        sound = c.sound;
        weight = c.weight;
        once = c.once;
        only = c.only;
      })
  children_hold h some ih listed lo hi (more x sk cs) r b e =
      let u = least_children_of shape in
      let visit = walk kind shape page used h u in
      let a = then_ok (visit listed lo (until sk) x) _ r e in
      let q = a.0 in
      let d = then_ok (walk_children visit q.1 (from sk) hi cs) (λ p. Ok (more q.0 sk p.0, p.1)) r a.2 in
      let p = d.0 in
      let same : (more q.0 sk p.0, p.1) ≡ r = cc d.2 in
      let c = ih u some listed lo (until sk) x q b.0 a.1 in
      let g = children_hold h some ih q.1 (from sk) hi cs p b.1 d.1 in
      subst (λ r. ChildrenWalked h listed lo hi (more x sk cs) r.0 r.1) same (record {
        at = (let u = c.at in let v = g.at in cc);
        stand = (c.stands, g.stand);
        valid = (c.valid, g.valid);
        sound = (c.sound, g.sound);
        weight = λ w. omega (arith, c.weight w, g.weight w);
        once = λ y l. g.once y (c.once y l);
        only = λ y u n. g.only y u (c.only y u n);
      })

  -- an inner node above children that were walked
  inner_walked :
      (h fewest : ℕ) (listed : List ℕ) (lo : Low (List ℕ)) (hi : High (List ℕ)) (slot : ℕ) (cs : SlotChildren)
      (es : List ByteEntry) (ts : Children (List ℕ) (ByteTree h)) (out : List ℕ)
      → InnerNodeHeld kind shape page used fewest listed lo hi (node_page_of shape slot) cs
      (entry_count_on (page (node_page_of shape slot)))
      → DTreeHeld kind shape.per_page page false hi (entry_count_on (page (node_page_of shape slot))) lo
      (head_page_of shape slot) es
      → ChildrenWalked h (listed_after listed cs) lo hi cs ts out
      → Walked (suc h) fewest listed lo hi slot (record { slot = slot; entries = es; children = ts }) out
  inner_walked h fewest listed lo hi slot cs es ts out node dt kw =
      let p = node_page_of shape slot in
      let n = entry_count_on (page p) in
      let le : length es ≡ n = dt.count in
      let dt' = subst (λ j. DTreeHeld kind shape.per_page page false hi j lo (p + 1) es) (sym le) dt in
      let ct : count ts ≡ count cs = sym (count_map (λ t. t.slot) ts) ∙ ap count kw.at in
      let slots : child_list cs ≡ map (λ t. t.slot) (child_list ts) =
      ap child_list (sym kw.at) ∙ list_map (λ t. t.slot) ts in
      let keys : s_key_list cs ≡ s_key_list ts = ap s_key_list (sym kw.at) ∙ keys_map (λ t. t.slot) ts in
      let low = listed_below used listed cs node.slots in
      record {
        at = refl;
        stands = (
          slot_holds kind shape page false hi lo slot (map (λ t. t.slot) (child_list ts)) (s_key_list ts) es
              (node.node ∙ ap (λ x. node_page x (s_key_list cs) n) slots
              ∙ ap (λ x. node_page (map (λ t. t.slot) (child_list ts)) x n) keys
              ∙ ap (node_page (map (λ t. t.slot) (child_list ts)) (s_key_list ts)) (sym le)) dt',
          kw.stand,
        );
        valid = (
          good_valid kind false es dt.good,
          subst (λ x. AllByRecursion (ValidKey kind) x) keys node.valid,
          kw.valid,
        );
        sound = (
          dt.ascending,
          omega (arith, node.few),
          (omega (arith, node.at_least), omega (arith, node.at_most)),
          ascend_unmap (λ t. t.slot) (ordered_below kind) lo hi ts
              (subst (λ x. SKeysAscend (ordered_below kind) lo hi x) (sym kw.at) node.ascend),
          kw.sound,
        );
        weight = λ w. omega (arith, kw.weight w, weigh_listed w listed cs);
        once = λ x l. kw.once x (listed_once used listed cs node.slots x l);
        only = λ x u n. kw.only x u (listed_only used listed cs low x u n);
      }

  module _ (fit : Fits kind shape) (pages : (q : ℕ) → q ≤ used * slot_pages_of shape → WholePage page q) where
    -- the pages of a used slot are there
    slot_pages :
        (slot n : ℕ) → slot < used → n ≤ shape.capacity
        → (q : ℕ) → q < node_page_of shape slot + 2 + ceiling n shape.per_page → WholePage page q
    unfolding node_page_of
    slot_pages slot n h l q u =
        let a = mul-le-mul_right {m = suc slot} {n = used} (slot_pages_of shape) h in
        pages q (omega (arith, suc-mul slot (slot_pages_of shape), fit.slot_room n l))

    pub walk_holds : (h : ℕ) → Holding h
    unfolding walk
    walk_holds zero fewest sm listed lo hi slot r b e =
        let E = shape.per_page in
        let p = node_page_of shape slot in
        let a = then_ok (inspect_leaf_node kind shape page p) _ r e in
        let n = a.0 in
        let d =
        then_ok (inspect_d_tree kind E page true hi n lo (p + 1))
        (λ es. Ok (record { slot = slot; entries = es; children = tt }, listed)) r a.2 in
        let es = d.0 in
        let same : (record { slot = slot; entries = es; children = tt }, listed) ≡ r = cc d.2 in
        let node = leaf_node_holds kind shape page p n (slot_pages slot 0 b (omega arith) p (omega arith)) a.1 in
        let dt : DTreeHeld kind E page true hi n lo (p + 1) es =
        dtree_holds kind E page true hi fit.leaf_room fit.some n lo (p + 1) es (fit.head_room n node.few)
        (λ q l u. slot_pages slot n b node.few q (omega arith)) d.1 in
        let c : length es ≡ n = dt.count in
        let dt' = subst (λ j. DTreeHeld kind E page true hi j lo (p + 1) es) (sym c) dt in
        subst (λ r. Walked zero fewest listed lo hi slot r.0 r.1) same (record {
          at = refl;
          stands = slot_holds kind shape page true hi lo slot [] [] es (node.node ∙ ap (node_page [] []) (sym c)) dt';
          valid = good_valid kind true es dt.good;
          sound = (dt.ascending, omega (arith, node.few), no_tombstones kind es dt.good);
          weight = λ w. refl;
          once = λ x l. l;
          only = λ x u n. n;
        })
    walk_holds (suc h) fewest sm listed lo hi slot r b e =
        let E = shape.per_page in
        let u = least_children_of shape in
        let p = node_page_of shape slot in
        let n = entry_count_on (page p) in
        let a = then_ok (inspect_inner_node kind shape page used fewest listed lo hi p) _ r e in
        let cs = a.0 in
        let d = then_ok (inspect_d_tree kind E page false hi n lo (p + 1)) _ r a.2 in
        let es = d.0 in
        let g =
        then_ok (walk_children (walk kind shape page used h u) (listed_after listed cs) lo hi cs)
        (λ q. Ok (record { slot = slot; entries = es; children = q.0 }, q.1)) r d.2 in
        let q = g.0 in
        let same : (record { slot = slot; entries = es; children = q.0 }, q.1) ≡ r = cc g.2 in
        let here = slot_pages slot 0 b (omega arith) p (omega arith) in
        let node = inner_node_holds kind shape page used fewest listed lo hi p cs fit here sm a.1 in
        let dt =
        dtree_holds kind E page false hi fit.leaf_room fit.some n lo (p + 1) es (fit.head_room n node.few)
        (λ q l u. slot_pages slot n b node.few q (omega arith)) d.1 in
        let low = listed_below used listed cs node.slots in
        let some : 1 ≤ least_children_of shape = omega (arith, fit.some_children) in
        let kw = children_hold h some (walk_holds h) (listed_after listed cs) lo hi cs q low g.1 in
        subst (λ r. Walked (suc h) fewest listed lo hi slot r.0 r.1) same
        (inner_walked h fewest listed lo hi slot cs es q.0 q.1 node dt kw)
