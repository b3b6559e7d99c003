-- The walk over the nodes, step by step: what the parts of a node told, and what the walk therefore ends with.
use Rattle.std.proofs.Common.{◌≡◌, ℕ, zero, suc, ◌+◌, ◌-◌, ◌*◌, ◌<◌, ◌≤◌, true, false, ◌&&◌, leb, List, length, take, drop, Ok, Err, Result, sym, ap, ◌∙◌, subst, mul-le-mul_right, suc-mul, mul-add, arith}
use Rattle.std.proofs.lemmas.List.{length-drop, take_rest}
use Rattle.records.specs.Bytes.{word}
use Rattle.records.specs.Kind.{Kind}
use Rattle.stores.specs.Store.{StoreState, touched_once}
use Rattle.shape.proofs.Ceilings.{ceiling_more}
use Rattle.shape.specs.Shape.{Shape, ceiling, slot_pages_of, least_children_of}
use Rattle.tree.specs.Entries.{Low, from, High, until}
use Rattle.tree.specs.Children.{Children, one, more, sum_of}
use Rattle.layout.specs.Pages.{ByteEntry}
use Rattle.layout.specs.Slots.{node_page_of, head_page_of}
use Rattle.layout.specs.Holds.{ByteTree}
use Rattle.layout.specs.Checked.{Checked, test, then, zeros}
use Rattle.layout.specs.LeafPages.{inspect_d_tree}
use Rattle.layout.specs.Nodes.{
  SlotChildren,
  child_count_on,
  entry_count_on,
  children_from,
  children_on,
  good_slots,
  good_s_keys,
  listed_after,
  inspect_leaf_node,
  inspect_inner_node,
}
use Rattle.layout.specs.Walk.{walk, walk_children}
use Rattle.layout.specs.declared.faults.PageFault.{PageFault}
use Rattle.layout.specs.declared.faults.Rule.TheVariants.{ChildCount, EntryCount, ChildSlots, SKeys, NodeRest}
use Rattle.inspect.specs.declared.listed.Listed.{Listed}
use Rattle.inspect.specs.Bounds.{told}
use Rattle.inspect.specs.Listed.{Lists, SlotsBelow}
use Rattle.stores.specs.Looked.{Looked}
use Rattle.inspect.specs.Walked.{nodes_of, nodes_of_all, Ended}
use Rattle.inspect.proofs.LeafPagesTold.{told_test, four_tests}
use Rattle.inspect.proofs.NodeTold.{children_one, children_more, keys_part, keys_room}
use Rattle.stores.proofs.Looking.{looked_more, looked_once, looked_then}

-- the pages of a used slot are there
pub slot_fits : (slot used W pages : ℕ) → slot < used → used * W < pages → 1 + slot * W + W ≤ pages
slot_fits slot used W pages lt h =
    omega (arith, mul-le-mul_right {m = suc slot} {n = used} W (omega arith), suc-mul slot W)

-- what is told
pub told_err : {A : Type 0} (x : Checked A) (e : PageFault) → Err e ≡ told x → x ≡ Err e
told_err (Ok a) e h = let z : ◌≡◌ {A = ℕ} 0 1 = cc in absurd (omega arith)
told_err (Err f) e h = let q : f ≡ e = cc in ap Err q

module _ {A : Type 0} (W : ℕ) (nodes : A → ℕ) (r : Result Unit PageFault) (l : Listed) (a b : StoreState) where
  pub ended_is : (x y : Checked (A × List ℕ)) → x ≡ y → Ended W nodes x r l a b → Ended W nodes y r l a b
  ended_is x y e h = subst (λ z. Ended W nodes z r l a b) e h

  pub ended_err : (x : Checked (A × List ℕ)) (e : PageFault) → x ≡ Err e → r ≡ Err e → Ended W nodes x r l a b
  ended_err x e is h = subst (λ z. Ended W nodes z r l a b) (sym is) h

-- children: the last one, or the first and then the others
module _ {Y : Type 0} (W : ℕ) (nodes : Y → ℕ) where
  one_ended :
      (x : Checked (Y × List ℕ)) (r : Result Unit PageFault) (l : Listed) (a b : StoreState)
      → Ended W nodes x r l a b → Ended W (sum_of {K = List ℕ} nodes) (then x (λ v. Ok (one v.0, v.1))) r l a b
  one_ended (Ok found) r l a b h = h
  one_ended (Err e) r l a b h = h

  rest_ended :
      (first : Y) (sk : List ℕ) (y : Checked (Children (List ℕ) Y × List ℕ)) (r : Result Unit PageFault) (l : Listed)
      (a m b : StoreState) → Looked a (W * nodes first) m → Ended W (sum_of nodes) y r l m b
      → Ended W (sum_of nodes) (then y (λ q. Ok (more first sk q.0, q.1))) r l a b
  rest_ended first sk (Ok found) r l a m b look h = (
    h.0,
    h.1,
    looked_then a m b (W * nodes first) (W * sum_of nodes found.0) _ look h.2
        (omega (arith, mul-add W (nodes first) (sum_of nodes found.0))),
  )
  rest_ended first sk (Err e) r l a m b look h = h

  abbrev more_of :
      List ℕ → (List ℕ → Checked (Children (List ℕ) Y × List ℕ)) → Checked (Y × List ℕ)
      → Checked (Children (List ℕ) Y × List ℕ)
  more_of sk rest x = then x (λ v. then (rest v.1) (λ q. Ok (more v.0 sk q.0, q.1)))

  first_broken :
      (sk : List ℕ) (rest : List ℕ → Checked (Children (List ℕ) Y × List ℕ)) (x : Checked (Y × List ℕ)) (e : PageFault)
      (r : Result Unit PageFault) (l : Listed) (a b : StoreState) → r ≡ Err e → Ended W nodes x (Err e) l a b
      → Ended W (sum_of nodes) (more_of sk rest x) r l a b
  first_broken sk rest (Ok found) e r l a b is h =
      let k = h.0 in let z : ◌≡◌ {A = ℕ} 0 1 = cc in absurd (omega arith)
  first_broken sk rest (Err f) e r l a b is h = is ∙ h

  first_good :
      (sk : List ℕ) (rest : List ℕ → Checked (Children (List ℕ) Y × List ℕ)) (x : Checked (Y × List ℕ))
      (r : Result Unit PageFault) (l n : Listed) (a m b : StoreState) → Ended W nodes x (Ok tt) l a m
      → ((before : List ℕ) → Lists l before → Ended W (sum_of nodes) (rest before) r n m b)
      → Ended W (sum_of nodes) (more_of sk rest x) r n a b
  first_good sk rest (Ok found) r l n a m b h next =
      rest_ended found.0 sk (rest found.1) r n a m b h.2 (next found.1 h.1)
  first_good sk rest (Err e) r l n a m b h next = let z : ◌≡◌ {A = ℕ} 0 1 = cc in absurd (omega arith)

pub below_first :
    (used w n : ℕ) (slots keys : List ℕ) → SlotsBelow used (children_from w n slots keys) → word (take 2 slots) < used
unfolding children_from
below_first used w zero slots keys h = h
below_first used w (suc n) slots keys h = h.0

pub below_rest :
    (used w n : ℕ) (slots keys : List ℕ) → 1 ≤ n → SlotsBelow used (children_from w n slots keys)
    → SlotsBelow used (children_from w (n - 1) (drop 2 slots) (drop w keys))
below_rest used w n slots keys some h = (subst (SlotsBelow used) (children_more w n slots keys some) h).1

-- the parts that the code hands on for the children after the first
pub rest_children :
    (w x n : ℕ) (slots keys : List ℕ) → x ≡ w
    → children_from w n (take (length slots - 2) (drop 2 slots)) (take (length keys - x) (drop x keys))
    ≡ children_from w n (drop 2 slots) (drop w keys)
rest_children w x n slots keys e =
    ap (λ bs. children_from w n bs (take (length keys - x) (drop x keys))) (take_rest slots 2)
    ∙ ap (children_from w n (drop 2 slots)) (take_rest keys x ∙ ap (λ i. drop i keys) e)

-- the children on a node page, from the parts that the code takes of it
pub page_children :
    (w : ℕ) (page rest : List ℕ) (c : ℕ) → c ≡ child_count_on page → rest ≡ drop 3 page
    → children_from w (c - 1) rest (take (length rest - 2 * c) (drop (2 * c) rest)) ≡ children_on w page
page_children w page rest c count e =
    ap (children_from w (c - 1) rest) (keys_part page rest c e)
    ∙ ap (λ bs. children_from w (c - 1) bs (drop (3 + 2 * c) page)) e
    ∙ ap (λ n. children_from w (n - 1) (drop 3 page) (drop (3 + 2 * n) page)) count

module _
    (kind : Kind) (shape : Shape) (page : ℕ → List ℕ) (used h : ℕ) (before : List ℕ) (lo : Low (List ℕ))
    (hi : High (List ℕ)) (n : ℕ) (slots keys : List ℕ) where
  abbrev pub children_walk : Checked (Children (List ℕ) (ByteTree h) × List ℕ)
  children_walk =
      walk_children (walk kind shape page used h (least_children_of shape)) before lo hi
      (children_from kind.key_width n slots keys)

  -- the last child is walked
  pub last_ended :
      (fewest slot : ℕ) (r : Result Unit PageFault) (l : Listed) (a b : StoreState) → n ≡ 0
      → fewest ≡ least_children_of shape → word (take 2 slots) ≡ slot
      → Ended (slot_pages_of shape) (nodes_of h) (walk kind shape page used h fewest before lo hi slot) r l a b
      → Ended (slot_pages_of shape) (nodes_of_all h) children_walk r l a b
  unfolding walk_children
  last_ended fewest slot r l a b z few is e =
      let W = slot_pages_of shape in
      let same : walk kind shape page used h fewest before lo hi slot
      ≡ walk kind shape page used h (least_children_of shape) before lo hi (word (take 2 slots)) =
      ap (λ f. walk kind shape page used h f before lo hi slot) few
      ∙ ap (walk kind shape page used h (least_children_of shape) before lo hi) (sym is) in
      subst (λ cs. Ended W (nodes_of_all h)
      (walk_children (walk kind shape page used h (least_children_of shape)) before lo hi cs) r l a b)
      (sym (children_one kind.key_width n slots keys z))
      (one_ended W (nodes_of h) _ r l a b (ended_is W (nodes_of h) r l a b _ _ same e))

  first_same :
      (fewest slot x : ℕ) → fewest ≡ least_children_of shape → word (take 2 slots) ≡ slot → x ≡ kind.key_width
      → walk kind shape page used h fewest before lo (until (take x keys)) slot
      ≡ walk kind shape page used h (least_children_of shape) before lo (until (take kind.key_width keys))
      (word (take 2 slots))
  first_same fewest slot x few is wide =
      ap (λ f. walk kind shape page used h f before lo (until (take x keys)) slot) few
      ∙ ap (λ i. walk kind shape page used h (least_children_of shape) before lo (until (take i keys)) slot) wide
      ∙ ap (walk kind shape page used h (least_children_of shape) before lo (until (take kind.key_width keys))) (sym is)

  -- the first of several children broke a rule
  pub child_broken :
      (fewest slot x : ℕ) (e : PageFault) (r : Result Unit PageFault) (l : Listed) (a b : StoreState) → 1 ≤ n
      → fewest ≡ least_children_of shape → word (take 2 slots) ≡ slot → x ≡ kind.key_width → r ≡ Err e
      → Ended (slot_pages_of shape) (nodes_of h)
      (walk kind shape page used h fewest before lo (until (take x keys)) slot) (Err e) l a b
      → Ended (slot_pages_of shape) (nodes_of_all h) children_walk r l a b
  unfolding walk_children
  child_broken fewest slot x e r l a b some few is wide q d =
      let W = slot_pages_of shape in
      let w = kind.key_width in
      subst (λ cs. Ended W (nodes_of_all h)
      (walk_children (walk kind shape page used h (least_children_of shape)) before lo hi cs) r l a b)
      (sym (children_more w n slots keys some))
      (first_broken W (nodes_of h) (take w keys)
      (λ listed. walk_children (walk kind shape page used h (least_children_of shape)) listed (from (take w keys)) hi
      (children_from w (n - 1) (drop 2 slots) (drop w keys)))
      _ e r l a b q
      (ended_is W (nodes_of h) (Err e) l a b _ _ (first_same fewest slot x few is wide) d))

  -- the first of several children is good, and the others are walked
  pub child_good :
      (fewest slot x : ℕ) (pages : ℕ → List ℕ) (r : Result Unit PageFault) (l m : Listed) (a s b : StoreState) → 1 ≤ n
      → fewest ≡ least_children_of shape → word (take 2 slots) ≡ slot → x ≡ kind.key_width → pages ≡ page
      → Ended (slot_pages_of shape) (nodes_of h)
      (walk kind shape page used h fewest before lo (until (take x keys)) slot) (Ok tt) l a s
      → ((listed : List ℕ) → Lists l listed → Ended (slot_pages_of shape) (nodes_of_all h)
      (walk_children (walk kind shape pages used h (least_children_of shape)) listed (from (take x keys)) hi
      (children_from kind.key_width (n - 1) (take (length slots - 2) (drop 2 slots))
      (take (length keys - x) (drop x keys)))) r m s b)
      → Ended (slot_pages_of shape) (nodes_of_all h) children_walk r m a b
  unfolding walk_children
  child_good fewest slot x pages r l m a s b some few is wide same d next =
      let W = slot_pages_of shape in
      let w = kind.key_width in
      let rest : (ℕ → List ℕ) → ℕ → List ℕ → SlotChildren → Checked (Children (List ℕ) (ByteTree h) × List ℕ) =
      λ pg i listed cs.
      walk_children (walk kind shape pg used h (least_children_of shape)) listed (from (take i keys)) hi cs in
      let given : SlotChildren = children_from w (n - 1) (take (length slots - 2) (drop 2 slots))
      (take (length keys - x) (drop x keys)) in
      let others : SlotChildren = children_from w (n - 1) (drop 2 slots) (drop w keys) in
      let go : (listed : List ℕ) → rest pages x listed given ≡ rest page w listed others = λ listed.
      ap (λ pg. rest pg x listed given) same ∙ ap (λ i. rest page i listed given) wide
      ∙ ap (rest page w listed) (rest_children w x (n - 1) slots keys wide) in
      subst (λ cs. Ended W (nodes_of_all h)
      (walk_children (walk kind shape page used h (least_children_of shape)) before lo hi cs) r m a b)
      (sym (children_more w n slots keys some))
      (first_good W (nodes_of h) (take w keys) (λ listed. rest page w listed others)
      _ r l m a s b
      (ended_is W (nodes_of h) (Ok tt) l a s _ _ (first_same fewest slot x few is wide) d)
      (λ listed lists. ended_is W (nodes_of_all h) r m s b _ _ (go listed) (next listed lists)))

-- a node
module _
    (kind : Kind) (shape : Shape) (page : ℕ → List ℕ) (used fewest : ℕ) (before : List ℕ) (lo : Low (List ℕ))
    (hi : High (List ℕ)) (slot : ℕ) where
  abbrev W : ℕ
  W = slot_pages_of shape

  abbrev leaf_of : Checked (List ByteEntry) → Checked (ByteTree 0 × List ℕ)
  leaf_of d = then d (λ es. Ok (record { slot = slot; entries = es; children = tt }, before))

  leaf_of_lem :
      (d : Checked (List ByteEntry)) (r : Result Unit PageFault) (l : Listed) (a b : StoreState) → r ≡ told d
      → Lists l before → Looked a W b → Ended W (nodes_of 0) (leaf_of d) r l a b
  leaf_of_lem (Ok es) r l a b is lists look = (is, lists, looked_more a b W _ look (omega arith))
  leaf_of_lem (Err e) r l a b is lists look = is

  pub leaf_broken :
      (h p : ℕ) (e : PageFault) (r : Result Unit PageFault) (l : Listed) (a b : StoreState) → h ≡ 0
      → p ≡ node_page_of shape slot → Err e ≡ inspect_leaf_node kind shape page p → r ≡ Err e
      → Ended W (nodes_of h) (walk kind shape page used h fewest before lo hi slot) r l a b
  unfolding walk
  leaf_broken (suc h) p e r l a b z at is q = absurd (omega arith)
  leaf_broken zero p e r l a b z at is q =
      let k : inspect_leaf_node kind shape page (node_page_of shape slot) ≡ Err e =
      sym (is ∙ ap (inspect_leaf_node kind shape page) at) in
      let x : walk kind shape page used 0 fewest before lo hi slot ≡ Err e = rw k in
      ended_err W (nodes_of 0) r l a b _ e x q

  pub leaf_ended :
      (h p n : ℕ) (pages : ℕ → List ℕ) (r : Result Unit PageFault) (l : Listed) (a b : StoreState) → h ≡ 0
      → p ≡ node_page_of shape slot → pages ≡ page → Ok n ≡ inspect_leaf_node kind shape page p
      → r ≡ told (inspect_d_tree kind shape.per_page pages true hi n lo (p + 1)) → Lists l before → Looked a W b
      → Ended W (nodes_of h) (walk kind shape page used h fewest before lo hi slot) r l a b
  unfolding walk
  leaf_ended (suc h) p n pages r l a b z at same is q lists look = absurd (omega arith)
  leaf_ended zero p n pages r l a b z at same is q lists look =
      let k : inspect_leaf_node kind shape page (node_page_of shape slot) ≡ Ok n =
      sym (is ∙ ap (inspect_leaf_node kind shape page) at) in
      let d = inspect_d_tree kind shape.per_page page true hi n lo (head_page_of shape slot) in
      let x : walk kind shape page used 0 fewest before lo hi slot ≡ leaf_of d = rw k in
      let v : inspect_d_tree kind shape.per_page pages true hi n lo (p + 1) ≡ d =
      ap (λ g. inspect_d_tree kind shape.per_page g true hi n lo (p + 1)) same
      ∙ ap (λ i. inspect_d_tree kind shape.per_page page true hi n lo (i + 1)) at in
      ended_is W (nodes_of 0) r l a b _ _ (sym x) (leaf_of_lem d r l a b (q ∙ ap told v) lists look)

  -- the node page of an inner node that broke no rule
  inner_found :
      (p : ℕ) → told (inspect_inner_node kind shape page used fewest before lo hi p) ≡ Ok tt
      → inspect_inner_node kind shape page used fewest before lo hi p ≡ Ok (children_on kind.key_width (page p))
  unfolding inspect_inner_node
  inner_found p h =
      let c = child_count_on (page p) in
      let w = kind.key_width in
      let cs = children_on w (page p) in
      let t₁ = leb fewest c && leb c shape.fanout in
      let t₂ = leb (entry_count_on (page p)) shape.capacity in
      let t₃ = good_slots used before cs in
      let t₄ = good_s_keys kind lo hi cs in
      let t₅ = zeros (drop (3 + 2 * c + (c - 1) * w) (page p)) in
      let x = test t₂ p EntryCount (test t₃ p ChildSlots (test t₄ p SKeys (test t₅ p NodeRest (Ok cs)))) in
      let e = told_test t₁ p ChildCount x h in
      e.0 ∙ four_tests t₂ t₃ t₄ t₅ p EntryCount ChildSlots SKeys NodeRest (Ok cs) e.1

  abbrev inner_of :
      (h : ℕ) → Checked (List ByteEntry) → Checked (Children (List ℕ) (ByteTree h) × List ℕ)
      → Checked (ByteTree (suc h) × List ℕ)
  inner_of h d y =
      then d (λ es. then y (λ v. Ok (record { slot = slot; entries = es; children = v.0 }, v.1)))

  abbrev d_tree : Checked (List ByteEntry)
  d_tree =
      inspect_d_tree kind shape.per_page page false hi (entry_count_on (page (node_page_of shape slot))) lo
      (head_page_of shape slot)

  abbrev below : (h : ℕ) → SlotChildren → Checked (Children (List ℕ) (ByteTree h) × List ℕ)
  below h cs = walk_children (walk kind shape page used h (least_children_of shape)) (listed_after before cs) lo hi cs

  walk_inner :
      (h p : ℕ) → p ≡ node_page_of shape slot
      → Ok tt ≡ told (inspect_inner_node kind shape page used fewest before lo hi p)
      → walk kind shape page used (suc h) fewest before lo hi slot
      ≡ inner_of h d_tree (below h (children_on kind.key_width (page p)))
  unfolding walk
  walk_inner h p at is =
      let k : inspect_inner_node kind shape page used fewest before lo hi (node_page_of shape slot)
      ≡ Ok (children_on kind.key_width (page p)) =
      ap (inspect_inner_node kind shape page used fewest before lo hi) (sym at) ∙ inner_found p (sym is) in
      rw k

  pub inner_broken :
      (h p : ℕ) (e : PageFault) (r : Result Unit PageFault) (l : Listed) (a b : StoreState) → 1 ≤ h
      → p ≡ node_page_of shape slot → Err e ≡ told (inspect_inner_node kind shape page used fewest before lo hi p)
      → r ≡ Err e → Ended W (nodes_of h) (walk kind shape page used h fewest before lo hi slot) r l a b
  unfolding walk
  inner_broken zero p e r l a b some at is q = absurd (omega arith)
  inner_broken (suc h) p e r l a b some at is q =
      let k : inspect_inner_node kind shape page used fewest before lo hi (node_page_of shape slot) ≡ Err e =
      ap (inspect_inner_node kind shape page used fewest before lo hi) (sym at) ∙ told_err _ e is in
      let x : walk kind shape page used (suc h) fewest before lo hi slot ≡ Err e = rw k in
      ended_err W (nodes_of (suc h)) r l a b _ e x q

  d_tree_same :
      (p s : ℕ) (pages : ℕ → List ℕ) → p ≡ node_page_of shape slot → pages ≡ page
      → s ≡ entry_count_on (page p) → inspect_d_tree kind shape.per_page pages false hi s lo (p + 1) ≡ d_tree
  d_tree_same p s pages at same count =
      ap (λ g. inspect_d_tree kind shape.per_page g false hi s lo (p + 1)) same
      ∙ ap (λ i. inspect_d_tree kind shape.per_page page false hi i lo (p + 1)) count
      ∙ ap (λ i. inspect_d_tree kind shape.per_page page false hi (entry_count_on (page i)) lo (i + 1)) at

  inner_d :
      (h : ℕ) (d : Checked (List ByteEntry)) (y : Checked (Children (List ℕ) (ByteTree h) × List ℕ))
      (e : PageFault) → d ≡ Err e → inner_of h d y ≡ Err e
  inner_d h (Ok es) y e is = let z : ◌≡◌ {A = ℕ} 0 1 = cc in absurd (omega arith)
  inner_d h (Err f) y e is = let q : f ≡ e = cc in ap Err q

  pub d_tree_broken :
      (h p s : ℕ) (pages : ℕ → List ℕ) (e : PageFault) (r : Result Unit PageFault) (l : Listed) (a b : StoreState)
      → 1 ≤ h → p ≡ node_page_of shape slot → pages ≡ page → s ≡ entry_count_on (page p)
      → Ok tt ≡ told (inspect_inner_node kind shape page used fewest before lo hi p)
      → Err e ≡ told (inspect_d_tree kind shape.per_page pages false hi s lo (p + 1)) → r ≡ Err e
      → Ended W (nodes_of h) (walk kind shape page used h fewest before lo hi slot) r l a b
  d_tree_broken zero p s pages e r l a b some at same count good is q = absurd (omega arith)
  d_tree_broken (suc h) p s pages e r l a b some at same count good is q =
      let v = d_tree_same p s pages at same count in
      let d : d_tree ≡ Err e = told_err d_tree e (is ∙ ap told v) in
      ended_err W (nodes_of (suc h)) r l a b _ e (walk_inner h p at good ∙ inner_d h d_tree _ e d) q

  inner_of_lem :
      (h : ℕ) (d : Checked (List ByteEntry)) (y : Checked (Children (List ℕ) (ByteTree h) × List ℕ))
      (r : Result Unit PageFault) (l : Listed) (a m b : StoreState) → Ok tt ≡ told d → Looked a W m
      → Ended W (nodes_of_all h) y r l m b → Ended W (nodes_of (suc h)) (inner_of h d y) r l a b
  inner_of_lem h (Ok es) (Ok found) r l a m b is look e = (
    e.0,
    e.1,
    looked_then a m b W (W * nodes_of_all h found.0) _ look e.2
        (omega (arith, mul-add W 1 (nodes_of_all h found.0))),
  )
  inner_of_lem h (Ok es) (Err f) r l a m b is look e = e
  inner_of_lem h (Err f) y r l a m b is look e = let z : ◌≡◌ {A = ℕ} 0 1 = cc in absurd (omega arith)

  pub inner_ended :
      (h p s : ℕ) (pages last : ℕ → List ℕ) (cs : SlotChildren) (r : Result Unit PageFault) (l : Listed)
      (a m b : StoreState) → 1 ≤ h → p ≡ node_page_of shape slot → pages ≡ page → last ≡ page
      → s ≡ entry_count_on (page p) → cs ≡ children_on kind.key_width (page p)
      → Ok tt ≡ told (inspect_inner_node kind shape page used fewest before lo hi p)
      → Ok tt ≡ told (inspect_d_tree kind shape.per_page pages false hi s lo (p + 1)) → Looked a W m
      → Ended W (nodes_of_all (h - 1))
      (walk_children (walk kind shape last used (h - 1) (least_children_of shape))
      (listed_after before (children_on kind.key_width (page p))) lo hi cs) r l m b
      → Ended W (nodes_of h) (walk kind shape page used h fewest before lo hi slot) r l a b
  inner_ended zero p s pages last cs r l a m b some at same same₂ count are good is look e = absurd (omega arith)
  inner_ended (suc h) p s pages last cs r l a m b some at same same₂ count are good is look e =
      let v = d_tree_same p s pages at same count in
      let on = children_on kind.key_width (page p) in
      let down : suc h - 1 ≡ h = omega arith in
      let e₁ : Ended W (nodes_of_all h)
      (walk_children (walk kind shape last used h (least_children_of shape)) (listed_after before on) lo hi cs)
      r l m b =
      subst (λ i. Ended W (nodes_of_all i)
      (walk_children (walk kind shape last used i (least_children_of shape)) (listed_after before on) lo hi cs) r l m b)
      down e in
      let same_walk :
      walk_children (walk kind shape last used h (least_children_of shape)) (listed_after before on) lo hi cs
      ≡ below h on =
      ap (λ pg. walk_children (walk kind shape pg used h (least_children_of shape)) (listed_after before on) lo hi cs)
      same₂
      ∙ ap (walk_children (walk kind shape page used h (least_children_of shape)) (listed_after before on) lo hi) are in
      ended_is W (nodes_of (suc h)) r l a b _ _ (sym (walk_inner h p at good))
      (inner_of_lem h d_tree (below h on) r l a m b (is ∙ ap told v) look
      (ended_is W (nodes_of_all h) r l m b _ _ same_walk e₁))

-- where a slot's pages stand in the store
pub page_there :
    (slot used w W pages : ℕ) → slot < used → used * W < pages → w ≡ W → 1 ≤ W → pages ≤ 1 + slot * w → ⊥
page_there slot used w W pages lt h e some past =
    omega (arith, slot_fits slot used W pages lt h, ap (λ x. slot * x) e)

pub d_tree_fits :
    (slot used w σ s E pages now : ℕ) → slot < used → used * (2 + ceiling σ E) < pages → w ≡ 2 + ceiling σ E
    → 1 ≤ E → s ≤ σ → now ≡ pages → 1 + slot * w + 1 + 1 + ceiling s E ≤ now
d_tree_fits slot used w σ s E pages now lt h e some le same =
    let a = slot_fits slot used (2 + ceiling σ E) pages lt h in
    let b = ap (λ x. slot * x) e in
    omega (arith, a, b, ceiling_more s σ E some le)

-- a node page and a d-tree were read
pub slot_looked :
    (a m b : StoreState) (σ s E : ℕ) → m ≡ record { pages = a.pages; count = touched_once a.count }
    → Looked m (1 + ceiling s E) b → 1 ≤ E → s ≤ σ → Looked a (2 + ceiling σ E) b
slot_looked a m b σ s E read look some le =
    looked_then a m b 1 (1 + ceiling s E) _ (looked_once a m 1 read (omega arith)) look
    (omega (arith, ceiling_more s σ E some le))

-- the parts of a node page are long enough for its children
pub slots_long :
    (page rest : List ℕ) (c : ℕ) → rest ≡ drop 3 page → length page ≡ 512 → 1 ≤ c → c ≤ 8
    → 2 * (c - 1) + 2 ≤ length rest
slots_long page rest c e long some few = omega (arith, ap length e, length-drop 3 page)

pub keys_long :
    (page rest : List ℕ) (c w : ℕ) → rest ≡ drop 3 page → length page ≡ 512 → 1 ≤ c → c ≤ 8 → w ≤ 24
    → (c - 1) * w ≤ length (take (length rest - 2 * c) (drop (2 * c) rest))
keys_long page rest c w e long some few wide =
    omega (arith, ap length (keys_part page rest c e), length-drop (3 + 2 * c) page, keys_room c w some few wide)

-- the keys after the first
pub rest_long :
    (n w x : ℕ) (keys : List ℕ) → x ≡ w → 1 ≤ n → n * w ≤ length keys
    → (n - 1) * w ≤ length (take (length keys - x) (drop x keys))
rest_long n w x keys e some h =
    let m : n ≡ suc (n - 1) = omega arith in
    omega (arith, ap length (take_rest keys x), length-drop x keys, ap (λ i. i * w) m, suc-mul (n - 1) w)
