-- The inspection of one node page: rules 2 to 6.
use Rattle.std.specs.Prelude.{ℕ, zero, suc, ◌+◌, ◌-◌, ◌*◌, Bool, true, cond, ◌&&◌, List, [], ◌∷◌, take, drop, Ok, ◌==◌, nat_le, nat_lt, slice_index}
use Rattle.records.specs.Bytes.{word, field}
use Rattle.records.specs.Kind.{Kind}
use Rattle.shape.specs.Shape.{Shape}
use Rattle.tree.specs.Entries.{Low, past, High}
use Rattle.tree.specs.Children.{Children, one, more}
use Rattle.layout.specs.Checked.{Checked, test, zeros}
use Rattle.layout.specs.LeafPages.{good_key}
use Rattle.layout.specs.declared.faults.Rule.TheVariants.{ChildCount, EntryCount, ChildSlots, SKeys, NodeRest}

-- the slots of a node's children with the s-keys between them
abbrev pub SlotChildren : Type 0
SlotChildren = Children (List ℕ) ℕ

-- n + 1 children, from the bytes of their slots and of the s-keys
unfoldable pub children_from : (w n : ℕ) (slots s_keys : List ℕ) → SlotChildren
children_from w zero slots s_keys = one (word (take 2 slots))
children_from w (suc n) slots s_keys =
    more (word (take 2 slots)) (take w s_keys) (children_from w n (drop 2 slots) (drop w s_keys))

abbrev pub child_count_on : List ℕ → ℕ
child_count_on page = slice_index page 0

abbrev pub entry_count_on : List ℕ → ℕ
entry_count_on = field 1 2

abbrev pub children_on : ℕ → List ℕ → SlotChildren
children_on w page =
    let c = child_count_on page in children_from w (c - 1) (drop 3 page) (drop (3 + 2 * c) page)

-- how often a number stands in a list
abbrev pub is : ℕ → ℕ → ℕ
is x y = cond (y == x) 1 0

abbrev pub weigh_list : (ℕ → ℕ) → List ℕ → ℕ
weigh_list w [] = 0
weigh_list w (y ∷ ys) = w y + weigh_list w ys

abbrev pub times_in : ℕ → List ℕ → ℕ
times_in x = weigh_list (is x)

-- The slots of the children are used ones, and none was listed before. The slots listed are a list, the newest first,
-- that starts with the root.
unfoldable pub good_slots : (used : ℕ) → List ℕ → SlotChildren → Bool
good_slots used listed (one x) = nat_lt x used && times_in x listed == 0
good_slots used listed (more x sk cs) =
    nat_lt x used && (times_in x listed == 0 && good_slots used (x ∷ listed) cs)

abbrev pub listed_after : List ℕ → SlotChildren → List ℕ
listed_after listed (one x) = x ∷ listed
listed_after listed (more x sk cs) = listed_after (x ∷ listed) cs

-- s-keys valid, ascending and in the range, its low end included
unfoldable pub good_s_keys : Kind → Low (List ℕ) → High (List ℕ) → SlotChildren → Bool
good_s_keys kind lo hi (one x) = true
good_s_keys kind lo hi (more x sk cs) = good_key kind lo hi sk && good_s_keys kind (past sk) hi cs

module _ (kind : Kind) (shape : Shape) (page : ℕ → List ℕ) where
  -- the node page p of a leaf node: the number of its entries
  unfoldable pub inspect_leaf_node : (p : ℕ) → Checked ℕ
  inspect_leaf_node p =
      test (child_count_on (page p) == 0) p ChildCount
      (test (nat_le (entry_count_on (page p)) shape.capacity) p EntryCount
      (test (zeros (drop 3 (page p))) p NodeRest
      (Ok (entry_count_on (page p)))))

  -- the node page p of an inner node, which has at least `fewest` children: its children
  unfoldable pub inspect_inner_node :
      (used fewest : ℕ) (listed : List ℕ) → Low (List ℕ) → High (List ℕ) → (p : ℕ) → Checked SlotChildren
  inspect_inner_node used fewest listed lo hi p =
      let c = child_count_on (page p) in
      let w = kind.key_width in
      let cs = children_on w (page p) in
      test (nat_le fewest c && nat_le c shape.fanout) p ChildCount
      (test (nat_le (entry_count_on (page p)) shape.capacity) p EntryCount
      (test (good_slots used listed cs) p ChildSlots
      (test (good_s_keys kind lo hi cs) p SKeys
      (test (zeros (drop (3 + 2 * c + (c - 1) * w) (page p))) p NodeRest
      (Ok cs)))))
