-- Relief: each node of the path, the lowest first, moves a batch to its heavy child, and nodes too large split.
use Rattle.std.specs.Prelude.{ℕ, zero, suc, ◌+◌, ◌-◌, ◌/◌, Bool, cond, List, [], ◌∷◌, length, take, drop, Some, None, Option, nat_lt}
use Rattle.shape.specs.Shape.{Shape}
use Rattle.tree.specs.Entries.{Entry, merge, entries_below, entries_from, without_tombstones}
use Rattle.tree.specs.Children.{Children, one, more, Halves, count, replace_at, divide_after, heavy_place}
use Rattle.tree.specs.Tree.{Node, ChildrenAt, Tree}
use Rattle.tree.specs.Path.{heavy_child, batch, staying, too_full}

-- What comes of a node that moves or takes a batch: the slots of the nodes, from it down, that moved one; the next
-- unused slot; and the node, or its two halves with the key between them that goes up.
pub record Relieved (K V C : Type 0) : Type 0 where
  pub movers : List ℕ
  pub next : ℕ
  pub parts : Children K (Node K V C)

module _ {K V : Type 0} where
  abbrev pub leaf_halves : ℕ → ℕ → List (Entry K V) → List (Entry K V) → Children K (Tree K V 0)
  leaf_halves slot next es [] = one (record { slot = slot; entries = es; children = tt })
  leaf_halves slot next es (r ∷ rs) =
      more (record { slot = slot; entries = es; children = tt }) r.key
      (one (record { slot = next; entries = r ∷ rs; children = tt }))

  abbrev pub untouched : {C : Type 0} → ℕ → Node K V C → Relieved K V C
  untouched next t = record { movers = []; next = next; parts = one t }

module _ {K V : Type 0} (lt : K → K → Bool) where
  abbrev pub inner_halves : {C : Type 0} → ℕ → ℕ → List (Entry K V) → Children K (Node K V C) →
      Option (Halves K (Node K V C)) → Children K (Node K V (Children K (Node K V C)))
  inner_halves slot next es cs None = one (record { slot = slot; entries = es; children = cs })
  inner_halves slot next es cs (Some c) =
      more (record { slot = slot; entries = entries_below lt c.middle es; children = c.front }) c.middle
      (one (record { slot = next; entries = entries_from lt c.middle es; children = c.back }))

  -- each part takes those of the entries that belong to it
  abbrev pub merge_into : {C : Type 0} → List (Entry K V) → Children K (Node K V C) → Children K (Node K V C)
  merge_into es (one c) = one (record { slot = c.slot; entries = merge lt es c.entries; children = c.children })
  merge_into es (more c sk cs) =
      let low = merge lt (entries_below lt sk es) c.entries in
      more (record { slot = c.slot; entries = low; children = c.children }) sk (merge_into (entries_from lt sk es) cs)

  abbrev pub taking : {C : Type 0} → List (Entry K V) → Relieved K V C → Relieved K V C
  taking es r = record { movers = r.movers; next = r.next; parts = merge_into es r.parts }

module _ {K V : Type 0} (lt : K → K → Bool) (shape : Shape) where
  -- A leaf node over σ splits in the middle: the right half takes the next slot, and its first key goes up.
  unfoldable pub split_leaf : ℕ → ℕ → List (Entry K V) → Relieved K V Unit
  split_leaf slot next es =
      let half = length es / 2 in
      cond (nat_lt shape.capacity (length es))
      (record { movers = []; next = suc next; parts = leaf_halves slot next (take half es) (drop half es) })
      (record { movers = []; next = next; parts = one (record { slot = slot; entries = es; children = tt }) })

  -- An inner node with more than f children splits: (f + 1)/2 children stay left, the s-key after them goes up and
  -- stays in neither half, the entries divide at it, and the right half takes the next slot.
  unfoldable pub split_inner : {C : Type 0} → List ℕ → ℕ → ℕ → List (Entry K V) → Children K (Node K V C) →
      Relieved K V (Children K (Node K V C))
  split_inner movers slot next es cs =
      let halves = divide_after ((shape.fanout + 1) / 2 - 1) cs in
      cond (nat_lt shape.fanout (count cs))
      (record { movers = movers; next = suc next; parts = inner_halves lt slot next es cs halves })
      (record { movers = movers; next = next; parts = one (record { slot = slot; entries = es; children = cs }) })

  -- A node moves its batch: the heavy child takes it by `receive`, what comes of the child stands in its place, and
  -- then the node splits if it must.
  unfoldable pub move_batch : {C : Type 0} → (ℕ → List (Entry K V) → Node K V C → Relieved K V C) → ℕ →
      Node K V (Children K (Node K V C)) → Relieved K V (Children K (Node K V C))
  move_batch receive next t =
      let r = receive next (batch lt shape t) (heavy_child lt t) in
      split_inner (t.slot ∷ r.movers) t.slot r.next (staying lt shape t)
      (replace_at (heavy_place lt t.entries t.children) r.parts t.children)

  -- A heavy child takes a batch. A leaf node drops tombstones, each with the entry of its key, and then splits if it
  -- must. An inner node that is too full moves a batch of its own first, and its halves take what belongs to them.
  abbrev pub receive : (h : ℕ) → ℕ → List (Entry K V) → Tree K V h → Relieved K V (ChildrenAt K V h)
  receive zero next es c = split_leaf c.slot next (without_tombstones (merge lt es c.entries))
  receive (suc h) next es c =
      taking lt es (cond (too_full lt shape c) (move_batch (receive h) next c) (untouched next c))
