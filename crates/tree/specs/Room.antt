-- What a path node and its heavy child hold, at most, while a batch moves from one to the other.
use Rattle.std.specs.Prelude.{◌≡◌, ℕ, zero, suc, ◌+◌, ◌≤◌, Bool, length}
use Rattle.shape.specs.Shape.{Shape, batch_of}
use Rattle.tree.specs.Entries.{merge}
use Rattle.tree.specs.Children.{Children, one, more, count, replace_at, heavy_place}
use Rattle.tree.specs.Tree.{Tree}
use Rattle.tree.specs.Path.{PathNode, heavy_child, batch, staying}
use Rattle.tree.specs.Relief.{receive}

module _ {K X : Type 0} where
  abbrev pub EachPart : (X → Type 0) → Children K X → Type 0
  EachPart P (one x) = P x
  EachPart P (more x sk cs) = P x × EachPart P cs

module _ {K V : Type 0} (lt : K → K → Bool) (shape : Shape) where
  -- The child that takes the batch: a leaf node holds at most q entries over σ before it splits; an inner node that is
  -- not too full, or each part of one that moved a batch of its own first, holds at most σ.
  abbrev pub ChildHolds : (h next : ℕ) → Tree K V (suc h) → Type 0
  ChildHolds zero next t =
      length (merge lt (batch lt shape t) (heavy_child lt t).entries) ≤ shape.capacity + batch_of shape
  ChildHolds (suc h) next t =
      EachPart (λ c. length c.entries ≤ shape.capacity)
      (receive lt shape (suc h) next (batch lt shape t) (heavy_child lt t)).parts

  -- A path node moves exactly q entries, which leaves it room for as many, and it has at most f + 1 children before it
  -- splits. All this whatever the next unused slot is.
  pub record HasRoom (n : PathNode K V) : Type 0 where
    pub moves : length (batch lt shape n.node) ≡ batch_of shape
    pub keeps : length (staying lt shape n.node) + batch_of shape ≤ shape.capacity
    pub child : (next : ℕ) → ChildHolds n.below next n.node
    pub fanout : (next : ℕ) →
        let t = n.node in
        let parts = (receive lt shape n.below next (batch lt shape t) (heavy_child lt t)).parts in
        count (replace_at (heavy_place lt t.entries t.children) parts t.children) ≤ shape.fanout + 1
