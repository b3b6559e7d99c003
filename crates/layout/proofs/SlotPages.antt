-- The node page of a slot, as code counts it.
use Rattle.std.proofs.Common.{◌≡◌, ℕ, ◌+◌, ◌*◌, ap}
use Rattle.shape.specs.Shape.{Shape, slot_pages_of}
use Rattle.layout.specs.Slots.{node_page_of}

pub page_of : (shape : Shape) (slot w : ℕ) → w ≡ slot_pages_of shape → 1 + slot * w ≡ node_page_of shape slot
unfolding node_page_of
page_of shape slot w e = ap (λ x. 1 + slot * x) e
