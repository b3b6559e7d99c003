-- What the code's shapes stand for, and when one is made.
use Rattle.std.specs.Prelude.{◌≡◌, ℕ, true, false, Some, None, Option}
use Rattle.shape.specs.Shape.{Shape, legal}
use Rattle.shape.specs.declared.size.Shape as code
use Rattle.shape.specs.declared.ShapeNumbers.{ShapeNumbers}

-- the three chosen numbers
abbrev pub chosen : code.Shape → Shape
chosen s = record { fanout = s.fanout; capacity = s.capacity; per_page = s.per_page }

-- the three numbers that were handed in
abbrev pub asked : ShapeNumbers → Shape
asked n = record { fanout = n.fanout; capacity = n.capacity; per_page = n.per_page }

-- a shape of these numbers is made exactly where they are legal for records of that width
abbrev pub Made : Shape → ℕ → Option code.Shape → Type 0
Made s width None = legal width s ≡ false
Made s width (Some made) = (legal width s ≡ true) × (chosen made ≡ s) × (made.record_width ≡ width)
