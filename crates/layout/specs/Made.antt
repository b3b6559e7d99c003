-- When a header is made of numbers that were handed in.
use Rattle.std.specs.Prelude.{◌≡◌, true, false, Some, None, Option}
use Rattle.shape.specs.Made.{chosen}
use Rattle.shape.specs.declared.size.Shape as shape
use Rattle.layout.specs.Pages.{Header}
use Rattle.layout.specs.Header.{header_of}
use Rattle.layout.specs.Inspection.{in_limits}
use Rattle.layout.specs.declared.header.Header as code
use Rattle.layout.specs.declared.header.HeaderNumbers.{HeaderNumbers}

-- a shape, and the numbers that were handed in
abbrev pub asked_header : shape.Shape → HeaderNumbers → Header
asked_header s n = record {
  shape = chosen s;
  levels = n.levels;
  used = n.used;
  root = n.root;
  changes = n.changes;
}

-- a header of these numbers is made exactly where they are in their limits
abbrev pub MadeHeader : shape.Shape → HeaderNumbers → Option code.Header → Type 0
MadeHeader s n None = in_limits (asked_header s n) ≡ false
MadeHeader s n (Some made) =
    (in_limits (asked_header s n) ≡ true) × (made.shape ≡ s) × (header_of made ≡ asked_header s n)
