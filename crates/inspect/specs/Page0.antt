-- What page 0 taken apart stands for, and its inspection.
use Rattle.std.specs.Prelude.{ℕ, List, Ok, Err, Result, ◌==◌, slice_index}
use Rattle.records.specs.Kind.{Kind, record_width}
use Rattle.shape.specs.Shape.{legal}
use Rattle.shape.specs.Made.{asked}
use Rattle.layout.specs.Pages.{Header}
use Rattle.layout.specs.Header.{header_of}
use Rattle.layout.specs.Checked.{require}
use Rattle.layout.specs.Holds.{Stored, header_for}
use Rattle.layout.specs.Inspection.{header_on, good_header}
use Rattle.layout.specs.declared.header.Header as code
use Rattle.layout.specs.declared.faults.OpenFault.{OpenFault}
use Rattle.layout.specs.declared.faults.OpenFault.TheVariants.{OtherKind, ShapeLimits, Page}
use Rattle.layout.specs.declared.faults.PageFault.TheVariants.{Layout}
use Rattle.layout.specs.declared.faults.Rule.TheVariants.{HeaderNumbers}
use Rattle.inspect.specs.declared.page_0.HeaderParts.{HeaderParts}

-- the numbers beside the kind's
abbrev pub numbers_in : HeaderParts → Header
numbers_in p = record {
  shape = asked p.shape;
  levels = p.numbers.levels;
  used = p.numbers.used;
  root = p.numbers.root;
  changes = p.numbers.changes;
}

abbrev pub header_found : Result code.Header OpenFault → Result Header OpenFault
header_found (Ok h) = Ok (header_of h)
header_found (Err e) = Err e

-- the numbers of page 0 of the index that an inspection found
abbrev pub header_held : Result Stored OpenFault → Result Header OpenFault
header_held (Ok s) = Ok (header_for s)
header_held (Err e) = Err e

-- the tests of page 0 alone, in the order of the inspection
abbrev pub inspect_header : Kind → List ℕ → Result Header OpenFault
inspect_header kind page =
    let h = header_on page in
    require ((slice_index page 0) == kind.number) OtherKind
    (require (legal (record_width kind) h.shape) ShapeLimits
    (require (good_header h page) (Page (Layout 0 HeaderNumbers)) (Ok h)))
