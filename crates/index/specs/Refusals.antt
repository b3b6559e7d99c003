-- A refusal is five numbers: its number, its layer (1 index, 2 page, 3 store), a page, a detail, and the touches.
use Rattle.std.specs.Prelude.{ℕ}
use Rattle.layout.specs.Faults.{rule_number}
use Rattle.layout.specs.declared.faults.OpenFault.{OpenFault}
use Rattle.layout.specs.declared.faults.OpenFault.TheVariants as opening
use Rattle.layout.specs.declared.faults.PageFault.{PageFault}
use Rattle.layout.specs.declared.faults.PageFault.TheVariants.{Store, Layout}
use Rattle.index.specs.declared.faults.IndexFault.{IndexFault}
use Rattle.index.specs.declared.faults.IndexFault.TheVariants as fault
use Rattle.index.specs.declared.faults.RefusalNumbers.{RefusalNumbers}

abbrev pub at_index : ℕ → ℕ → RefusalNumbers
at_index number touches = record { number = number; layer = 1; page = 0; detail = 0; touches = touches }

-- a page that the store refused tells itself and the number of pages; one that breaks a rule, itself and the rule
abbrev pub at_page : PageFault → ℕ → RefusalNumbers
at_page (Store f) touches = record { number = 5; layer = 3; page = f.page; detail = f.size; touches = touches }
at_page (Layout page rule) touches =
    record { number = 6; layer = 2; page = page; detail = rule_number rule; touches = touches }

abbrev pub numbers_of : IndexFault → ℕ → RefusalNumbers
numbers_of fault.Closed touches = at_index 1 touches
numbers_of fault.ShapeLimits touches = at_index 2 touches
numbers_of fault.StoreTooSmall touches = at_index 3 touches
numbers_of fault.OtherKind touches = at_index 4 touches
numbers_of (fault.Page f) touches = at_page f touches
numbers_of fault.BadKey touches = at_index 7 touches
numbers_of fault.BadValue touches = at_index 8 touches
numbers_of fault.ShortWorkArea touches = at_index 9 touches
numbers_of fault.ShortBuffer touches = at_index 10 touches
numbers_of fault.NoFreeSlots touches = at_index 11 touches
numbers_of fault.TooManyChanges touches = at_index 12 touches

-- why a store is not opened, as a fault of the index
abbrev pub open_fault : OpenFault → IndexFault
open_fault opening.OtherKind = fault.OtherKind
open_fault opening.ShapeLimits = fault.ShapeLimits
open_fault (opening.Page f) = fault.Page f
