-- What an inspection finds: what the pages hold, or a fault. Rules are tested one after the other, and the first one
-- broken is told with its page.
use Rattle.std.specs.Prelude.{ℕ, Bool, true, false, ◌&&◌, List, [], ◌∷◌, Ok, Err, Result, ◌==◌}
use Rattle.layout.specs.declared.faults.Rule.{Rule}
use Rattle.layout.specs.declared.faults.PageFault.{PageFault}
use Rattle.layout.specs.declared.faults.PageFault.TheVariants.{Layout}

abbrev pub Checked : Type 0 → Type 0
Checked A = Result A PageFault

abbrev pub require : {A E : Type 0} → Bool → E → Result A E → Result A E
require true fault next = next
require false fault next = Err fault

-- a rule of the layout, tested on a page
abbrev pub test : {A : Type 0} → Bool → ℕ → Rule → Checked A → Checked A
test holds page rule next = require holds (Layout page rule) next

abbrev pub then : {A B E : Type 0} → Result A E → (A → Result B E) → Result B E
then (Ok a) next = next a
then (Err e) next = Err e

abbrev pub zeros : List ℕ → Bool
zeros [] = true
zeros (b ∷ bs) = b == 0 && zeros bs
