-- What a walk leaves, beside what it tells.
use Rattle.std.specs.Prelude.{◌≡◌, ℕ, ◌*◌, List, Ok, Err, Result}
use Rattle.stores.specs.Store.{StoreState}
use Rattle.tree.specs.Children.{Children, sum_of}
use Rattle.tree.specs.Tree.{slot_sum}
use Rattle.layout.specs.Checked.{Checked}
use Rattle.layout.specs.Holds.{ByteTree}
use Rattle.layout.specs.declared.faults.PageFault.{PageFault}
use Rattle.inspect.specs.declared.listed.Listed.{Listed}
use Rattle.inspect.specs.Listed.{Lists}
use Rattle.stores.specs.Looked.{Looked}

abbrev pub nodes_of : (h : ℕ) → ByteTree h → ℕ
nodes_of h = slot_sum (λ slot. 1) h

abbrev pub nodes_of_all : (h : ℕ) → Children (List ℕ) (ByteTree h) → ℕ
nodes_of_all h = sum_of (nodes_of h)

-- A fault is told as it was found. A tree, or several, with the slots listed by then: these are listed in the code too,
-- and for each node at most so many pages were touched as a slot has.
abbrev pub Ended :
    {A : Type 0} → (slot_pages : ℕ) (nodes : A → ℕ) → Checked (A × List ℕ) → Result Unit PageFault → Listed
    → StoreState → StoreState → Type 0
Ended slot_pages nodes (Ok found) r listed before after =
    (r ≡ Ok tt) × Lists listed found.1 × Looked before (slot_pages * nodes found.0) after
Ended slot_pages nodes (Err e) r listed before after = r ≡ Err e
