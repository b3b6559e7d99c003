-- The inspection of a store: page 0, then the nodes. It finds the index that the pages hold, or says what is wrong.
use Rattle.std.specs.Prelude.{ℕ, ◌-◌, ◌*◌, Bool, ◌&&◌, List, length, drop, Ok, Err, Result, ◌==◌, nat_lt, slice_index}
use Rattle.records.specs.Bytes.{field}
use Rattle.records.specs.Kind.{Kind, record_width}
use Rattle.records.specs.Tests.{between}
use Rattle.stores.specs.Store.{page_at}
use Rattle.shape.specs.Shape.{slot_pages_of, legal}
use Rattle.layout.specs.Pages.{Header}
use Rattle.layout.specs.Holds.{ByteTree, Stored}
use Rattle.layout.specs.Checked.{Checked, require, then, zeros}
use Rattle.layout.specs.Walk.{walk_tree}
use Rattle.layout.specs.declared.faults.OpenFault.{OpenFault}
use Rattle.layout.specs.declared.faults.OpenFault.TheVariants.{OtherKind, ShapeLimits, Page}
use Rattle.layout.specs.declared.faults.PageFault.TheVariants.{Store, Layout}
use Rattle.layout.specs.declared.faults.Rule.TheVariants.{HeaderNumbers}

-- the store has no page p
abbrev pub not_there : List (List ℕ) → ℕ → OpenFault
not_there pages p = Page (Store (record { page = p; size = length pages }))

-- the numbers of page 0
abbrev pub header_on : List ℕ → Header
header_on page = record {
  shape = record { fanout = slice_index page 1; capacity = field 2 2 page; per_page = slice_index page 4 };
  levels = slice_index page 5;
  used = field 6 2 page;
  root = field 8 2 page;
  changes = field 10 4 page;
}

abbrev pub in_limits : Header → Bool
in_limits h = between 1 10 h.levels && (between 1 1024 h.used && nat_lt h.root h.used)

-- rule 1
abbrev pub good_header : Header → List ℕ → Bool
good_header h page = in_limits h && zeros (drop 14 page)

-- the index of a tree that was walked, by the numbers of page 0
abbrev pub stored_by : (h : Header) → ByteTree (h.levels - 1) → Stored
stored_by h t = record {
  shape = h.shape;
  index = record { height = h.levels - 1; root = t; used = h.used; changes = h.changes };
}

abbrev pub fault_at_page : {A : Type 0} → Checked A → Result A OpenFault
fault_at_page (Ok a) = Ok a
fault_at_page (Err fault) = Err (Page fault)

-- the nodes, by the numbers of page 0
unfoldable pub inspect_nodes : Kind → (ℕ → List ℕ) → Header → Result Stored OpenFault
inspect_nodes kind page h =
    then (fault_at_page (walk_tree kind h.shape page h.used (h.levels - 1) h.root)) (λ t. Ok (stored_by h t))

-- by the numbers of page 0: tests 2 and rule 1, then page used × W is read, the last page of the last used slot
unfoldable pub inspect_by : Kind → List (List ℕ) → Header → Result Stored OpenFault
inspect_by kind pages h =
    let last = h.used * slot_pages_of h.shape in
    require (legal (record_width kind) h.shape) ShapeLimits
    (require (good_header h (page_at pages 0)) (Page (Layout 0 HeaderNumbers))
    (require (nat_lt last (length pages)) (not_there pages last)
    (inspect_nodes kind (page_at pages) h)))

-- The whole: page 0 is read, it has the kind's number, and then its other numbers count.
unfoldable pub inspection : Kind → List (List ℕ) → Result Stored OpenFault
inspection kind pages =
    require (nat_lt 0 (length pages)) (not_there pages 0)
    (require (slice_index (page_at pages 0) 0 == kind.number) OtherKind
    (inspect_by kind pages (header_on (page_at pages 0))))
