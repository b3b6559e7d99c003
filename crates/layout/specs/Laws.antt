-- The laws of what pages hold. Each is asked for by the contract of a function of this crate.
use Rattle.std.specs.Prelude.{◌≡◌, ◌+◌, ◌≤◌, true, length, Ok}
use Rattle.records.specs.Kind.{Kind, record_width}
use Rattle.records.specs.Kind as kinds
use Rattle.stores.specs.Store.{StoreState}
use Rattle.stores.specs.Store as stores
use Rattle.shape.specs.Shape.{Shape, slot_pages_of, legal}
use Rattle.tree.specs.History.{empty}
use Rattle.layout.specs.Header.{emptied}
use Rattle.layout.specs.Holds.{Stored, Holds}
use Rattle.layout.specs.Inspection.{inspection}

-- what holds of every lawful kind and every lawful store
abbrev pub Everywhere : (Kind → StoreState → Type 0) → Type 0
Everywhere Law =
    (kind : Kind) → kinds.Lawful kind → (store : StoreState) → stores.Lawful store → Law kind store

-- The inspection accepts an index exactly when the pages hold it.
abbrev pub AcceptsWhatIsHeld : Kind → StoreState → Type 0
AcceptsWhatIsHeld kind store =
    (s : Stored) →
    (inspection kind store.pages ≡ Ok s → Holds kind store.pages s)
    × (Holds kind store.pages s → inspection kind store.pages ≡ Ok s)

-- The pages hold at most one index.
abbrev pub HoldsOne : Kind → StoreState → Type 0
HoldsOne kind store =
    (s s' : Stored) → Holds kind store.pages s → Holds kind store.pages s' → s ≡ s'

-- After format the pages hold the empty index.
abbrev pub FormatHoldsTheEmpty : Kind → StoreState → Type 0
FormatHoldsTheEmpty kind store =
    (shape : Shape) → legal (record_width kind) shape ≡ true → 1 + slot_pages_of shape ≤ length store.pages →
    Holds kind (emptied kind.number shape store).pages (record { shape = shape; index = empty })
