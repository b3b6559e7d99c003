-- What an index means: its kind, its store, and whether it is open.
use Rattle.records.specs.Kind.{Kind}
use Rattle.stores.specs.Store.{StoreState}
use Rattle.layout.specs.Pages.{Header}
use Rattle.layout.specs.Header.{header_of}
use Rattle.index.specs.declared.Index.{Index}
use Rattle.index.specs.declared.Status.{Status}
use Rattle.index.specs.declared.Status.TheVariants.{Closed, Open}

-- closed, or open with the numbers of page 0
pub data State : Type 0 where
  closed : State
  opened : Header → State

pub record Seen : Type 0 where
  pub kind : Kind
  pub store : StoreState
  pub state : State

abbrev pub state_of : Status → State
state_of Closed = closed
state_of (Open h) = opened (header_of h)

abbrev pub seen : {S K : Type 0} → (S → StoreState) → (K → Kind) → Index S K → Seen
seen state model x = record { kind = model x.kind; store = state x.store; state = state_of x.status }
