-- What each call answers, and what stands after it.
use Rattle.std.specs.Prelude.{◌≡◌, ℕ, ◌+◌, ◌-◌, ◌*◌, ◌%◌, ◌^◌, ◌≤◌, cond, length, Some, None, Ok, Err, Option, Result, MatchResult, nat_le}
use Rattle.records.specs.Kind.{Kind, record_width}
use Rattle.stores.specs.Store.{StoreState}
use Rattle.shape.specs.Shape.{
  Shape,
  legal,
  batch_of,
  leaf_pages_of,
  slot_pages_of,
  least_children_of,
  changes_per_leaf_of,
  slots_of,
  work_bytes_of,
}
use Rattle.shape.specs.Made.{asked}
use Rattle.layout.specs.Header.{empty_header, emptied, touched_more}
use Rattle.layout.specs.Holds.{Stored, header_for, Holds}
use Rattle.layout.specs.Inspection.{inspection}
use Rattle.layout.specs.declared.faults.OpenFault.{OpenFault}
use Rattle.stores.specs.Looked.{Looked}
use Rattle.index.specs.Refusals.{open_fault}
use Rattle.index.specs.Seen.{State, Seen, closed, opened}
use Rattle.index.specs.declared.faults.IndexFault.{IndexFault}
use Rattle.index.specs.declared.faults.IndexFault.TheVariants.{ShapeLimits, StoreTooSmall}
use Rattle.index.specs.declared.faults.Refusal.{Refusal}
use Rattle.index.specs.declared.Call.{Call}
use Rattle.index.specs.declared.Call.TheVariants as call
use Rattle.index.specs.declared.Costs.{Costs}
use Rattle.index.specs.declared.Done.{Done}

-- how far a count went on, modulo 2^64
abbrev pub growth : ℕ → ℕ → ℕ
growth before after = (after + (2 ^ 64 - before)) % 2 ^ 64

-- the touches that an answer tells, a refusal's too
abbrev pub touches_of : Result Done Refusal → ℕ
touches_of (Ok done) = done.touches
touches_of (Err refusal) = refusal.touches

-- an answer without its touches
abbrev pub outcome : Result Done Refusal → Result Unit IndexFault
outcome (Ok done) = Ok tt
outcome (Err refusal) = Err refusal.fault

abbrev pub refused : {A : Type 0} → IndexFault → ℕ → Result A Refusal
refused fault touches = Err (record { fault = fault; touches = touches })

-- an outcome with its touches
abbrev pub told : Result Unit IndexFault → ℕ → Result Done Refusal
told (Ok done) touches = Ok (record { touches = touches })
told (Err fault) touches = refused fault touches

-- why a shape cannot be formatted, if so: a limit is broken, or there are not the pages for page 0 and one slot
abbrev pub format_fault : Seen → Shape → Option IndexFault
format_fault x s =
    cond (legal (record_width x.kind) s)
    (cond (nat_le (1 + slot_pages_of s) (length x.store.pages)) None (Some StoreTooSmall))
    (Some ShapeLimits)

abbrev pub format_answered : Option IndexFault → Result Done Refusal
format_answered None = Ok (record { touches = 3 })
format_answered (Some fault) = refused fault 0

abbrev pub format_left : Option IndexFault → Seen → Shape → Seen
format_left None x s =
    record { kind = x.kind; store = emptied x.kind.number s x.store; state = opened (empty_header s) }
format_left (Some fault) x s = x

-- the tests and writes of format, from one state to another
abbrev pub Formatted : Seen → Shape → Result Unit IndexFault → Seen → Type 0
Formatted x s (Ok done) y = (format_fault x s ≡ None) × (y ≡ format_left None x s)
Formatted x s (Err fault) y = (format_fault x s ≡ Some fault) × (y ≡ x)

-- format writes an empty index of one leaf node and opens it; refused, it leaves everything
abbrev pub format_answer : Seen → Shape → Result Done Refusal
format_answer x s = format_answered (format_fault x s)

abbrev pub after_format : Seen → Shape → Seen
after_format x s = format_left (format_fault x s) x s

-- close is granted in either state and touches no page
abbrev pub close_answer : Result Done Refusal
close_answer = Ok (record { touches = 0 })

abbrev pub after_close : Seen → Seen
after_close x = record { kind = x.kind; store = x.store; state = closed }

-- so many pages more were touched, and none changed
abbrev pub touched : ℕ → StoreState → StoreState
touched touches s = record { pages = s.pages; count = touched_more touches s.count }

-- open is granted where the inspection finds an index
abbrev pub open_outcome : Result Stored OpenFault → Result Unit IndexFault
open_outcome (Ok s) = Ok tt
open_outcome (Err fault) = Err (open_fault fault)

-- that index is open then; after a refusal none is
abbrev pub open_state : Result Stored OpenFault → State
open_state (Ok s) = opened (header_for s)
open_state (Err fault) = closed

-- how many pages were touched is told, and no page changed
abbrev pub after_open : Seen → ℕ → Seen
after_open x touches = record {
  kind = x.kind;
  store = touched touches x.store;
  state = open_state (inspection x.kind x.store.pages);
}

-- what opening an index may touch: page 0, the last page of the used slots, and every page of the used slots once
abbrev pub open_touches : Stored → ℕ
open_touches s = 2 + s.index.used * slot_pages_of s.shape

-- the inspection of open, from one state to another
pub record Inspected (x : Seen) (r : Result Unit IndexFault) (y : Seen) : Type 0 where
  pub answer : r ≡ open_outcome (inspection x.kind x.store.pages)
  pub kind : y.kind ≡ x.kind
  pub pages : y.store.pages ≡ x.store.pages
  pub state : y.state ≡ open_state (inspection x.kind x.store.pages)
  pub looked :
      (s : Stored) → inspection x.kind x.store.pages ≡ Ok s → Looked x.store (open_touches s) y.store

-- What open answers and leaves. Accepted, the pages hold some index, and that one is open; refused, they hold none.
pub record Opened (x : Seen) (r : Result Done Refusal) (y : Seen) : Type 0 where
  pub answer : outcome r ≡ open_outcome (inspection x.kind x.store.pages)
  pub after : y ≡ after_open x (touches_of r)
  pub within : (s : Stored) → Holds x.kind x.store.pages s → touches_of r ≤ open_touches s
  pub holds :
      MatchResult r
      (λ done. (s : Stored) × Holds x.kind x.store.pages s × (y.state ≡ opened (header_for s)))
      (λ refusal. (s : Stored) → Holds x.kind x.store.pages s → ⊥)

abbrev pub answer_to : Seen → Call → Result Done Refusal
answer_to x (call.Format numbers) = format_answer x (asked numbers)
answer_to x call.Close = close_answer

abbrev pub after_call : Seen → Call → Seen
after_call x (call.Format numbers) = after_format x (asked numbers)
after_call x call.Close = after_close x

-- what a shape costs, for a kind and a store of so many pages
abbrev pub costs_of : Kind → ℕ → Shape → Costs
costs_of kind pages s = record {
  batch = batch_of s;
  leaf_pages = leaf_pages_of s;
  slot_pages = slot_pages_of s;
  least_children = least_children_of s;
  changes_per_leaf = changes_per_leaf_of s;
  slots = slots_of s pages;
  work_bytes = work_bytes_of s (record_width kind);
}

abbrev pub weighed : Seen → Shape → Result Costs Refusal
weighed x s =
    cond (legal (record_width x.kind) s) (Ok (costs_of x.kind (length x.store.pages) s))
    (refused ShapeLimits 0)
