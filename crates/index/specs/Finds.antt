-- What find answers, and what stands after it.
use Rattle.std.specs.Prelude.{◌≡◌, ℕ, ◌*◌, ◌≤◌, Bool, true, false, cond, List, ◌++◌, length, take, drop, Some, None, Ok, Err, Option, Result, nat_le}
use Rattle.stores.specs.Looked.{Looked}
use Rattle.tree.specs.Tree.{find_in}
use Rattle.tree.specs.Keys.{key_below}
use Rattle.layout.specs.Pages.{Header}
use Rattle.layout.specs.Holds.{Stored, header_for, Holds}
use Rattle.layout.specs.declared.faults.PageFault.{PageFault}
use Rattle.index.specs.Seen.{State, Seen, closed, opened}
use Rattle.index.specs.Calls.{touched, refused}
use Rattle.index.specs.declared.faults.IndexFault.{IndexFault}
use Rattle.index.specs.declared.faults.IndexFault.TheVariants.{Closed, Page, BadKey, ShortBuffer}
use Rattle.index.specs.declared.faults.Refusal.{Refusal}
use Rattle.index.specs.declared.Finding.{Finding}
use Rattle.index.specs.declared.Lookup.{Lookup}
use Rattle.index.specs.declared.Lookup.TheVariants.{Found, Absent}

abbrev pub is_open : State → Bool
is_open closed = false
is_open (opened header) = true

-- why find is refused before it reads a page, if so: closed, a key that is not valid, a buffer shorter than a value
abbrev pub find_fault : Seen → (key : List ℕ) (room : ℕ) → Option IndexFault
find_fault x key room =
    cond (is_open x.state)
    (cond (x.kind.valid_key key)
    (cond (nat_le x.kind.value_width room) None (Some ShortBuffer))
    (Some BadKey))
    (Some Closed)

-- the index that the pages hold is the one that is open
pub record OpenWith (x : Seen) (s : Stored) : Type 0 where
  pub holds : Holds x.kind x.store.pages s
  pub state : x.state ≡ opened (header_for s)

-- the value that the index has for a key, if it has one
abbrev pub meaning : Seen → Stored → List ℕ → Option (List ℕ)
meaning x s key = find_in (key_below x.kind) s.index key

abbrev pub lookup_for : Option (List ℕ) → Lookup
lookup_for (Some value) = Found
lookup_for None = Absent

-- a value goes into the first bytes of the buffer, and the rest of it stays
abbrev pub filled_with : Option (List ℕ) → List ℕ → List ℕ
filled_with (Some value) buffer = value ++ drop (length value) buffer
filled_with None buffer = buffer

-- an answer without its touches, and its touches
abbrev pub lookup_of : Result Finding Refusal → Result Lookup IndexFault
lookup_of (Ok finding) = Ok finding.lookup
lookup_of (Err refusal) = Err refusal.fault

abbrev pub find_touches : Result Finding Refusal → ℕ
find_touches (Ok finding) = finding.touches
find_touches (Err refusal) = refusal.touches

-- On any pages: a value changes the first v bytes of the buffer alone, and no other answer changes any; a refusal tells
-- a page that the store has not or that breaks a rule.
abbrev pub Searching : (v : ℕ) (buffer : List ℕ) → Result Lookup IndexFault → List ℕ → Type 0
Searching v buffer (Ok Found) after = drop v after ≡ drop v buffer
Searching v buffer (Ok Absent) after = after ≡ buffer
Searching v buffer (Err fault) after = ((page : PageFault) × (fault ≡ Page page)) × (after ≡ buffer)

-- The search of find. On pages that hold the open index the answer is what the index means.
pub record Sought (x : Seen) (key buffer : List ℕ) (r : Result Finding Refusal) (after : List ℕ) : Type 0 where
  pub searching : Searching x.kind.value_width buffer (lookup_of r) after
  pub answer : (s : Stored) → OpenWith x s → lookup_of r ≡ Ok (lookup_for (meaning x s key))
  pub filled : (s : Stored) → OpenWith x s → after ≡ filled_with (meaning x s key) buffer

-- Find: refused by its tests with touches 0, or sought.
abbrev pub FindBy : Option IndexFault → Seen → (key buffer : List ℕ) → Result Finding Refusal → List ℕ → Type 0
FindBy (Some fault) x key buffer r after = (r ≡ refused fault 0) × (after ≡ buffer)
FindBy None x key buffer r after = Sought x key buffer r after

-- kind, pages and state stay; how many pages were touched is told
abbrev pub after_find : Seen → ℕ → Seen
after_find x touches = record { kind = x.kind; store = touched touches x.store; state = x.state }

-- at most three pages of each level
abbrev pub FewTouches : State → ℕ → Type 0
FewTouches closed touches = touches ≡ 0
FewTouches (opened header) touches = touches ≤ 3 * header.levels

-- what the search of find hands on: a value stands in the first v bytes
abbrev pub first_bytes : (v : ℕ) → Option (List ℕ) → Option (List ℕ)
first_bytes v None = None
first_bytes v (Some bytes) = Some (take v bytes)

abbrev pub value_in : (v : ℕ) → Result (Option (List ℕ)) IndexFault → Result (Option (List ℕ)) IndexFault
value_in v (Ok found) = Ok (first_bytes v found)
value_in v (Err fault) = Err fault

-- a refusal of the search tells a page
abbrev pub AtPage : Result (Option (List ℕ)) IndexFault → Type 0
AtPage (Ok value) = Unit {0}
AtPage (Err fault) = (page : PageFault) × (fault ≡ Page page)

abbrev pub LookedUpBy : Option IndexFault → Seen → List ℕ → Result (Option (List ℕ)) IndexFault → Seen → Type 0
LookedUpBy (Some fault) x key r y = (r ≡ Err fault) × (y ≡ x)
LookedUpBy None x key r y =
    AtPage r × ((s : Stored) → OpenWith x s → value_in x.kind.value_width r ≡ Ok (meaning x s key))

-- the tests of find and its search, from one state to another
pub record LookedUp (x : Seen) (key : List ℕ) (room : ℕ) (r : Result (Option (List ℕ)) IndexFault) (y : Seen)
    : Type 0 where
  pub by : LookedUpBy (find_fault x key room) x key r y
  pub kind : y.kind ≡ x.kind
  pub state : y.state ≡ x.state
  pub looked : (header : Header) → x.state ≡ opened header → Looked x.store (3 * header.levels) y.store
