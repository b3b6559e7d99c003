-- Open tells what its inspection found, and that finds an index exactly where the pages hold one; the touches told are
-- how far the count went on.
use Rattle.std.proofs.Common.{◌≡◌, ℕ, ◌^◌, ◌<◌, List, Ok, Err, Result, sym, refl, ap, ◌∙◌, arith, MatchResult}
use Rattle.records.specs.Kind as kinds
use Rattle.records.specs.Kind.{Kind}
use Rattle.stores.specs.Store as stores
use Rattle.layout.specs.Header.{touched_more}
use Rattle.layout.specs.Holds.{Stored, header_for, Holds}
use Rattle.layout.specs.Inspection.{inspection}
use Rattle.layout.specs.Laws.{AcceptsWhatIsHeld}
use Rattle.layout.specs.declared.faults.OpenFault.{OpenFault}
use Rattle.layout.proofs.Inspection.{accepts_what_is_held}
use Rattle.index.specs.Seen.{State, Seen, opened}
use Rattle.index.specs.Calls.{growth, touches_of, outcome, told, open_outcome, open_state}
use Rattle.index.specs.Calls.{Inspected, Opened}
use Rattle.index.specs.declared.faults.IndexFault.{IndexFault}
use Rattle.index.specs.declared.faults.Refusal.{Refusal}
use Rattle.index.specs.declared.Done.{Done}

-- the count went on by its growth
pub grown : (before after : ℕ) → before < 2 ^ 64 → after < 2 ^ 64 → after ≡ touched_more (growth before after) before
grown before after b a = omega arith

-- an answer that was told is its outcome with its touches
pub told_outcome : (u : Result Unit IndexFault) (n : ℕ) → outcome (told u n) ≡ u
told_outcome (Ok tt) n = refl
told_outcome (Err fault) n = refl

pub told_touches : (u : Result Unit IndexFault) (n : ℕ) → touches_of (told u n) ≡ n
told_touches (Ok done) n = refl
told_touches (Err fault) n = refl

pub seen_same :
    (kind kind' : Kind) (pages pages' : List (List ℕ)) (count count' : ℕ) (state state' : State)
    → kind ≡ kind' → pages ≡ pages' → count ≡ count' → state ≡ state'
    → ◌≡◌ {A = Seen} (record { kind = kind; store = record { pages = pages; count = count }; state = state })
    (record { kind = kind'; store = record { pages = pages'; count = count' }; state = state' })
seen_same kind kind' pages pages' count count' state state' k p n s = cc

module _
    (x y : Seen) (kind : kinds.Lawful x.kind) (store : stores.Lawful x.store) (store' : stores.Lawful y.store)
  where
    law : AcceptsWhatIsHeld x.kind x.store
    law = accepts_what_is_held x.kind kind x.store store

    open_holds :
        (r : Result Done Refusal) (found : Result Stored OpenFault) → inspection x.kind x.store.pages ≡ found
        → outcome r ≡ open_outcome found → y.state ≡ open_state found
        → MatchResult r (λ done. (s : Stored) × Holds x.kind x.store.pages s × (y.state ≡ opened (header_for s)))
        (λ refusal. (s : Stored) → Holds x.kind x.store.pages s → ⊥)
    open_holds (Ok done) (Ok s) e a state = (s, (law s).0 e, state)
    open_holds (Ok done) (Err f) e a state = let z : ◌≡◌ {A = ℕ} 0 1 = cc in absurd (omega arith)
    open_holds (Err refusal) (Ok s) e a state = let z : ◌≡◌ {A = ℕ} 0 1 = cc in absurd (omega arith)
    open_holds (Err refusal) (Err f) e a state =
        λ s held. let q = (law s).1 held in let z : ◌≡◌ {A = ℕ} 0 1 = cc in omega arith

    pub opens :
        (r : Result Done Refusal) (u : Result Unit IndexFault) → Inspected x u y → outcome r ≡ u
        → touches_of r ≡ growth x.store.count y.store.count → Opened x r y
    opens r u i is t =
        let n = x.store.count in
        let count : y.store.count ≡ touched_more (touches_of r) n =
        grown n y.store.count store.counted store'.counted ∙ ap (λ k. touched_more k n) (sym t) in
        record {
          answer = is ∙ i.answer;
          after = seen_same _ _ _ _ _ _ _ _ i.kind i.pages count i.state;
          within = λ s held.
              let look = i.looked s ((law s).1 held) in
              omega (arith, look.touches.1, look.touches.2, store.counted);
          holds = open_holds r _ refl (is ∙ i.answer) i.state;
        }
