-- An accepted format leaves pages that hold the empty index, since its tests are what that law asks for.
use Rattle.std.proofs.Common.{◌≡◌, ◌+◌, Bool, true, false, cond, leb, length, IfOk, Some, None, Result, sym, refl, subst}
use Rattle.std.proofs.lemmas.Bool.{leb-true}
use Rattle.records.specs.Kind as kinds
use Rattle.records.specs.Kind.{record_width}
use Rattle.stores.specs.Store as stores
use Rattle.shape.specs.Shape.{Shape, legal, slot_pages_of}
use Rattle.tree.specs.History.{empty}
use Rattle.layout.specs.Holds.{Holds}
use Rattle.layout.proofs.EmptyHeld.{format_holds_the_empty}
use Rattle.index.specs.Seen.{Seen}
use Rattle.index.specs.Calls.{format_answered, format_left, format_answer, after_format}
use Rattle.index.specs.declared.faults.Refusal.{Refusal}
use Rattle.index.specs.declared.faults.IndexFault.TheVariants.{ShapeLimits, StoreTooSmall}
use Rattle.index.specs.declared.Done.{Done}

module _
    (x y : Seen) (s : Shape) (r : Result Done Refusal) (kind : kinds.Lawful x.kind)
    (store : stores.Lawful x.store)
  where
    abbrev Held : Done → Type 0
    Held done = Holds x.kind y.store.pages (record { shape = s; index = empty })

    go :
        (a b : Bool) → legal (record_width x.kind) s ≡ a → leb (1 + slot_pages_of s) (length x.store.pages) ≡ b
        → r ≡ format_answered (cond a (cond b None (Some StoreTooSmall)) (Some ShapeLimits))
        → y ≡ format_left (cond a (cond b None (Some StoreTooSmall)) (Some ShapeLimits)) x s → IfOk r Held
    go true true e f hr hy =
        let room = leb-true (1 + slot_pages_of s) (length x.store.pages) f in
        let held = format_holds_the_empty x.kind kind x.store store s e room in
        subst (λ q. IfOk q Held) (sym hr)
        (subst (λ z. Holds x.kind z.store.pages (record { shape = s; index = empty })) (sym hy) held)
    go true false e f hr hy = subst (λ q. IfOk q Held) (sym hr) tt
    go false true e f hr hy = subst (λ q. IfOk q Held) (sym hr) tt
    go false false e f hr hy = subst (λ q. IfOk q Held) (sym hr) tt

    pub format_holds : r ≡ format_answer x s → y ≡ after_format x s → IfOk r Held
    format_holds hr hy = go _ _ refl refl hr hy
