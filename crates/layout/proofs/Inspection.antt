-- The inspection of a store accepts an index exactly when the pages hold it: page 0 and its numbers determine each
-- other, the walk accepts exactly the tree that stands on the pages, and the kind's order is the tree's on valid keys.
use Rattle.std.proofs.Common.{◌≡◌, ℕ, suc, ◌+◌, ◌-◌, ◌*◌, ◌^◌, ◌<◌, ◌≤◌, true, cond, eqb, ltb, List, length, get_or, take, drop, Ok, Err, Result, sym, refl, ap, ◌∙◌, subst, inl, inr, arith}
use Rattle.std.specs.List.{AllByRecursion}
use Rattle.std.proofs.lemmas.Int.Digits.{number_lt}
use Rattle.std.proofs.ByRecursion.{All-take, All-drop}
use Rattle.std.proofs.lemmas.List.{length-take-le, length-drop}
use Rattle.std.proofs.lemmas.Bool.{and_parts, and_from, eqb-true, eq-eqb, ltb-true, lt-ltb, le-leb, cases_lt, le-ltb}
use Rattle.records.specs.Bytes.{field}
use Rattle.records.specs.Kind.{Kind, Lawful, record_width}
use Rattle.records.specs.Tests.{between}
use Rattle.stores.specs.Store.{StoreState, page_at}
use Rattle.stores.specs.Store as stores
use Rattle.shape.specs.Shape.{slot_pages_of, legal}
use Rattle.tree.specs.Entries.{least, most}
use Rattle.tree.specs.Keys.{key_below}
use Rattle.tree.proofs.Keys.{kinds_order_keys}
use Rattle.layout.specs.Pages.{Header, header_page}
use Rattle.layout.specs.Holds.{Stored, header_for, Holds}
use Rattle.layout.specs.Checked.{Checked, then, zeros}
use Rattle.layout.specs.LeafPages.{ordered_below}
use Rattle.layout.specs.Walk.{walk_tree}
use Rattle.layout.specs.Inspection.{not_there, header_on, good_header, stored_by}
use Rattle.layout.specs.Inspection.{fault_at_page, inspect_nodes, inspect_by, inspection}
use Rattle.layout.specs.Laws.{Everywhere, AcceptsWhatIsHeld, HoldsOne}
use Rattle.layout.specs.declared.faults.OpenFault.{OpenFault}
use Rattle.layout.specs.declared.faults.OpenFault.TheVariants.{OtherKind, ShapeLimits, Page}
use Rattle.layout.specs.declared.faults.PageFault.TheVariants.{Layout}
use Rattle.layout.specs.declared.faults.Rule.TheVariants.{HeaderNumbers}
use Rattle.layout.proofs.Checked.{require_ok, then_ok}
use Rattle.layout.proofs.DTree.{WholePage}
use Rattle.layout.proofs.SlotsListed.{is_same}
use Rattle.layout.proofs.Fits.{fits, between_is}
use Rattle.layout.proofs.HeaderPage.{HeaderRead, header_same, header_read, header_page_lem}
use Rattle.layout.proofs.SameOrder.{AgreeOnValid, sound_other}
use Rattle.layout.proofs.Tree.{TreeHeld, tree_holds, tree_accepted}
use Rattle.layout.proofs.WalkAccepts.{own_slot}

fault_ok : {A : Type 0} (x : Checked A) (a : A) → fault_at_page x ≡ Ok a → x ≡ Ok a
fault_ok (Ok b) a e = let c : b ≡ a = cc in ap Ok c
fault_ok (Err f) a e = let c : ◌≡◌ {A = ℕ} 0 1 = cc in absurd (omega arith)

field_small :
    (at w : ℕ) (page : List ℕ) → at + w ≤ length page → AllByRecursion (λ b. b < 256) page → field at w page < 256 ^ w
field_small at w page l small =
    let bs = take w (drop at page) in
    let e : length bs ≡ w = length-take-le w (drop at page) (omega (arith, length-drop at page)) in
    let b = number_lt 256 bs (All-take (λ b. b < 256) w (drop at page) (All-drop (λ b. b < 256) at page small)) in
    rw e at b

between_from : (low high n : ℕ) → low ≤ n → n ≤ high → between low high n ≡ true
between_from low high n l h = and_from _ _ (le-leb low n l) (le-leb n high h)

-- what rule 1 says
record HeaderKept (h : Header) (page : List ℕ) : Type 0 where
  pub standing : 1 ≤ h.levels
  pub shallow : h.levels ≤ 10
  pub some : 1 ≤ h.used
  pub few : h.used ≤ 1024
  pub present : h.root < h.used
  pub rest : zeros (drop 14 page) ≡ true

header_kept : (h : Header) (page : List ℕ) → good_header h page ≡ true → HeaderKept h page
header_kept h page g =
    let a = and_parts _ _ g in
    let b = and_parts _ _ a.0 in
    let c = and_parts _ _ b.1 in
    let l = between_is 1 10 h.levels b.0 in
    let u = between_is 1 1024 h.used c.0 in
    record {
      standing = l.0;
      shallow = l.1;
      some = u.0;
      few = u.1;
      present = ltb-true h.root h.used c.1;
      rest = a.1;
    }

header_passes : (h : Header) (page : List ℕ) → HeaderKept h page → good_header h page ≡ true
header_passes h page k =
    and_from _ _ (
    and_from _ _ (between_from 1 10 h.levels k.standing k.shallow) (
    and_from _ _ (between_from 1 1024 h.used k.some k.few) (lt-ltb h.root h.used k.present)))
    k.rest

module _ (kind : Kind) (law : Lawful kind) (store : StoreState) (whole : stores.Lawful store) where
  abbrev pages : List (List ℕ)
  pages = store.pages

  abbrev page : ℕ → List ℕ
  page = page_at store.pages

  whole_page : (p : ℕ) → p < length store.pages → WholePage page p
  whole_page p l = record { long = whole.whole p l; bytes = whole.bytes p }

  agree : AgreeOnValid kind (ordered_below kind) (key_below kind)
  agree a b v w = sym ((kinds_order_keys kind law).1 a b v w)

  agree' : AgreeOnValid kind (key_below kind) (ordered_below kind)
  agree' a b v w = (kinds_order_keys kind law).1 a b v w

  accepted_holds : (s : Stored) → inspection kind store.pages ≡ Ok s → Holds kind store.pages s
  unfolding inspection inspect_by inspect_nodes
  accepted_holds s e =
      let h = header_on (page 0) in
      let last = h.used * slot_pages_of h.shape in
      let walked = walk_tree kind h.shape page h.used (h.levels - 1) h.root in
      let nodes : Result Stored OpenFault = then (fault_at_page walked) (λ t. Ok (stored_by h t)) in
      let t0 = require_ok (ltb 0 (length pages)) (not_there pages 0) _ s e in
      let t4 = require_ok (eqb (get_or (page 0) 0 0) kind.number) OtherKind _ s t0.1 in
      let t2 = require_ok (legal (record_width kind) h.shape) ShapeLimits _ s t4.1 in
      let t1 = require_ok (good_header h (page 0)) (Page (Layout 0 HeaderNumbers)) _ s t2.1 in
      let t5 = require_ok (ltb last (length pages)) (not_there pages last) nodes s t1.1 in
      let a = then_ok (fault_at_page walked) (λ t. Ok (stored_by h t)) s t5.1 in
      let t = a.0 in
      let same : stored_by h t ≡ s = cc a.2 in
      let kept = header_kept h (page 0) t1.0 in
      let room : last < length pages = ltb-true last (length pages) t5.0 in
      let fit = fits kind h.shape law t2.0 in
      let first = whole_page 0 (ltb-true 0 (length pages) t0.0) in
      let held =
      tree_holds kind h.shape page h.used fit (h.levels - 1) h.root t kept.present
      (λ q l. whole_page q (omega arith)) (fault_ok walked t a.1) in
      let levels : h.levels ≡ suc (h.levels - 1) = omega (arith, kept.standing) in
      let number : get_or (page 0) 0 0 ≡ kind.number = eqb-true (get_or (page 0) 0 0) kind.number t4.0 in
      let long : length (page 0) ≡ 512 = first.long in
      let numbers : h ≡ header_for (stored_by h t) =
      header_same _ _ _ _ _ _ _ _ _ _ _ _ _ _ refl refl refl levels refl (sym held.at) refl in
      subst (λ x. Holds kind store.pages x) same (record {
        shape = t2.0;
        slots = kept.few;
        changes = field_small 10 4 (page 0) (omega arith) first.bytes;
        there = room;
        header =
            header_page_lem (page 0) long first.bytes kept.rest
            ∙ ap (λ k. header_page k h) number ∙ ap (header_page kind.number) numbers;
        nodes = held.stands;
        valid = held.valid;
        sound = record {
          root =
              sound_other kind (ordered_below kind) (key_below kind) agree h.shape h.shape.capacity 2
              (h.levels - 1) least most t tt tt held.valid held.sound;
          slots = held.slots;
          depth = omega (arith, kept.shallow);
        };
      })

  -- the root's slot is a used one, since the root is a node of the tree
  held_root : (s : Stored) → Holds kind store.pages s → s.index.root.slot < s.index.used
  held_root s o =
      let i = s.index in
      elim (cases_lt i.root.slot i.used) [
        | inl l ↦ l
        | inr l ↦
            let none = o.sound.slots i.root.slot ∙ ap (λ b. cond b 1 0) (le-ltb i.root.slot i.used l) in
            absurd (omega (arith, own_slot i.root.slot i.height i.root, is_same i.root.slot))
      ]

  held_read :
      (s : Stored) → Holds kind store.pages s
      → HeaderRead kind.number (header_for s) (page_at store.pages 0)
  held_read s o =
      let fit = fits kind s.shape law o.shape in
      header_read kind.number (header_for s) (page 0) (omega (arith, fit.few_entries)) (omega (arith, o.slots))
      (omega (arith, o.slots, held_root s o)) o.changes o.header

  held_accepted : (s : Stored) → Holds kind store.pages s → inspection kind store.pages ≡ Ok s
  unfolding inspection inspect_by inspect_nodes
  held_accepted s o =
      let i = s.index in
      let h = i.height in
      let used = i.used in
      let shape = s.shape in
      let last = used * slot_pages_of shape in
      let header = header_for s in
      let fit = fits kind shape law o.shape in
      let present : i.root.slot < used = held_root s o in
      let read = held_read s o in
      let held : TreeHeld kind shape page used fit h i.root.slot i.root =
      record {
        at = refl;
        stands = o.nodes;
        valid = o.valid;
        sound =
            sound_other kind (key_below kind) (ordered_below kind) agree' shape shape.capacity 2 h least most i.root
            tt tt o.valid o.sound.root;
        slots = o.sound.slots;
      } in
      let walked : walk_tree kind shape page used h i.root.slot ≡ Ok i.root =
      tree_accepted kind shape page used fit law h i.root.slot i.root (omega (arith, o.slots)) held in
      let kept : HeaderKept header (page 0) =
      record {
        standing = omega arith;
        shallow = o.sound.depth;
        some = omega arith;
        few = o.slots;
        present = present;
        rest = read.rest;
      } in
      let t0 : ltb 0 (length pages) ≡ true = lt-ltb 0 (length pages) (omega (arith, o.there)) in
      let t4 : eqb (get_or (page 0) 0 0) kind.number ≡ true =
      eq-eqb (get_or (page 0) 0 0) kind.number read.number in
      let t1 : good_header header (page 0) ≡ true = header_passes header (page 0) kept in
      let t5 : ltb last (length pages) ≡ true = lt-ltb last (length pages) o.there in
      let nodes : (j : ℕ) → Result Stored OpenFault =
      λ j. then (fault_at_page (walk_tree kind shape page used j i.root.slot)) (λ t.
      Ok (record { shape = shape; index = record { height = j; root = t; used = used; changes = i.changes } })) in
      let lower : suc h - 1 ≡ h = omega arith in
      let by : inspect_by kind pages header ≡ Ok s =
      rw (o.shape, t1, t5) (ap nodes lower ∙ rw walked) in
      rw (t0, t4) (ap (inspect_by kind pages) read.header ∙ by)

  -- the numbers of page 0 are those of the index that was found
  pub found_header :
      (s : Stored) → inspection kind store.pages ≡ Ok s → header_for s ≡ header_on (page_at store.pages 0)
  found_header s e = sym (held_read s (accepted_holds s e)).header

  pub held_once : (s s' : Stored) → Holds kind store.pages s → Holds kind store.pages s' → s ≡ s'
  held_once s s' a b =
      let e = held_accepted s a in
      let f = held_accepted s' b in
      cc

pub accepts_what_is_held : Everywhere AcceptsWhatIsHeld
accepts_what_is_held kind law store whole s =
    (accepted_holds kind law store whole s, held_accepted kind law store whole s)

pub holds_one : Everywhere HoldsOne
holds_one = held_once
