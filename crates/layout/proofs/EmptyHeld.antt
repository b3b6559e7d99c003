-- The three pages that format writes are the encoding of the empty index: one leaf node in slot 0 with no entries, its
-- node page page 1 and its head page page 2; no leaf page is filled.
use Rattle.std.proofs.Common.{◌≡◌, ℕ, zero, suc, ◌+◌, ◌≤◌, false, eqb, ltb, List, [], length, set, sym, refl, ap, ◌∙◌, arith, lit<}
use native.Mathlib.Nat.{div-eq_of_lt}
use Rattle.std.proofs.lemmas.List.{get_or-set_same, get_or-set_other, length-set}
use Rattle.std.proofs.lemmas.Bool.{ne_eqb, le-ltb}
use Rattle.records.specs.Kind.{Kind}
use Rattle.stores.specs.Store.{page_at}
use Rattle.shape.specs.Shape.{Shape, ceiling}
use Rattle.tree.specs.History.{empty}
use Rattle.tree.specs.Sound.{SlotsOnce}
use Rattle.layout.specs.Pages.{header_page, node_page, head_page}
use Rattle.layout.specs.Header.{empty_header, empty_pages}
use Rattle.layout.specs.Slots.{node_page_of, first_keys}
use Rattle.layout.specs.Holds.{SlotHolds}
use Rattle.layout.specs.Laws.{Everywhere, FormatHoldsTheEmpty}
use Rattle.layout.proofs.Fits.{fits}

none_filled : (E : ℕ) → 1 ≤ E → ceiling 0 E ≡ 0
none_filled E h = div-eq_of_lt (omega arith)

first_slot : (shape : Shape) → node_page_of shape 0 ≡ 1
unfolding node_page_of
first_slot shape = omega arith

one_slot : SlotsOnce {K = List ℕ} {V = List ℕ} empty
one_slot zero = refl
one_slot (suc x) =
    let a : eqb 0 (suc x) ≡ false = ne_eqb 0 (suc x) (λ e. omega arith) in
    let b : ltb (suc x) 1 ≡ false = le-ltb (suc x) 1 (omega arith) in
    rw (a, b)

module _ (kind : ℕ) (shape : Shape) (pages : List (List ℕ)) (room : 3 ≤ length pages) where
  abbrev head_written : List (List ℕ)
  head_written = set pages 2 (head_page [])

  abbrev node_written : List (List ℕ)
  node_written = set head_written 1 (node_page [] [] 0)

  abbrev after : List (List ℕ)
  after = empty_pages kind shape pages

  page_0 : page_at after 0 ≡ header_page kind (empty_header shape)
  page_0 = get_or-set_same node_written 0 (header_page kind (empty_header shape)) [] (simp length-set (omega arith))

  page_1 : page_at after 1 ≡ node_page [] [] 0
  page_1 =
      get_or-set_other node_written 0 1 (header_page kind (empty_header shape)) [] (λ e. omega arith)
      ∙ get_or-set_same head_written 1 (node_page [] [] 0) [] (simp length-set (omega arith))

  page_2 : page_at after 2 ≡ head_page []
  page_2 =
      get_or-set_other node_written 0 2 (header_page kind (empty_header shape)) [] (λ e. omega arith)
      ∙ get_or-set_other head_written 1 2 (node_page [] [] 0) [] (λ e. omega arith)
      ∙ get_or-set_same pages 2 (head_page []) [] (omega arith)

  length-after : length after ≡ length pages
  length-after = simp length-set

empty_slot :
    (kind : Kind) (shape : Shape) (page : ℕ → List ℕ) → 1 ≤ shape.per_page → page 1 ≡ node_page [] [] 0
    → page 2 ≡ head_page [] → SlotHolds kind shape page 0 [] [] []
unfolding first_keys
empty_slot kind shape page some p1 p2 =
    let none = none_filled shape.per_page some in
    let at : node_page_of shape 0 ≡ 1 = first_slot shape in
    record {
      node = ap page at ∙ p1;
      head = ap (λ p. page (p + 1)) at ∙ p2 ∙ ap (λ n. head_page (first_keys n shape.per_page [])) (sym none);
      leaves = λ j l. absurd (omega arith);
    }

pub format_holds_the_empty : Everywhere FormatHoldsTheEmpty
format_holds_the_empty kind law store whole shape h room =
    let pages = store.pages in
    let n = kind.number in
    let fit = fits kind shape law h in
    let three : 3 ≤ length pages = omega arith in
    record {
      shape = h;
      slots = omega arith;
      changes = lit< tt;
      there = omega (arith, length-after n shape pages three);
      header = page_0 n shape pages three;
      nodes =
          empty_slot kind shape (page_at (after n shape pages three)) fit.some (page_1 n shape pages three)
          (page_2 n shape pages three);
      valid = tt;
      sound = record { root = (tt, omega arith, tt); slots = one_slot; depth = omega arith };
    }
