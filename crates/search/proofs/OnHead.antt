-- The search of a head page: the keys in its row are the first keys of the leaf pages.
use Rattle.std.proofs.Common.{◌≡◌, ℕ, ◌+◌, ◌*◌, ◌≤◌, false, not, eqb, List, length, get_or, drop, sym, ap, ◌∙◌, subst, arith}
use Rattle.std.specs.Ordering.{is_le}
use Rattle.std.proofs.lemmas.Bool.{eq-eqb, false≢true}
use Rattle.records.specs.Kind.{Kind, Lawful}
use Rattle.stores.specs.Store.{page_at}
use Rattle.shape.specs.Shape.{ceiling}
use Rattle.tree.specs.Keys.{key_below}
use Rattle.layout.specs.Pages.{ByteEntry, head_page}
use Rattle.layout.specs.Slots.{first_key}
use Rattle.layout.specs.Rows.{key_in, Divides}
use Rattle.layout.specs.Holds.{ValidKey}
use Rattle.layout.proofs.DTree.{HeadPageRead, head_page_read}
use Rattle.search.specs.Found.{DTreeOn}
use Rattle.search.proofs.Divided.{divides_same, divides_row, upto_by_tree}
use Rattle.search.proofs.OnLeaf.{page_there}

module _
    (kind : Kind) (law : Lawful kind) (E : ℕ) (page : ℕ → List ℕ) (p : ℕ) (es : List ByteEntry) (some : 1 ≤ E)
    (on : DTreeOn kind E page p es) where
  pub head_read : HeadPageRead kind E (page p) es
  head_read = head_page_read kind law E (page p) es some on.good.valid on.head

  -- the row as the code takes it from the page that it read
  pub head_divides :
      (key buffer bytes : List ℕ) (w v n r : ℕ) → ValidKey kind key → buffer ≡ page p → w ≡ kind.key_width → v ≡ 0
      → n ≡ ceiling (length es) E → bytes ≡ drop 1 buffer
      → Divides (λ i. is_le (kind.order (key_in w (w + v) bytes i) key)) n r
      → Divides (λ j. not (key_below kind key (first_key (drop (j * E) es)))) (ceiling (length es) E) r
  head_divides key buffer bytes w v n r valid is wide none filled rest d =
      let pages = ceiling (length es) E in
      let x = kind.key_width in
      let alone : x + 0 ≡ x = omega arith in
      let d₁ = divides_row (λ k. is_le (kind.order k key)) x 0 pages w v n r (drop 1 (page p)) bytes wide none filled
      (rest ∙ ap (drop 1) is) d in
      let d₂ = subst (λ s. Divides (λ i. is_le (kind.order (key_in x s (drop 1 (page p)) i) key)) pages r) alone d₁ in
      divides_same _ _ pages r (λ j l.
      ap (λ k. is_le (kind.order k key)) (head_read.keys j l)
      ∙ upto_by_tree kind law (first_key (drop (j * E) es)) key (head_read.valid j l) valid) d₂

  pub head_counted :
      (buffer : List ℕ) (filled : ℕ) → buffer ≡ page p → filled ≡ ceiling (length es) E
      → eqb (get_or buffer 0 0) filled ≡ false → ⊥
  head_counted buffer filled is n other =
      false≢true (sym other ∙ eq-eqb _ filled (ap (λ x. get_or x 0 0) is ∙ head_read.count ∙ sym n))

pub head_there :
    (kind : Kind) (E : ℕ) (pages : List (List ℕ)) (p : ℕ) (es : List ByteEntry) → length pages ≤ p
    → DTreeOn kind E (page_at pages) p es → ⊥
unfolding head_page
head_there kind E pages p es l on = page_there pages p _ _ l on.head
