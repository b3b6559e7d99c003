-- Three writes make an empty index: a page of zeros is the head page of no entries, and the node page of an empty leaf.
use Rattle.std.proofs.Common.{◌≡◌, ℕ, List, [], ◌∷◌, ◌++◌, set, replicate, sym, ap, ◌∙◌, arith}
use Rattle.records.specs.BytesLemmas.{bytes_of_two}
use Rattle.stores.specs.Store.{StoreState, touched_once}
use Rattle.shape.specs.Shape.{Shape}
use Rattle.layout.specs.Pages.{padded, header_page, node_page, head_page}
use Rattle.layout.specs.Header.{empty_header, emptied, empty_pages, touched_more}

abbrev pub blank : List ℕ
blank = replicate 512 0

blank_node : blank ≡ node_page [] [] 0
unfolding node_page
blank_node = sym (ap (λ b. padded (0 ∷ (b ++ ([] ++ [])))) (bytes_of_two 0))

abbrev pub wrote : ℕ → List ℕ → StoreState → StoreState
wrote p page s = record { pages = set s.pages p page; count = touched_once s.count }

three_touches : (count : ℕ) → touched_once (touched_once (touched_once count)) ≡ touched_more 3 count
three_touches count = omega arith

pub wrote_empty :
    (kind : ℕ) (shape : Shape) (s₀ s₁ s₂ s₃ : StoreState) (page : List ℕ)
    → s₁ ≡ wrote 2 blank s₀ → s₂ ≡ wrote 1 blank s₁ → s₃ ≡ wrote 0 page s₂
    → page ≡ header_page kind (empty_header shape) → s₃ ≡ emptied kind shape s₀
unfolding head_page
wrote_empty kind shape s₀ s₁ s₂ s₃ page e₁ e₂ e₃ is =
    let pages = s₀.pages in
    e₃ ∙ ap (wrote 0 page) (e₂ ∙ ap (wrote 1 blank) e₁)
    ∙ ap (λ b. record {
      pages = set (set (set pages 2 blank) 1 b) 0 page;
      count = touched_once (touched_once (touched_once s₀.count));
    }) blank_node
    ∙ ap (λ h. record {
      pages = set (set (set pages 2 blank) 1 (node_page [] [] 0)) 0 h;
      count = touched_once (touched_once (touched_once s₀.count));
    }) is
    ∙ ap (λ n. record { pages = empty_pages kind shape pages; count = n }) (three_touches s₀.count)
