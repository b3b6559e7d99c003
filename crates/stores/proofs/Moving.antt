-- A page written into the spare place: it is read from there, and every other page from where it was, since no page
-- lies in the spare place.
use Rattle.std.proofs.Common.{◌≡◌, ℕ, ◌+◌, ◌*◌, ◌/◌, ◌<◌, ◌≤◌, min, ltb, List, [], length, get_or, set, sym, ap, ◌∙◌, ⊎_elim, arith}
use Rattle.std.proofs.lemmas.List.{ext_get_or, same_lists, length-set, get_or-set_same, get_or-set_other}
use Rattle.std.proofs.lemmas.Bool.{cases_eq, cond_both, ltb-true, ltb-false}
use Rattle.stores.specs.Places.{low_bytes, place_at, written, contents, length-contents, get_or-contents}
use Rattle.stores.specs.Shifting.{
  Inside,
  held,
  shifting_size,
  held_room,
  shifting_pages,
  length-shifting,
  get_or-shifting,
}
use Rattle.stores.proofs.Writing.{low_same, place_same, place_other, length-written}

pub shifted :
    (area table : List ℕ) (size spare p : ℕ) (b : List ℕ)
    → p < held size (length area) → length table ≡ 1024 → size ≤ 1024 → spare ≤ size → Inside table size spare
    → length b ≡ 512 → ((i : ℕ) → get_or b i 0 < 256)
    → shifting_pages (written spare area b) (set table p spare) size ≡ set (shifting_pages area table size) p b
shifted area table size spare p b h long few spared inside len small =
    let room = held_room p size (length area) h in
    let fits : 512 * spare + 512 ≤ length area = omega (arith, room.2) in
    let after = written spare area b in
    let moved = set table p spare in
    let n : length after ≡ length area = length-written spare area b len fits in
    let e₁ = length-shifting after moved size in
    let e₂ = length-shifting area table size in
    let e₃ : length (shifting_pages after moved size) ≡ length (shifting_pages area table size) =
    e₁ ∙ ap (held size) n ∙ sym e₂ in
    same_lists _ _ (e₃ ∙ sym (length-set _ p b))
    (λ k d w.
    let k₁ : k < held size (length after) = omega (arith, e₁) in
    let k₂ : k < held size (length area) = omega (arith, e₂, e₃) in
    let r₂ = held_room k size (length area) k₂ in
    get_or-shifting after moved size k d k₁ ∙ ⊎_elim
    (λ e. rw e (ap (λ j. low_bytes (place_at after j)) (get_or-set_same table p spare 0 (omega (arith, room.0)))
    ∙ ap low_bytes (place_same spare area b len fits) ∙ low_same b small
    ∙ sym (get_or-set_same _ p b d (omega (arith, e₂)))))
    (λ ne. ap (λ j. low_bytes (place_at after j)) (get_or-set_other table p k spare 0 ne)
    ∙ ap low_bytes (place_other spare (get_or table k 0) area b len fits (omega (arith, r₂.2, (inside k r₂.0).0))
    (inside k r₂.0).1)
    ∙ sym (get_or-set_other _ p k b d ne ∙ get_or-shifting area table size k d k₂))
    (cases_eq k p))

-- a new store: page p in place p
pub fresh_pages :
    (area table : List ℕ) (size : ℕ) → size ≡ shifting_size (length area)
    → ((p : ℕ) → p < size → get_or table p 0 ≡ p)
    → shifting_pages area table size ≡ contents size area
fresh_pages area table size is own =
    let e₁ = length-shifting area table size in
    let e₂ = length-contents size area in
    let e₃ : held size (length area) ≡ min size (length area / 512) =
    cond_both (ltb size (length area / 512)) size 0 (λ n. n ≡ min size (length area / 512))
    (λ e. omega (arith, ltb-true size (length area / 512) e))
    (λ e. omega (arith, ltb-false size (length area / 512) e)) in
    ext_get_or [] _ _ (e₁ ∙ e₃ ∙ sym e₂) (λ k w.
    let lt : k < held size (length area) = omega arith in
    let room = held_room k size (length area) lt in
    get_or-shifting area table size k [] lt
    ∙ ap (λ j. low_bytes (place_at area j)) (own k room.0)
    ∙ sym (get_or-contents size k area (omega arith)))
