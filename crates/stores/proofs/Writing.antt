-- A place written in an area: it holds what was written, and the other places, which do not overlap it, what they held.
use Rattle.std.proofs.Common.{◌≡◌, ℕ, suc, ◌+◌, ◌-◌, ◌*◌, ◌/◌, ◌%◌, ◌<◌, ◌≤◌, min, List, [], ◌∷◌, ◌++◌, map, length, get_or, take, drop, set, sym, refl, ap, ◌∙◌, ⊎_elim, arith}
use borrow.Rule.Slice.PartMut.{put_mid}
use Rattle.std.proofs.lemmas.List.{same_lists, length-set, get_or-set_same, get_or-set_other, length-take, length-drop, length-append, length-take-le, length-map, drop_at, take_at, get_or-take, get_or-drop, get_or_append_left, get_or-append_right, get_or_past, map-set}
use Rattle.std.proofs.lemmas.Bool.{cases_eq, cases_lt}
use Rattle.stores.specs.Places.{low_bytes, place_at, written, places, contents, length-places, get_or-places, length-place_at}

pub low_same : (xs : List ℕ) → ((i : ℕ) → get_or xs i 0 < 256) → low_bytes xs ≡ xs
low_same [] h = refl
low_same (x ∷ xs) h =
    let a : x % 256 ≡ x = omega (arith, h 0) in
    let b = low_same xs (λ i. h (suc i)) in cc

pub place_same :
    (p : ℕ) (area b : List ℕ) → length b ≡ 512 → 512 * p + 512 ≤ length area → place_at (written p area b) p ≡ b
place_same p area b len h =
    let at : length (take (512 * p) area) ≡ 512 * p = length-take-le (512 * p) area (omega arith) in
    ap (take 512) (drop_at (take (512 * p) area) (b ++ drop 512 (drop (512 * p) area)) (512 * p) at)
    ∙ take_at b _ 512 len

pub length-written :
    (p : ℕ) (area b : List ℕ) → length b ≡ 512 → 512 * p + 512 ≤ length area
    → length (written p area b) ≡ length area
length-written p area b len h = simp (length-append, length-take, length-drop) (omega arith)

get_or-place :
    (j k : ℕ) (area : List ℕ) (d : ℕ) → k < 512 → get_or (place_at area j) k d ≡ get_or area (512 * j + k) d
get_or-place j k area d h = get_or-take 512 (drop (512 * j) area) k d h ∙ get_or-drop (512 * j) area k d

written_below :
    (a : ℕ) (area b : List ℕ) (i d : ℕ) → a ≤ length area → i < a → get_or (put_mid a 512 area b) i d ≡ get_or area i d
written_below a area b i d h w =
    let n : length (take a area) ≡ a = length-take-le a area h in
    get_or_append_left (take a area) _ d i (omega arith) ∙ get_or-take a area i d w

written_above :
    (a : ℕ) (area b : List ℕ) (i d : ℕ) → a ≤ length area → length b ≡ 512 → a + 512 ≤ i
    → get_or (put_mid a 512 area b) i d ≡ get_or area i d
written_above a area b i d h len w =
    let n : length (take a area) ≡ a = length-take-le a area h in
    get_or-append_right (take a area) _ a i d n (omega arith)
    ∙ get_or-append_right b _ 512 (i - a) d len (omega arith)
    ∙ get_or-drop 512 (drop a area) (i - a - 512) d
    ∙ get_or-drop a area (512 + (i - a - 512)) d
    ∙ ap (λ m. get_or area m d) (omega arith)

pub place_other :
    (p j : ℕ) (area b : List ℕ) → length b ≡ 512 → 512 * p + 512 ≤ length area → 512 * j + 512 ≤ length area
    → (j ≡ p → ⊥) → place_at (written p area b) j ≡ place_at area j
place_other p j area b len h hj ne =
    let n = length-written p area b len h in
    same_lists _ _ (length-place_at j _ (omega arith) ∙ sym (length-place_at j area hj)) (λ k d w.
    let m = length-place_at j (written p area b) (omega arith) in
    get_or-place j k _ d (omega arith)
    ∙ ⊎_elim
    (λ lt. written_below (512 * p) area b (512 * j + k) d (omega arith) (omega arith))
    (λ le. written_above (512 * p) area b (512 * j + k) d (omega arith) len (omega arith))
    (cases_lt j p)
    ∙ sym (get_or-place j k area d (omega arith)))

set_place :
    (most p : ℕ) (area b : List ℕ) → length b ≡ 512 → p < length (places most area)
    → places most (written p area b) ≡ set (places most area) p b
set_place most p area b len h =
    let e₀ = length-places most area in
    let i : 512 * p + 512 ≤ length area = omega arith in
    let n = length-written p area b len i in
    let after = written p area b in
    let e₁ = length-places most after in
    let e₂ : length (places most after) ≡ length (places most area) =
    e₁ ∙ ap (λ m. min most (m / 512)) n ∙ sym e₀ in
    same_lists _ _ (e₂ ∙ sym (length-set _ p b))
    (λ k d w. get_or-places most k after d w ∙ ⊎_elim
    (λ e. rw e (place_same p area b len i ∙ sym (get_or-set_same _ p b d h)))
    (λ ne. place_other p k area b len i (omega arith) ne
    ∙ sym (get_or-set_other _ p k b d ne ∙ get_or-places most k area d (omega arith)))
    (cases_eq k p))

pub set_contents :
    (most p : ℕ) (area b : List ℕ) → length b ≡ 512 → ((i : ℕ) → get_or b i 0 < 256)
    → p < length (contents most area) → contents most (written p area b) ≡ set (contents most area) p b
set_contents most p area b len small h =
    let l = length-map (places most area) low_bytes in
    ap (map low_bytes) (set_place most p area b len (omega arith))
    ∙ map-set low_bytes (places most area) p b
    ∙ ap (set (contents most area) p) (low_same b small)

pub small_place :
    (area : List ℕ) (p : ℕ) → ((i : ℕ) → get_or area i 0 < 256) → (i : ℕ) → get_or (place_at area p) i 0 < 256
small_place area p h i = ⊎_elim
    (λ lt. rw (get_or-place p i area 0 lt) (h (512 * p + i)))
    (λ le. let e = get_or_past (place_at area p) i 0 (let l = length-take 512 (drop (512 * p) area) in omega arith) in
    omega (arith, e))
    (cases_lt i 512)
