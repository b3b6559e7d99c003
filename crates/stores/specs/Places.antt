-- The places of an area: its whole pieces of 512 bytes, one after the other; a rest is no place.
use Rattle.std.specs.Prelude.{◌≡◌, ℕ, zero, suc, ◌+◌, ◌*◌, ◌/◌, ◌%◌, ◌<◌, ◌≤◌, min, List, [], ◌∷◌, ◌++◌, map, length, take, drop, slice_index_or}
use Rattle.std.proofs.Common.{ap, ◌∙◌, arith}
use Rattle.std.specs.List.{range_with_len, AllByRecursion}
use Rattle.std.proofs.lemmas.List.FromFn.{length-map-range_with_len, get_or-map-range_with_len}
use Rattle.std.proofs.lemmas.List.{length-take, length-drop, length-map, get_or-map}

-- In the logic an area is any list of numbers. A slice's are bytes, which stay as they are here.
abbrev pub low_bytes : List ℕ → List ℕ
low_bytes = map (λ b. b % 256)

abbrev pub place_at : List ℕ → ℕ → List ℕ
place_at area p = take 512 (drop (512 * p) area)

-- the places of an area, at most so many
abbrev pub places : ℕ → List ℕ → List (List ℕ)
places most area = map (place_at area) (range_with_len 0 (min most (length area / 512)))

-- what the places hold
abbrev pub contents : ℕ → List ℕ → List (List ℕ)
contents most area = map low_bytes (places most area)

-- the area with place p written
abbrev pub written : ℕ → List ℕ → List ℕ → List ℕ
written p area page = take (512 * p) area ++ (page ++ drop 512 (drop (512 * p) area))

pub length-places : (most : ℕ) (area : List ℕ) → length (places most area) ≡ min most (length area / 512)
length-places most area = length-map-range_with_len (place_at area) 0 _

pub length-contents : (most : ℕ) (area : List ℕ) → length (contents most area) ≡ min most (length area / 512)
length-contents most area = length-map (places most area) low_bytes ∙ length-places most area

pub inside : (most p : ℕ) (area : List ℕ) → p < length (contents most area) → 512 * p + 512 ≤ length area
inside most p area h = let e = length-contents most area in omega arith

pub get_or-places :
    (most p : ℕ) (area d : List ℕ) → p < length (places most area)
    → slice_index_or (places most area) p d ≡ place_at area p
get_or-places most p area d h =
    let e = length-places most area in get_or-map-range_with_len (place_at area) 0 _ p p d (omega arith) (omega arith)

pub get_or-contents :
    (most p : ℕ) (area : List ℕ) → p < length (contents most area)
    → slice_index_or (contents most area) p [] ≡ low_bytes (place_at area p)
get_or-contents most p area h =
    let l = length-map (places most area) low_bytes in
    get_or-map low_bytes (places most area) p [] [] (omega arith)
    ∙ ap low_bytes (get_or-places most p area [] (omega arith))

pub length-place_at : (p : ℕ) (area : List ℕ) → 512 * p + 512 ≤ length area → length (place_at area p) ≡ 512
length-place_at p area h = simp (length-take, length-drop) (omega arith)

pub low_small : (xs : List ℕ) → AllByRecursion (λ b. b < 256) (low_bytes xs)
low_small [] = tt
low_small (x ∷ xs) = (omega arith, low_small xs)

pub contents_small :
    (ps : List (List ℕ)) (p : ℕ) → AllByRecursion (λ b. b < 256) (slice_index_or (map low_bytes ps) p [])
contents_small [] p = tt
contents_small (x ∷ ps) zero = low_small x
contents_small (x ∷ ps) (suc p) = contents_small ps p

pub contents_whole :
    (most p : ℕ) (area : List ℕ) → p < length (contents most area)
    → length (slice_index_or (contents most area) p []) ≡ 512
contents_whole most p area h =
    ap length (get_or-contents most p area h) ∙ length-map (place_at area p) (λ b. b % 256)
    ∙ length-place_at p area (inside most p area h)
