-- The shifting store: a table says in which place each page lies, and one place more is spare.
use Rattle.std.specs.Prelude.{◌≡◌, ℕ, zero, suc, ◌+◌, ◌-◌, ◌*◌, ◌/◌, ◌%◌, ◌^◌, ◌<◌, ◌≤◌, min, Bool, true, false, cond, List, [], ◌∷◌, map, length, ◌≢◌, nat_lt, slice_index, slice_index_or, refl}
use Rattle.std.proofs.Common.{ap, ◌∙◌, arith}
use Rattle.std.specs.List.{range_with_len, AllByRecursion}
use Rattle.std.proofs.lemmas.Bool.{ltb-true, cond_both}
use Rattle.std.proofs.lemmas.List.FromFn.{length-map-range_with_len, get_or-map-range_with_len}
use Rattle.std.proofs.lemmas.List.{length-map}
use Rattle.stores.specs.Store.{StoreState, Lawful}
use Rattle.stores.specs.Places.{place_at, low_bytes, low_small, length-place_at}

-- the pages of an area of so many bytes: one fewer than its places, at most 1,024
abbrev pub shifting_size : ℕ → ℕ
shifting_size bytes = min 1024 (bytes / 512 - 1)

-- every page lies in a place of the area, and none in the spare one
abbrev pub Inside : List ℕ → ℕ → ℕ → Type 0
Inside table size spare = (p : ℕ) → p < size → (slice_index table p ≤ size) × (slice_index table p ≢ spare)

-- no two pages lie in one place
abbrev pub Apart : List ℕ → ℕ → Type 0
Apart table size = (p q : ℕ) → (p < q) × (q < size) × (slice_index table p ≡ slice_index table q) → ⊥

-- the pages that an area of so many bytes has room for, beside the spare place
abbrev pub held : ℕ → ℕ → ℕ
held size bytes = cond (nat_lt size (bytes / 512)) size 0

abbrev pub shifting_pages : List ℕ → List ℕ → ℕ → List (List ℕ)
shifting_pages area table size =
    map (λ p. low_bytes (place_at area (slice_index table p))) (range_with_len 0 (held size (length area)))

abbrev pub shifting_state : List ℕ → List ℕ → ℕ → ℕ → StoreState
shifting_state area table size count =
    record { pages = shifting_pages area table size; count = count % 2 ^ 64 }

pub held_room :
    (p size bytes : ℕ) → p < held size bytes
    → (p < size) × (held size bytes ≡ size) × (512 * size + 512 ≤ bytes)
held_room p size bytes = go (nat_lt size (bytes / 512)) refl
  where
    go : (b : Bool) → nat_lt size (bytes / 512) ≡ b → p < cond b size 0
        → (p < size) × (cond b size 0 ≡ size) × (512 * size + 512 ≤ bytes)
    go true e h = (h, refl, omega (arith, ltb-true size (bytes / 512) e))
    go false e h = absurd (omega arith)

pub length-shifting :
    (area table : List ℕ) (size : ℕ) → length (shifting_pages area table size) ≡ held size (length area)
length-shifting area table size = length-map-range_with_len (λ p. low_bytes (place_at area (slice_index table p))) 0 _

pub get_or-shifting :
    (area table : List ℕ) (size p : ℕ) (d : List ℕ) → p < held size (length area)
    → slice_index_or (shifting_pages area table size) p d ≡ low_bytes (place_at area (slice_index table p))
get_or-shifting area table size p d h =
    get_or-map-range_with_len (λ p. low_bytes (place_at area (slice_index table p))) 0 _ p p d h (omega arith)

pub held_le : (size bytes : ℕ) → held size bytes ≤ size
held_le size bytes =
    cond_both (nat_lt size (bytes / 512)) size 0 (λ n. n ≤ size) (λ _. omega arith) (λ _. omega arith)

map-small : {A : Type 0} (f : A → List ℕ) (xs : List A) (p : ℕ)
    → AllByRecursion (λ b. b < 256) (slice_index_or (map (λ x. low_bytes (f x)) xs) p [])
map-small f [] p = tt
map-small f (x ∷ xs) zero = low_small (f x)
map-small f (x ∷ xs) (suc p) = map-small f xs p

pub shifting_lawful :
    (area table : List ℕ) (size spare count : ℕ) → size ≤ 1024 → Inside table size spare
    → Lawful (shifting_state area table size count)
shifting_lawful area table size spare count few inside =
    let n = length-shifting area table size in
    record {
      few = omega (arith, n, held_le size (length area));
      whole = λ p h.
          let lt : p < held size (length area) = omega (arith, n) in
          let room = held_room p size (length area) lt in
          ap length (get_or-shifting area table size p [] lt)
          ∙ length-map (place_at area (slice_index table p)) (λ b. b % 256)
          ∙ length-place_at (slice_index table p) area (omega (arith, room.2, (inside p room.0).0));
      bytes = map-small (λ p. place_at area (slice_index table p)) (range_with_len 0 (held size (length area)));
      counted = omega arith;
    }
