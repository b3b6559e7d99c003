-- The entries of a leaf page, taken off its bytes one by one.
use Rattle.std.proofs.Common.{◌≡◌, ℕ, zero, suc, ◌+◌, ◌*◌, ◌/◌, ◌%◌, ◌<◌, ◌≤◌, eqb, List, [], ◌∷◌, ◌++◌, length, take, drop, sym, refl, ap, ◌∙◌, suc-mul, zero-mul, arith}
use Rattle.std.proofs.lemmas.List.{length-append, take_at, drop_at, take-take, drop-take}
use Rattle.layout.specs.LeafPages.{raw_entries}

-- the first of them, and the others
pub entry_first :
    (w v n m : ℕ) (all entry rest : List ℕ) → 1 ≤ w → all ≡ entry ++ rest → length entry ≡ w + v
    → length all ≡ n * (w + v)
    → (k : ℕ) × (length rest ≡ k * (w + v)) × (raw_entries w v n m all
    ≡ record { key = take w entry; marked = eqb (m % 2) 1; value = drop w entry } ∷ raw_entries w v k (m / 2) rest)
unfolding raw_entries
entry_first w v zero m all entry rest some parts long whole =
    absurd (omega (arith, ap length parts, length-append entry rest, zero-mul (w + v)))
entry_first w v (suc k) m all entry rest some parts long whole =
    let e : suc k * (w + v) ≡ (w + v) + k * (w + v) = omega (arith, suc-mul k (w + v)) in
    let front : take (w + v) all ≡ entry = ap (take (w + v)) parts ∙ take_at entry rest (w + v) long in
    let key : take w all ≡ take w entry = sym (take-take w (w + v) all (omega arith)) ∙ ap (take w) front in
    let value : take v (drop w all) ≡ drop w entry = sym (drop-take w v all) ∙ ap (drop w) front in
    let after : drop (w + v) all ≡ rest = ap (drop (w + v)) parts ∙ drop_at entry rest (w + v) long in
    (k, omega (arith, ap length parts, length-append entry rest, e, whole), rw (key, value, after))

-- where no entry is left
pub entry_none :
    (w v n m : ℕ) (all : List ℕ) → length all < w + v → length all ≡ n * (w + v) → raw_entries w v n m all ≡ []
unfolding raw_entries
entry_none w v zero m all short whole = refl
entry_none w v (suc k) m all short whole = absurd (omega (arith, suc-mul k (w + v)))

-- the bytes behind them do not matter
pub entries_taken :
    (w v n m : ℕ) (bs : List ℕ) → raw_entries w v n m (take (n * (w + v)) bs) ≡ raw_entries w v n m bs
unfolding raw_entries
entries_taken w v zero m bs = refl
entries_taken w v (suc n) m bs =
    let e : suc n * (w + v) ≡ (w + v) + n * (w + v) = omega (arith, suc-mul n (w + v)) in
    let all = take ((w + v) + n * (w + v)) bs in
    let key : take w all ≡ take w bs = take-take w ((w + v) + n * (w + v)) bs (omega arith) in
    let others : drop (w + v) all ≡ take (n * (w + v)) (drop (w + v) bs) = drop-take (w + v) (n * (w + v)) bs in
    let front : take (w + v) all ≡ take (w + v) bs = take-take (w + v) ((w + v) + n * (w + v)) bs (omega arith) in
    let value : take v (drop w all) ≡ take v (drop w bs) =
    sym (drop-take w v all) ∙ ap (drop w) front ∙ drop-take w v bs in
    rw (e, key, value, others) (ap (λ es. record { key = take w bs; marked = eqb (m % 2) 1; value = take v (drop w bs) }
    ∷ es) (entries_taken w v n (m / 2) (drop (w + v) bs)))
