-- Entries and their bytes determine each other: key and value have fixed widths, a tombstone's value is zeros, and the
-- mark word is read bit by bit by halving it.
use Rattle.std.proofs.Common.{◌≡◌, ℕ, zero, suc, ◌+◌, ◌*◌, ◌/◌, ◌%◌, ◌^◌, ◌<◌, ◌≤◌, Bool, true, false, eqb, List, [], ◌∷◌, ◌++◌, map, length, take, drop, replicate, Some, None, Option, sym, refl, ap, ◌∙◌, append_assoc, suc-mul, pow-suc, zero-mul, div-one, arith, lit<, take-add}
use Rattle.std.specs.List.{flat_map, AllByRecursion}
use Rattle.std.proofs.lemmas.Nat.{shr-shr}
use Rattle.std.proofs.lemmas.Bool.{and_parts, eqb-true, eq-eqb, ne_eqb, both_ways}
use Rattle.std.proofs.lemmas.List.{length-take-le, length-drop, length-append, length-replicate, take_at, drop_at, drop-drop}
use Rattle.records.specs.Kind.{Kind, Lawful, record_width}
use Rattle.layout.specs.Pages.{ByteEntry, value_bytes, entry_bytes, mark_of, mark_word}
use Rattle.layout.specs.Holds.{ValidValue, ValidEntry}
use Rattle.layout.specs.LeafPages.{RawEntry, raw_entries, value_unless, entry_of, good_value, good_values}
use Rattle.layout.proofs.Checked.{zeros_are}

-- from bytes to entries, and back to the same bytes

value_back :
    (kind : Kind) (marked : Bool) (x : List ℕ) → length x ≡ kind.value_width → good_value kind marked x ≡ true
    → value_bytes kind.value_width (value_unless marked x) ≡ x
value_back kind true x l h = sym (zeros_are x h ∙ ap (λ n. replicate n 0) l)
value_back kind false x l h = refl

pub entries_back :
    (kind : Kind) (n m : ℕ) (bs : List ℕ) → n * record_width kind ≤ length bs
    → good_values kind (raw_entries kind.key_width kind.value_width n m bs) ≡ true
    → flat_map (entry_bytes kind) (map entry_of (raw_entries kind.key_width kind.value_width n m bs))
    ≡ take (n * record_width kind) bs
unfolding raw_entries good_values
entries_back kind zero m bs fits h = rw zero-mul
entries_back kind (suc n) m bs fits h =
    let w = kind.key_width in
    let v = kind.value_width in
    let marked = eqb (m % 2) 1 in
    let value = take v (drop w bs) in
    let rest = drop (w + v) bs in
    let e : suc n * (w + v) ≡ (w + v) + n * (w + v) = omega (arith, suc-mul n (w + v)) in
    let p = and_parts (good_value kind marked value) (good_values kind (raw_entries w v n (m / 2) rest)) h in
    let l : length value ≡ v = length-take-le v (drop w bs) (omega (arith, length-drop w bs)) in
    let ih = entries_back kind n (m / 2) rest (omega (arith, length-drop (w + v) bs)) p.1 in
    let others = flat_map (entry_bytes kind) (map entry_of (raw_entries w v n (m / 2) rest)) in
    rw e (
    ap (λ x. (take w bs ++ x) ++ others) (value_back kind marked value l p.0)
    ∙ ap (λ x. (take w bs ++ value) ++ x) ih
    ∙ ap (λ x. x ++ take (n * (w + v)) rest) (sym (take-add w v bs))
    ∙ sym (take-add (w + v) (n * (w + v)) bs))

mark_is : (m : ℕ) (x : List ℕ) → mark_of (value_unless (eqb (m % 2) 1) x) ≡ m % 2
mark_is m x = go (eqb (m % 2) 1) refl
  where
    go : (b : Bool) → eqb (m % 2) 1 ≡ b → mark_of (value_unless b x) ≡ m % 2
    go true e = sym (eqb-true (m % 2) 1 e)
    go false e =
        let n : m % 2 ≡ 1 → ⊥ = λ q. both_ways (eqb (m % 2) 1) e (eq-eqb (m % 2) 1 q) in grind arith

pub marks_back :
    (w v n m : ℕ) (bs : List ℕ) → m < 2 ^ n → mark_word (map entry_of (raw_entries w v n m bs)) ≡ m
unfolding raw_entries mark_word
marks_back w v zero m bs h = omega arith
marks_back w v (suc n) m bs h =
    let p : 2 ^ suc n ≡ 2 ^ n * 2 = pow-suc 2 n in
    omega (
      arith,
      mark_is m (take v (drop w bs)),
      marks_back w v n (m / 2) (drop (w + v) bs) (omega arith),
    )

pub length-raw_entries : (w v n m : ℕ) (bs : List ℕ) → length (raw_entries w v n m bs) ≡ n
unfolding raw_entries
length-raw_entries w v zero m bs = refl
length-raw_entries w v (suc n) m bs = ap suc (length-raw_entries w v n (m / 2) (drop (w + v) bs))

-- entry i of those on a page
abbrev pub raw_at : ℕ → ℕ → ℕ → List ℕ → ℕ → RawEntry
raw_at w v m bs i = record {
  key = take w (drop (i * (w + v)) bs);
  marked = eqb ((m / 2 ^ i) % 2) 1;
  value = take v (drop w (drop (i * (w + v)) bs));
}

pub raw_drop :
    (w v n m : ℕ) (bs : List ℕ) (i : ℕ) → i < n
    → drop i (raw_entries w v n m bs) ≡ raw_at w v m bs i ∷ drop (suc i) (raw_entries w v n m bs)
unfolding raw_entries
raw_drop w v zero m bs i h = absurd (omega arith)
raw_drop w v (suc n) m bs zero h = rw (zero-mul (w + v), div-one m)
raw_drop w v (suc n) m bs (suc i) h =
    let ih = raw_drop w v n (m / 2) (drop (w + v) bs) i (omega arith) in
    let a : suc i * (w + v) ≡ (w + v) + i * (w + v) = omega (arith, suc-mul i (w + v)) in
    let b : 1 + i ≡ suc i = omega arith in
    let c : m / 2 / 2 ^ i ≡ m / 2 ^ suc i = rw b at (shr-shr m 1 i) in
    let d = drop-drop (i * (w + v)) (w + v) bs in
    rw (a, ← c, ← d) ih

-- from entries to bytes, and back to the same entries

abbrev pub is_tombstone : Option (List ℕ) → Bool
is_tombstone None = true
is_tombstone (Some value) = false

abbrev pub raw_of : Kind → ByteEntry → RawEntry
raw_of kind e =
    record { key = e.key; marked = is_tombstone e.value; value = value_bytes kind.value_width e.value }

length-value :
    (kind : Kind) → Lawful kind → (o : Option (List ℕ)) → ValidValue kind o
    → length (value_bytes kind.value_width o) ≡ kind.value_width
length-value kind law None h = length-replicate kind.value_width 0
length-value kind law (Some x) h = law.value_long x h

mark_odd : (o : Option (List ℕ)) (n : ℕ) → eqb ((mark_of o + 2 * n) % 2) 1 ≡ is_tombstone o
mark_odd None n = eq-eqb ((1 + 2 * n) % 2) 1 (omega arith)
mark_odd (Some x) n = ne_eqb ((0 + 2 * n) % 2) 1 (λ e. omega arith)

mark_half : (o : Option (List ℕ)) (n : ℕ) → (mark_of o + 2 * n) / 2 ≡ n
mark_half None n = omega arith
mark_half (Some x) n = omega arith

raw_same :
    (a b : List ℕ) (g h : Bool) (x y : List ℕ) → a ≡ b → g ≡ h → x ≡ y
    → ◌≡◌ {A = RawEntry} (record { key = a; marked = g; value = x }) (record { key = b; marked = h; value = y })
raw_same a b g h x y p q r = cc

pub raw_of_lem :
    (kind : Kind) → Lawful kind → (es : List ByteEntry) (rest : List ℕ) → AllByRecursion (ValidEntry kind) es
    → raw_entries kind.key_width kind.value_width (length es) (mark_word es) (flat_map (entry_bytes kind) es ++ rest)
    ≡ map (raw_of kind) es
unfolding raw_entries mark_word
raw_of_lem kind law [] rest h = refl
raw_of_lem kind law (e ∷ es) rest h =
    let w = kind.key_width in
    let v = kind.value_width in
    let a = e.key in
    let b = value_bytes v e.value in
    let others = flat_map (entry_bytes kind) es in
    let c = others ++ rest in
    let whole = ((a ++ b) ++ others) ++ rest in
    let la : length a ≡ w = law.key_long a h.0.0 in
    let lb : length b ≡ v = length-value kind law e.value h.0.1 in
    let lab : length (a ++ b) ≡ w + v = omega (arith, length-append a b) in
    let e1 : whole ≡ (a ++ b) ++ c = append_assoc (a ++ b) others rest in
    let all : whole ≡ a ++ (b ++ c) = e1 ∙ append_assoc a b c in
    let k1 : take w whole ≡ a = ap (take w) all ∙ take_at a (b ++ c) w la in
    let k2 : take v (drop w whole) ≡ b =
    ap (λ x. take v (drop w x)) all ∙ ap (take v) (drop_at a (b ++ c) w la) ∙ take_at b c v lb in
    let k3 : drop (w + v) whole ≡ c = ap (drop (w + v)) e1 ∙ drop_at (a ++ b) c (w + v) lab in
    let ih = raw_of_lem kind law es rest h.1 in
    let h1 = raw_same _ _ _ _ _ _ k1 (mark_odd e.value (mark_word es)) k2 in
    let h2 :
    raw_entries w v (length es) ((mark_of e.value + 2 * mark_word es) / 2) (drop (w + v) whole)
    ≡ map (raw_of kind) es = rw (mark_half e.value (mark_word es), k3) ih in
    cc

pub value_raw : (v : ℕ) (o : Option (List ℕ)) → value_unless (is_tombstone o) (value_bytes v o) ≡ o
value_raw v None = refl
value_raw v (Some x) = refl

pub entries_raw : (kind : Kind) (es : List ByteEntry) → map entry_of (map (raw_of kind) es) ≡ es
entries_raw kind [] = refl
entries_raw kind (e ∷ es) =
    let more : ByteEntry → List ByteEntry = λ x. x ∷ map entry_of (map (raw_of kind) es) in
    ap (λ (o : Option (List ℕ)). more (record { key = e.key; value = o })) (value_raw kind.value_width e.value)
    ∙ ap (λ r. e ∷ r) (entries_raw kind es)

mark_small : (o : Option (List ℕ)) → mark_of o ≤ 1
mark_small None = omega arith
mark_small (Some x) = omega arith

pub marks_small : (es : List ByteEntry) → mark_word es < 2 ^ length es
unfolding mark_word
marks_small [] = lit< tt
marks_small (e ∷ es) =
    let p : 2 ^ suc (length es) ≡ 2 ^ length es * 2 = pow-suc 2 (length es) in
    omega (arith, mark_small e.value, marks_small es)

pub length-entries :
    (kind : Kind) → Lawful kind → (es : List ByteEntry) → AllByRecursion (ValidEntry kind) es
    → length (flat_map (entry_bytes kind) es) ≡ length es * record_width kind
length-entries kind law [] h = sym (zero-mul (record_width kind))
length-entries kind law (e ∷ es) h =
    omega (
      arith,
      length-append (entry_bytes kind e) (flat_map (entry_bytes kind) es),
      length-append e.key (value_bytes kind.value_width e.value),
      law.key_long e.key h.0.0,
      length-value kind law e.value h.0.1,
      length-entries kind law es h.1,
      suc-mul (length es) (record_width kind),
    )
