-- Parts of a page: bytes that are all zero, the first entry of a leaf page, and its mark word.
use Rattle.std.proofs.Common.{◌≡◌, ℕ, suc, ◌+◌, ◌-◌, ◌*◌, ◌^◌, ◌<◌, ◌≤◌, Bool, true, false, ◌&&◌, eqb, ltb, leb, List, ◌∷◌, length, max, get_or, drop, sym, refl, ap, ◌∙◌, inl, inr, pow-suc, arith, pow_mono}
use Rattle.std.proofs.lemmas.List.{at_drop_more}
use Rattle.std.proofs.lemmas.Bool.Decides.{nat_tests}
use lib.Count.{count_leading_zeros, leading_length}
use Rattle.std.specs.Str.{bytes_eq}
use Rattle.std.proofs.lemmas.Bool.{cases_lt, lt-leb, le-leb, le-ltb, lt-ltb}
use Rattle.records.specs.Kind.{Kind}
use Rattle.layout.specs.Checked.{zeros}
use Rattle.layout.specs.LeafPages.{raw_entries, raw_entries_on, marks_on, good_first}
use Rattle.layout.proofs.RawEntries.{raw_at, raw_drop}
use Rattle.inspect.specs.Bounds.{key_on}

-- one byte more, where the largest so far is m
pub zeros_past :
    (xs : List ℕ) (i m n : ℕ) → i < length xs → n ≡ max m (get_or xs i 0)
    → (eqb n 0 && zeros (drop (i + 1) xs)) ≡ (eqb m 0 && zeros (drop i xs))
zeros_past xs i m n h e =
    let d : zeros (drop i xs) ≡ (eqb (get_or xs i 0) 0 && zeros (drop (i + 1) xs)) = at_drop_more zeros xs i 0 h in
    rw d (grind (arith, nat_tests, e))

pub and_true : (a b : Bool) → b ≡ true → (a && b) ≡ a
and_true true b e = e
and_true false b e = refl

module _ (kind : Kind) (t : ℕ) (page : List ℕ) where
  first_entry :
      1 ≤ t → drop 0 (raw_entries_on kind t page)
      ≡ raw_at kind.key_width kind.value_width (marks_on page) (drop 9 page) 0 ∷ drop 1 (raw_entries_on kind t page)
  first_entry h = raw_drop kind.key_width kind.value_width t (marks_on page) (drop 9 page) 0 h

  pub first_is :
      (first key : List ℕ) (r : Bool) → 1 ≤ t → key ≡ key_on kind page 0 → r ≡ bytes_eq key first
      → r ≡ good_first first (raw_entries_on kind t page)
  first_is first key r h a e =
      e ∙ ap (λ x. bytes_eq x first) a ∙ sym (ap (good_first first) (first_entry h))

  pub first_none : (first : List ℕ) → t ≡ 0 → good_first first (raw_entries_on kind t page) ≡ true
  unfolding raw_entries
  first_none first h = rw h

-- the highest bit of a word is below place t exactly where the word is below 2^t
pub marks_low : (t m : ℕ) → m < 2 ^ 64 → leb (64 - count_leading_zeros 64 m) t ≡ ltb m (2 ^ t)
marks_low t m h =
    let l = leading_length 64 m h in
    let n = l.0 in
    let e : 64 - count_leading_zeros 64 m ≡ n = omega (arith, l.1) in
    rw e (elim (cases_lt t n) [
      | inl q ↦ (let p : 2 ^ suc t ≤ 2 ^ n = pow_mono {i = suc t} {j = n} q in
          let s : 2 ^ suc t ≡ 2 ^ t * 2 = pow-suc 2 t in
          lt-leb n t q ∙ sym (le-ltb m (2 ^ t) (omega (arith, l.3))))
      | inr q ↦ (let p : 2 ^ n ≤ 2 ^ t = pow_mono {i = n} {j = t} q in
          le-leb n t q ∙ sym (lt-ltb m (2 ^ t) (omega (arith, l.2))))
    ])
