-- An order by a list of fields keeps the laws of a kind's order, whatever the fields are; two keys that agree in all
-- their fields are the same bytes.
use Rattle.std.specs.Prelude.{◌≡◌, ℕ, ◌+◌, ◌-◌, ◌<◌, ◌≤◌, min, true, List, [], ◌∷◌, ◌++◌, length, take, drop, sum, ◌≢◌, slice_index, refl}
use Rattle.std.specs.declared.cmp.Ordering.TheVariants.{Less, Equal, Greater}
use Rattle.std.specs.declared.cmp.Ordering.{Ordering}
use Rattle.std.proofs.Common.{sym, ap, ◌∙◌, arith}
use Rattle.std.specs.Ordering.{ordering_then, ordering_reverse, MatchOrdering, nat_cmp}
use Rattle.std.specs.Cmp.Lexicographic.{slice_cmp}
use Rattle.std.specs.List.{AllByRecursion}
use Rattle.std.proofs.lemmas.Bool.Decides.{nat_tests}
use Rattle.std.proofs.lemmas.List.Sums.{sum_by-cons}
use Rattle.std.proofs.ByRecursion.{All-take, All-drop}
use Rattle.std.proofs.lemmas.List.{length-drop, length-take-le, take-append-drop, drop-drop, drop_all, drop_more}
use Rattle.records.specs.Bytes.{bytes, word, bytes_of}
use Rattle.records.specs.Fields.{compared, by_fields, fields_from}
use Rattle.records.specs.Kind.{Kind, Lawful}
use Rattle.records.specs.BytesLemmas.{bytes_of_word}

pub fields_itself : (xs : List ℕ) → by_fields xs xs ≡ Equal
fields_itself [] = refl
fields_itself (x ∷ xs) = let h = fields_itself xs in grind (arith, nat_tests)

pub fields_mirrored : (xs ys : List ℕ) → by_fields ys xs ≡ ordering_reverse (by_fields xs ys)
fields_mirrored [] [] = refl
fields_mirrored [] (y ∷ ys) = refl
fields_mirrored (x ∷ xs) [] = refl
fields_mirrored (x ∷ xs) (y ∷ ys) = let h = fields_mirrored xs ys in grind (arith, nat_tests)

pub fields_same : (xs ys : List ℕ) → by_fields xs ys ≡ Equal → xs ≡ ys
fields_same [] [] h = refl
fields_same [] (y ∷ ys) h = grind arith
fields_same (x ∷ xs) [] h = grind arith
fields_same (x ∷ xs) (y ∷ ys) h = let k = fields_same xs ys in grind (arith, nat_tests, k)

pub fields_onward :
    (xs ys zs : List ℕ) → by_fields xs ys ≡ Less → by_fields ys zs ≡ Less → by_fields xs zs ≡ Less
fields_onward [] [] zs h k = k
fields_onward [] (y ∷ ys) [] h k = grind arith
fields_onward [] (y ∷ ys) (z ∷ zs) h k = refl
fields_onward (x ∷ xs) [] zs h k = grind arith
fields_onward (x ∷ xs) (y ∷ ys) [] h k = grind arith
fields_onward (x ∷ xs) (y ∷ ys) (z ∷ zs) h k = let m = fields_onward xs ys zs in grind (arith, nat_tests, m)

-- what a comparison in code answers
pub compared_is : (x y : ℕ) (r : Ordering) → MatchOrdering r (x < y) (x ≡ y) (y < x) → r ≡ compared x y
compared_is x y r h = grind (arith, nat_tests)

-- the library's order of two lists is this one
pub in_order : (xs ys : List ℕ) → slice_cmp nat_cmp xs ys ≡ by_fields xs ys
in_order [] [] = refl
in_order [] (y ∷ ys) = refl
in_order (x ∷ xs) [] = refl
in_order (x ∷ xs) (y ∷ ys) = let h = in_order xs ys in grind (arith, nat_tests, h)

-- one field decides, or the rest does
pub fields_step :
    (a b : List ℕ) (i : ℕ) → i < length a → i < length b
    → by_fields (drop i a) (drop i b)
    ≡ ordering_then (compared (slice_index a i) (slice_index b i)) (by_fields (drop (i + 1) a) (drop (i + 1) b))
fields_step a b i ha hb =
    ap (λ xs. by_fields xs (drop i b)) (drop_more a i 0 ha)
    ∙ ap (by_fields (slice_index a i ∷ drop (i + 1) a)) (drop_more b i 0 hb)

pub then_decided : (o p : Ordering) → (o ≢ Equal) → ordering_then o p ≡ o
then_decided Less p ne = refl
then_decided Equal p ne = absurd (ne refl)
then_decided Greater p ne = refl

-- where one list has ended, the lengths decide
pub fields_ended :
    (a b : List ℕ) (i : ℕ) → min (length a) (length b) ≡ i → by_fields (drop i a) (drop i b) ≡ compared (length a)
    (length b)
fields_ended a b i e = ends (drop i a) (drop i b) (length-drop i a) (length-drop i b)
  where
    ends : (xs ys : List ℕ) → length xs ≡ length a - i → length ys ≡ length b - i
        → by_fields xs ys ≡ compared (length a) (length b)
    ends [] [] hx hy = let s : length a ≡ length b = omega arith in grind (arith, nat_tests)
    ends [] (y ∷ ys) hx hy = let s : length a < length b = omega arith in grind (arith, nat_tests)
    ends (x ∷ xs) [] hx hy = let s : length b < length a = omega arith in grind (arith, nat_tests)
    ends (x ∷ xs) (y ∷ ys) hx hy = absurd (omega arith)

-- a front of so many bytes, from its number
same_front :
    (w : ℕ) (a b : List ℕ) → w ≤ length a → w ≤ length b → AllByRecursion (λ x. x < 256) a
    → AllByRecursion (λ x. x < 256) b
    → word (take w a) ≡ word (take w b) → take w a ≡ take w b
same_front w a b wa wb ha hb e =
    sym (bytes_of_word w (take w a) (length-take-le w a wa) (All-take (λ x. x < 256) w a ha))
    ∙ ap (bytes_of w) e
    ∙ bytes_of_word w (take w b) (length-take-le w b wb) (All-take (λ x. x < 256) w b hb)

-- bytes that write the same numbers in fields of these widths, from a place on
pub same_fields :
    (ws : List ℕ) (at : ℕ) (a b : List ℕ) → length a ≡ at + sum ws → length b ≡ at + sum ws
    → AllByRecursion (λ x. x < 256) a → AllByRecursion (λ x. x < 256) b → fields_from at ws a ≡ fields_from at ws b
    → drop at a ≡ drop at b
same_fields [] at a b la lb ha hb e = drop_all at a (omega arith) ∙ sym (drop_all at b (omega arith))
same_fields (w ∷ ws) at a b la lb ha hb e =
    let first : word (take w (drop at a)) ≡ word (take w (drop at b)) = cc in
    let others : fields_from (at + w) ws a ≡ fields_from (at + w) ws b = cc in
    let all : sum (w ∷ ws) ≡ w + sum ws = sum_by-cons (λ x. x) w ws in
    let na = length-drop at a in
    let nb = length-drop at b in
    let front = same_front w (drop at a) (drop at b) (omega arith) (omega arith)
    (All-drop (λ x. x < 256) at a ha) (All-drop (λ x. x < 256) at b hb) first in
    let back = same_fields ws (at + w) a b (omega arith) (omega arith) ha hb others in
    let ea : take w (drop at a) ++ drop (at + w) a ≡ drop at a =
    ap (λ r. take w (drop at a) ++ r) (sym (drop-drop w at a)) ∙ take-append-drop w (drop at a) in
    let eb : take w (drop at b) ++ drop (at + w) b ≡ drop at b =
    ap (λ r. take w (drop at b) ++ r) (sym (drop-drop w at b)) ∙ take-append-drop w (drop at b) in
    cc

-- A kind with an order by fields, of which no two valid keys share all, keeps the laws.
pub record ByFields (k : Kind) (fields : List ℕ → List ℕ) : Type 0 where
  pub number_least : 1 ≤ k.number
  pub number_most : k.number ≤ 255
  pub key_least : 1 ≤ k.key_width
  pub key_most : k.key_width ≤ 24
  pub value_least : 1 ≤ k.value_width
  pub value_most : k.value_width ≤ 64
  pub key_long : (a : List ℕ) → k.valid_key a ≡ true → length a ≡ k.key_width
  pub key_bytes : (a : List ℕ) → k.valid_key a ≡ true → bytes a ≡ true
  pub value_long : (v : List ℕ) → k.valid_value v ≡ true → length v ≡ k.value_width
  pub value_bytes : (v : List ℕ) → k.valid_value v ≡ true → bytes v ≡ true
  pub sorted : (a b : List ℕ) → k.order a b ≡ by_fields (fields a) (fields b)
  pub apart : (a b : List ℕ) → k.valid_key a ≡ true → k.valid_key b ≡ true → fields a ≡ fields b → a ≡ b

pub lawful_by_fields : (k : Kind) (fields : List ℕ → List ℕ) → ByFields k fields → Lawful k
lawful_by_fields k fields t = record {
  number_least = t.number_least;
  number_most = t.number_most;
  key_least = t.key_least;
  key_most = t.key_most;
  value_least = t.value_least;
  value_most = t.value_most;
  key_long = t.key_long;
  key_bytes = t.key_bytes;
  value_long = t.value_long;
  value_bytes = t.value_bytes;
  itself = λ a. t.sorted a a ∙ fields_itself (fields a);
  same = λ a b va vb e. t.apart a b va vb (fields_same (fields a) (fields b) (sym (t.sorted a b) ∙ e));
  mirrored = λ a b. t.sorted b a ∙ fields_mirrored (fields a) (fields b) ∙ ap ordering_reverse (sym (t.sorted a b));
  onward = λ a b c va vb vc e f. t.sorted a c
      ∙ fields_onward (fields a) (fields b) (fields c) (sym (t.sorted a b) ∙ e) (sym (t.sorted b c) ∙ f);
}
