-- Page 0 and its numbers determine each other, since each number fits the bytes that it has.
use Rattle.std.proofs.Common.{◌≡◌, ℕ, suc, ◌+◌, ◌/◌, ◌%◌, ◌^◌, ◌<◌, ◌≤◌, true, List, [], ◌∷◌, ◌++◌, length, get_or, take, drop, sym, refl, ap, ◌∙◌, arith, take-add}
use Rattle.std.specs.List.{AllByRecursion}
use Rattle.std.proofs.ByRecursion.{All-take, All-drop}
use Rattle.std.proofs.lemmas.List.{length-take-le, length-drop, drop-drop, drop_more, append-nil}
use Rattle.records.specs.Bytes.{word, field, bytes_of}
use Rattle.records.specs.BytesLemmas.{bytes_of_two, bytes_of_four, word_bytes_of, bytes_of_word}
use Rattle.layout.specs.Pages.{padded, Header, header_page}
use Rattle.layout.specs.Header.{header_front}
use Rattle.layout.specs.Checked.{zeros}
use Rattle.layout.specs.Inspection.{header_on}
use Rattle.layout.proofs.Checked.{page_is, padded_rest}

pub front_is : (kind : ℕ) (h : Header) → header_page kind h ≡ padded (header_front kind h)
front_is kind h =
    rw (bytes_of_two h.shape.capacity, bytes_of_two h.used, bytes_of_two h.root, bytes_of_four h.changes)

-- what is read from page 0 of these numbers
pub record HeaderRead (kind : ℕ) (h : Header) (page : List ℕ) : Type 0 where
  pub number : get_or page 0 0 ≡ kind
  pub header : header_on page ≡ h
  pub rest : zeros (drop 14 page) ≡ true

pub header_same :
    (f σ E l u r n f' σ' E' l' u' r' n' : ℕ)
    → f ≡ f' → σ ≡ σ' → E ≡ E' → l ≡ l' → u ≡ u' → r ≡ r' → n ≡ n'
    → ◌≡◌ {A = Header}
    (record { shape = record { fanout = f; capacity = σ; per_page = E }; levels = l; used = u; root = r; changes = n })
    (record {
      shape = record { fanout = f'; capacity = σ'; per_page = E' };
      levels = l';
      used = u';
      root = r';
      changes = n';
    })
header_same f σ E l u r n f' σ' E' l' u' r' n' a b c d e g i = cc

pub header_read :
    (kind : ℕ) (h : Header) (page : List ℕ) → h.shape.capacity < 65536 → h.used < 65536 → h.root < 65536
    → h.changes < 2 ^ 32 → page ≡ header_page kind h → HeaderRead kind h page
header_read kind h page σ u r n e =
    let front = header_front kind h in
    let e' : page ≡ padded front = e ∙ front_is kind h in
    let two : (x : ℕ) → x < 65536 → word (x / 256 % 256 ∷ x % 256 ∷ []) ≡ x =
    λ x l. ap word (sym (bytes_of_two x)) ∙ word_bytes_of 2 x l in
    let four :
    (x : ℕ) → x < 2 ^ 32 → word (x / 16777216 % 256 ∷ x / 65536 % 256 ∷ x / 256 % 256 ∷ x % 256 ∷ []) ≡ x =
    λ x l. ap word (sym (bytes_of_four x)) ∙ word_bytes_of 4 x l in
    record {
      number = ap (λ p. get_or p 0 0) e';
      header =
          ap header_on e'
          ∙ header_same _ _ _ _ _ _ _ _ _ _ _ _ _ _ refl (two h.shape.capacity σ) refl refl (two h.used u)
          (two h.root r) (four h.changes n);
      rest = rw e' (padded_rest 14 front refl);
    }

-- a byte, or the bytes of a number, and the bytes after them

module _ (page : List ℕ) (long : length page ≡ 512) where
  byte : (n at : ℕ) → at < 512 → take (1 + n) (drop at page) ≡ get_or page at 0 ∷ take n (drop (at + 1) page)
  byte n at l =
      let e : 1 + n ≡ suc n = omega arith in
      rw e (ap (take (suc n)) (drop_more page at 0 (omega arith)))

  number :
      AllByRecursion (λ b. b < 256) page → (w n at : ℕ) → at + w ≤ 512
      → take (w + n) (drop at page) ≡ bytes_of w (field at w page) ++ take n (drop (at + w) page)
  number small w n at l =
      let bs = take w (drop at page) in
      let size : length bs ≡ w = length-take-le w (drop at page) (omega (arith, length-drop at page)) in
      let e : bytes_of w (field at w page) ≡ bs =
      bytes_of_word w bs size (All-take (λ b. b < 256) w (drop at page) (All-drop (λ b. b < 256) at page small)) in
      take-add w n (drop at page) ∙ ap (λ r. bs ++ take n r) (drop-drop w at page)
      ∙ ap (λ r. r ++ take n (drop (at + w) page)) (sym e)

-- a page whose rest is zero is page 0 of the numbers on it
pub header_page_lem :
    (page : List ℕ) → length page ≡ 512 → AllByRecursion (λ b. b < 256) page → zeros (drop 14 page) ≡ true
    → page ≡ header_page (get_or page 0 0) (header_on page)
header_page_lem page long small z =
    let changes : take 4 (drop 10 page) ≡ bytes_of 4 (field 10 4 page) =
    number page long small 4 0 10 (omega arith) ∙ append-nil (bytes_of 4 (field 10 4 page)) in
    let root : take 6 (drop 8 page) ≡ bytes_of 2 (field 8 2 page) ++ take 4 (drop 10 page) =
    number page long small 2 4 8 (omega arith) in
    let used : take 8 (drop 6 page) ≡ bytes_of 2 (field 6 2 page) ++ take 6 (drop 8 page) =
    number page long small 2 6 6 (omega arith) in
    let levels : take 9 (drop 5 page) ≡ get_or page 5 0 ∷ take 8 (drop 6 page) = byte page long 8 5 (omega arith) in
    let per_page : take 10 (drop 4 page) ≡ get_or page 4 0 ∷ take 9 (drop 5 page) = byte page long 9 4 (omega arith) in
    let capacity : take 12 (drop 2 page) ≡ bytes_of 2 (field 2 2 page) ++ take 10 (drop 4 page) =
    number page long small 2 10 2 (omega arith) in
    let fanout : take 13 (drop 1 page) ≡ get_or page 1 0 ∷ take 12 (drop 2 page) = byte page long 12 1 (omega arith) in
    let kind : take 14 page ≡ get_or page 0 0 ∷ take 13 (drop 1 page) = byte page long 13 0 (omega arith) in
    let front :
    take 14 page
    ≡ get_or page 0 0 ∷ get_or page 1 0 ∷ (bytes_of 2 (field 2 2 page)
    ++ (get_or page 4 0 ∷ get_or page 5 0 ∷ (bytes_of 2 (field 6 2 page)
    ++ (bytes_of 2 (field 8 2 page) ++ bytes_of 4 (field 10 4 page))))) = cc in
    page_is 14 page long (omega arith) z ∙ ap padded front
