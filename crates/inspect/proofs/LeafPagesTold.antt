-- The inspection of leaf pages, one before the next: it stops at the first page that is broken, and otherwise goes on
-- from the last key of the page.
use Rattle.std.proofs.Common.{◌≡◌, ℕ, zero, suc, ◌+◌, ◌-◌, ◌*◌, ◌/◌, ◌<◌, ◌≤◌, min, Bool, true, false, ◌&&◌, eqb, List, ◌++◌, map, get_or, take, drop, Ok, Err, Result, sym, refl, ap, ◌∙◌, mul-le-mul_right, suc-mul, zero-mul, arith}
use Rattle.std.proofs.lemmas.List.{drop-drop}
use Rattle.records.specs.Kind.{Kind, record_width}
use Rattle.tree.specs.Entries.{Low, past, High}
use Rattle.layout.specs.Pages.{ByteEntry}
use Rattle.layout.specs.Checked.{Checked, test, then, zeros}
use Rattle.layout.specs.LeafPages.{
  raw_entries,
  raw_entries_on,
  marks_on,
  entry_of,
  good_marks,
  good_keys,
  good_first,
  good_values,
  low_after,
  inspect_leaf_page,
  inspect_leaf_pages,
}
use Rattle.layout.specs.declared.faults.Rule.{Rule}
use Rattle.layout.specs.declared.faults.Rule.TheVariants.{LeafCount, Marks, Keys, Values}
use Rattle.layout.specs.declared.faults.PageFault.{PageFault}
use Rattle.inspect.specs.Bounds.{told, key_on}

-- a test that did not stop the inspection
pub told_test :
    {A : Type 0} (b : Bool) (p : ℕ) (rule : Rule) (x : Checked A) → told (test b p rule x) ≡ Ok tt
    → (test b p rule x ≡ x) × (told x ≡ Ok tt)
told_test true p rule x h = (refl, h)
told_test false p rule x h = let z : ◌≡◌ {A = ℕ} 0 1 = cc in absurd (omega arith)

pub four_tests :
    {A : Type 0} (a b c d : Bool) (p : ℕ) (q r s t : Rule) (x : Checked A)
    → told (test a p q (test b p r (test c p s (test d p t x)))) ≡ Ok tt
    → test a p q (test b p r (test c p s (test d p t x))) ≡ x
four_tests a b c d p q r s t x h =
    let e₁ = told_test a p q (test b p r (test c p s (test d p t x))) h in
    let e₂ = told_test b p r (test c p s (test d p t x)) e₁.1 in
    let e₃ = told_test c p s (test d p t x) e₂.1 in
    e₁.0 ∙ e₂.0 ∙ e₃.0 ∙ (told_test d p t x e₃.1).0

module _
    (kind : Kind) (leaf : Bool) (t : ℕ) (lo : Low (List ℕ)) (hi : High (List ℕ)) (first : List ℕ) (p : ℕ)
    (page : List ℕ) where
  -- a good page holds the entries that stand on it
  page_entries :
      told (inspect_leaf_page kind leaf t lo hi first p page) ≡ Ok tt
      → inspect_leaf_page kind leaf t lo hi first p page ≡ Ok (map entry_of (raw_entries_on kind t page))
  unfolding inspect_leaf_page
  page_entries h =
      let raw = raw_entries_on kind t page in
      four_tests (eqb (get_or page 0 0) t) (good_marks leaf t (marks_on page))
      (good_keys kind lo hi raw && good_first first raw)
      (good_values kind raw && zeros (drop (9 + t * record_width kind) page))
      p LeafCount Marks Keys Values (Ok (map entry_of raw)) h

-- the low end after entries is past the last of them
low_last :
    (w v n m : ℕ) (bs : List ℕ) (lo : Low (List ℕ))
    → low_after lo (map entry_of (raw_entries w v (suc n) m bs)) ≡ past (take w (drop (n * (w + v)) bs))
unfolding raw_entries
low_last w v zero m bs lo = rw (zero-mul (w + v))
low_last w v (suc n) m bs lo =
    let ih = low_last w v n (m / 2) (drop (w + v) bs) (past (take w bs)) in
    let a : suc n * (w + v) ≡ (w + v) + n * (w + v) = omega (arith, suc-mul n (w + v)) in
    ih ∙ ap (λ xs. past (take w xs)) (drop-drop (n * (w + v)) (w + v) bs ∙ ap (λ k. drop k bs) (sym a))

low_of :
    (kind : Kind) (t : ℕ) (page : List ℕ) (lo : Low (List ℕ)) → 1 ≤ t
    → low_after lo (map entry_of (raw_entries_on kind t page)) ≡ past (key_on kind page (t - 1))
low_of kind zero page lo h = absurd (omega arith)
low_of kind (suc n) page lo h =
    let e : n ≡ suc n - 1 = omega arith in
    low_last kind.key_width kind.value_width n (marks_on page) (drop 9 page) lo
    ∙ ap (λ i. past (key_on kind page i)) e

-- a page behind n - 1 others has an entry
pub has_entry : (n E s : ℕ) → 1 ≤ n → 1 ≤ E → n * E < s + E → 1 ≤ min E s
has_entry n E s some one h = omega (arith, mul-le-mul_right {m = 1} {n = n} E some)

then_told : {A B : Type 0} (x : Checked A) (f : A → B) → told (then x (λ a. Ok (f a))) ≡ told x
then_told (Ok a) f = refl
then_told (Err e) f = refl

module _ (kind : Kind) (per_page : ℕ) (page : ℕ → List ℕ) (leaf : Bool) (hi : High (List ℕ)) where
  abbrev pub pages_told : (n s : ℕ) → Low (List ℕ) → List ℕ → ℕ → Result Unit PageFault
  pages_told n s lo firsts p = told (inspect_leaf_pages kind per_page page leaf hi n s lo firsts p)

  abbrev pub page_told : ℕ → Low (List ℕ) → List ℕ → ℕ → Result Unit PageFault
  page_told s lo firsts p =
      told (inspect_leaf_page kind leaf (min per_page s) lo hi (take kind.key_width firsts) p (page p))

  stops : {A B : Type 0} (x : Checked A) (f : A → Checked B) (e : PageFault) → told x ≡ Err e → told (then x f) ≡ Err e
  stops (Ok a) f e h = let z : ◌≡◌ {A = ℕ} 0 1 = cc in absurd (omega arith)
  stops (Err d) f e h = h

  pub pages_broken :
      (n s : ℕ) (lo : Low (List ℕ)) (firsts : List ℕ) (p : ℕ) (e : PageFault) → 1 ≤ n
      → page_told s lo firsts p ≡ Err e → pages_told n s lo firsts p ≡ Err e
  unfolding inspect_leaf_pages
  pages_broken zero s lo firsts p e some h = absurd (omega arith)
  pages_broken (suc n) s lo firsts p e some h =
      stops (inspect_leaf_page kind leaf (min per_page s) lo hi (take kind.key_width firsts) p (page p)) _ e h

  pub pages_more :
      (n s : ℕ) (lo : Low (List ℕ)) (firsts last : List ℕ) (p : ℕ) → 1 ≤ n → 1 ≤ min per_page s
      → last ≡ key_on kind (page p) (min per_page s - 1) → page_told s lo firsts p ≡ Ok tt
      → pages_told n s lo firsts p ≡ pages_told (n - 1) (s - per_page) (past last) (drop kind.key_width firsts) (p + 1)
  unfolding inspect_leaf_pages
  pages_more zero s lo firsts last p some full is good = absurd (omega arith)
  pages_more (suc n) s lo firsts last p some full is good =
      let t = min per_page s in
      let w = kind.key_width in
      let es = map entry_of (raw_entries_on kind t (page p)) in
      let rest : Low (List ℕ) → Checked (List ByteEntry) =
      λ l. inspect_leaf_pages kind per_page page leaf hi n (s - per_page) l (drop w firsts) (p + 1) in
      let held = page_entries kind leaf t lo hi (take w firsts) p (page p) good in
      let m : n ≡ suc n - 1 = omega arith in
      ap (λ x. told (then x (λ ys. then (rest (low_after lo ys)) (λ more. Ok (ys ++ more))))) held
      ∙ then_told (rest (low_after lo es)) (λ more. es ++ more)
      ∙ ap (λ l. told (rest l)) (low_of kind t (page p) lo full ∙ ap past (sym is))
      ∙ ap (λ k. pages_told k (s - per_page) (past last) (drop w firsts) (p + 1)) m
