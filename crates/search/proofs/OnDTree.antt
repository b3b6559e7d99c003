-- The search of a d-tree: the first keys tell one leaf page, and that page decides for all entries.
use Rattle.std.proofs.Common.{◌≡◌, ℕ, zero, suc, ◌+◌, ◌-◌, ◌*◌, ◌<◌, ◌≤◌, min, Bool, true, not, List, length, take, drop, None, sym, refl, ap, ◌∙◌, subst, mul-le-mul_right, suc-mul, le-div_iff_mul-le, zero-mul, arith}
use Rattle.std.proofs.ByRecursion.{All-take, All-drop}
use Rattle.std.proofs.lemmas.List.{length-take, length-drop}
use Rattle.std.proofs.lemmas.Bool.{not-true, not-false}
use Rattle.records.specs.Kind.{Kind, Lawful}
use Rattle.shape.specs.Shape.{ceiling}
use Rattle.shape.proofs.Ceilings.{ceiling_below}
use Rattle.tree.specs.Keys.{key_below}
use Rattle.tree.proofs.Keys.{key_ordered}
use Rattle.layout.specs.Pages.{ByteEntry, leaf_page}
use Rattle.layout.specs.Slots.{first_key}
use Rattle.layout.specs.LeafPages.{low_after}
use Rattle.layout.specs.Search.{PageFor}
use Rattle.layout.specs.Holds.{ValidEntry}
use Rattle.layout.proofs.Search.{search_by_first_keys}
use Rattle.layout.proofs.DTree.{ascending_take, ascending_drop}
use Rattle.layout.specs.Rows.{Divides}
use Rattle.search.specs.Found.{PlaceOf, GoodEntries, DTreeOn}
use Rattle.search.specs.declared.d_tree.Place.{Place}
use Rattle.search.specs.declared.d_tree.Saying.TheVariants.{Nothing}
use Rattle.search.proofs.OnHead.{head_read}

-- a page that begins before the entries end is filled
page_filled : (s E j : ℕ) → 1 ≤ E → j * E < s → j < ceiling s E
page_filled s E j some l =
    (le-div_iff_mul-le {k = E} {x = suc j} {y = s + (E - 1)} some).1 (omega (arith, suc-mul j E))

-- entries stand in front of a filled page
pub pages_before : (s E n : ℕ) → 1 ≤ E → 1 ≤ n → n ≤ ceiling s E → (n - 1) * E < s
pages_before s E zero some one l = absurd (omega arith)
pages_before s E (suc j) some one l =
    let a : suc j - 1 ≡ j = omega arith in
    let b : j * E < s = omega (
      arith,
      ceiling_below s E some,
      mul-le-mul_right {m = suc j} {n = ceiling s E} E l,
      suc-mul j E,
    ) in
    rw a b

module _
    (kind : Kind) (law : Lawful kind) (E : ℕ) (page : ℕ → List ℕ) (p : ℕ) (es : List ByteEntry) (some : 1 ≤ E)
    (on : DTreeOn kind E page p es) (key : List ℕ) where
  abbrev lt : List ℕ → List ℕ → Bool
  lt = key_below kind

  abbrev first_of : ℕ → List ℕ
  first_of j = first_key (drop (j * E) es)

  abbrev UpTo : ℕ → Type 0
  UpTo n = Divides (λ j. not (lt key (first_of j))) (ceiling (length es) E) n

  -- no page begins at the key or below it
  none_found : UpTo 0 → PlaceOf kind key es (record { below = 0; saying = Nothing })
  none_found d =
      let g = on.good in
      let first : 0 < length es → lt key (first_key es) ≡ true =
      λ l. let f : 0 < ceiling (length es) E = page_filled (length es) E 0 some (omega (arith, zero-mul E)) in
      ap (λ n. lt key (first_key (drop n es))) (sym (zero-mul E)) ∙ not-false (lt key (first_of 0)) (d.right f) in
      let by = (search_by_first_keys lt (key_ordered kind law)).1 in
      record {
        below = sym (by g.low g.high key es None g.ascending first).1;
        says = λ older. sym (by g.low g.high key es older g.ascending first).0;
      }

  abbrev entries_of : ℕ → List ByteEntry
  entries_of j = take E (drop (j * E) es)

  -- the last page that begins at the key or below it is the one for the key
  page_for : (j : ℕ) → UpTo (suc j) → PageFor lt E j key es
  page_for j d = record {
    filled = (head_read kind law E page p es some on).filled j (omega (arith, d.within));
    from_here = not-true (lt key (first_of j)) (d.left j refl);
    before_next = λ l. not-false (lt key (first_of (suc j))) (d.right (page_filled (length es) E (suc j) some l));
  }

  page_good : (j : ℕ) → GoodEntries kind (entries_of j)
  page_good j =
      let g = on.good in
      record {
        valid = All-take (ValidEntry kind) E (drop (j * E) es) (All-drop (ValidEntry kind) (j * E) es g.valid);
        low = low_after g.low (take (j * E) es);
        high = g.high;
        ascending =
            ascending_take lt g.high (low_after g.low (take (j * E) es)) E (drop (j * E) es)
            (ascending_drop lt g.high g.low (j * E) es g.ascending);
      }

  -- what is found on that page
  page_found :
      (j : ℕ) (place : Place) → UpTo (suc j) → PlaceOf kind key (entries_of j) place
      → PlaceOf kind key es (record { below = j * E + place.below; saying = place.saying })
  page_found j place d f =
      let g = on.good in
      let by = (search_by_first_keys lt (key_ordered kind law)).0 g.low g.high E j key es in
      let for = page_for j d in
      record {
        below = sym ((by None g.ascending for).1 ∙ ap (λ n. j * E + n) (sym f.below));
        says = λ older. f.says older ∙ sym (by older g.ascending for).0;
      }

  -- the search as the code runs it

  pub found_none : (n : ℕ) → n ≡ 0 → UpTo n → PlaceOf kind key es (record { below = 0; saying = Nothing })
  found_none n z d = none_found (subst UpTo z d)

  -- the leaf page that is searched, and its number of entries
  pub record LeafSearched (n q t : ℕ) : Type 0 where
    pub page_is : page q ≡ leaf_page kind (entries_of (n - 1))
    pub counted : length (entries_of (n - 1)) ≡ t
    pub good : GoodEntries kind (entries_of (n - 1))

  pub leaf_searched :
      (n q t : ℕ) → 1 ≤ n → UpTo n → q ≡ p + n → t ≡ min E (length es - (n - 1) * E) → LeafSearched n q t
  leaf_searched n q t one d at is = record {
    page_is =
        ap page (let z : q ≡ p + 1 + (n - 1) = omega arith in z) ∙ on.leaves (n - 1) (omega (arith, d.within));
    counted = length-take E (drop ((n - 1) * E) es) ∙ ap (min E) (length-drop ((n - 1) * E) es) ∙ sym is;
    good = page_good (n - 1);
  }

  pub found_there :
      (per n : ℕ) (place : Place) → per ≡ E → 1 ≤ n → UpTo n → PlaceOf kind key (entries_of (n - 1)) place
      → PlaceOf kind key es (record { below = (n - 1) * per + place.below; saying = place.saying })
  found_there per n place e one d f =
      subst (λ x. PlaceOf kind key es (record { below = (n - 1) * x + place.below; saying = place.saying })) (sym e)
      (page_found (n - 1) place (subst UpTo (let z : n ≡ suc (n - 1) = omega arith in z) d) f)
