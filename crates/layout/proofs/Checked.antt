-- The chain of an inspection ends well only if each test passes, and a page whose rest is zero is its front, padded:
-- both by cases.
use Rattle.std.proofs.Common.{◌≡◌, ℕ, zero, suc, ◌-◌, ◌≤◌, Bool, true, false, eqb, List, [], ◌∷◌, ◌++◌, length, take, drop, replicate, Ok, Err, Result, sym, refl, ap, ◌∙◌, arith}
use Rattle.std.proofs.lemmas.Bool.{and_parts, eqb-true}
use Rattle.std.proofs.lemmas.List.{take-append-drop, length-take-le, length-drop, drop_at}
use Rattle.layout.specs.Pages.{padded}
use Rattle.layout.specs.Checked.{Checked, require, test, then, zeros}
use Rattle.layout.specs.declared.faults.Rule.{Rule}
use Rattle.layout.specs.declared.faults.PageFault.TheVariants.{Layout}

pub require_ok :
    {A E : Type 0} (b : Bool) (f : E) (x : Result A E) (a : A) → require b f x ≡ Ok a → (b ≡ true) × (x ≡ Ok a)
require_ok true f x a e = (refl, e)
require_ok false f x a e = let c : ◌≡◌ {A = ℕ} 0 1 = cc in absurd (omega arith)

pub test_ok :
    {A : Type 0} (b : Bool) (p : ℕ) (r : Rule) (x : Checked A) (a : A) → test b p r x ≡ Ok a
    → (b ≡ true) × (x ≡ Ok a)
test_ok b p r = require_ok b (Layout p r)

pub then_ok :
    {A B E : Type 0} (x : Result A E) (f : A → Result B E) (b : B) → then x f ≡ Ok b
    → (a : A) × (x ≡ Ok a) × (f a ≡ Ok b)
then_ok (Ok a) f b e = (a, refl, e)
then_ok (Err p) f b e = let c : ◌≡◌ {A = ℕ} 0 1 = cc in absurd (omega arith)

pub zeros_are : (xs : List ℕ) → zeros xs ≡ true → xs ≡ replicate (length xs) 0
zeros_are [] h = refl
zeros_are (x ∷ xs) h =
    let p = and_parts (eqb x 0) (zeros xs) h in
    let e : x ≡ 0 = eqb-true x 0 p.0 in
    let t = zeros_are xs p.1 in cc

pub zeros_replicate : (n : ℕ) → zeros (replicate n 0) ≡ true
zeros_replicate zero = refl
zeros_replicate (suc n) = zeros_replicate n

pub page_is :
    (n : ℕ) (page : List ℕ) → length page ≡ 512 → n ≤ 512 → zeros (drop n page) ≡ true
    → page ≡ padded (take n page)
page_is n page l h z =
    let m : length (drop n page) ≡ 512 - length (take n page) =
    omega (arith, length-drop n page, length-take-le n page (omega arith)) in
    sym (take-append-drop n page)
    ∙ ap (λ r. take n page ++ r) (zeros_are (drop n page) z ∙ ap (λ j. replicate j 0) m)

pub padded_rest : (n : ℕ) (xs : List ℕ) → length xs ≡ n → zeros (drop n (padded xs)) ≡ true
padded_rest n xs e =
    rw (drop_at xs (replicate (512 - length xs) 0) n e) (zeros_replicate (512 - length xs))
