-- Pages read one after the other: the touches add up.
use Rattle.std.proofs.Common.{◌≡◌, ℕ, ◌+◌, ◌^◌, ◌<◌, ◌≤◌, refl, ap, ◌∙◌, arith}
use Rattle.stores.specs.Store.{StoreState, touched_once}
use Rattle.stores.specs.Looked.{Looked}

pub looked_none : (s : StoreState) (most : ℕ) → s.count < 2 ^ 64 → Looked s most s
looked_none s most small = record { pages = refl; touches = (0, omega arith, omega arith) }

pub looked_same : (s t : StoreState) (most : ℕ) → t ≡ s → s.count < 2 ^ 64 → Looked s most t
looked_same s t most e small = record {
  pages = ap (λ x. x.pages) e;
  touches = (0, omega arith, omega (arith, ap (λ x. x.count) e));
}

pub looked_once :
    (s t : StoreState) (most : ℕ) → t ≡ record { pages = s.pages; count = touched_once s.count } → 1 ≤ most
    → Looked s most t
looked_once s t most e some = record {
  pages = ap (λ x. x.pages) e;
  touches = (1, some, ap (λ x. x.count) e);
}

pub looked_more : (a b : StoreState) (m most : ℕ) → Looked a m b → m ≤ most → Looked a most b
looked_more a b m most x h = record {
  pages = x.pages;
  touches = (x.touches.0, omega (arith, x.touches.1), x.touches.2);
}

pub looked_then :
    (a b c : StoreState) (m n most : ℕ) → Looked a m b → Looked b n c → m + n ≤ most → Looked a most c
looked_then a b c m n most x y h =
    let i = x.touches.0 in
    let j = y.touches.0 in
    record {
      pages = y.pages ∙ x.pages;
      touches = (i + j, omega (arith, x.touches.1, y.touches.1), omega (arith, x.touches.2, y.touches.2));
    }
