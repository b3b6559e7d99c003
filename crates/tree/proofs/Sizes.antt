-- The facts of a legal shape that the laws rest on: the quotients in bounds that linear arithmetic can use.
use Rattle.std.proofs.Common.{◌≡◌, ℕ, suc, ◌+◌, ◌*◌, ◌≤◌, true, inl, inr, div-lt_iff_lt-mul, div-mul-le_self, arith}
use Rattle.std.proofs.lemmas.Bool.{cases_lt, leb-true, and_parts}
use Rattle.shape.specs.Shape.{Shape, batch_of, legal}

pub record Sizes (s : Shape) : Type 0 where
  pub some : 1 ≤ batch_of s
  pub fits : batch_of s * suc s.fanout ≤ s.capacity
  pub wide : 3 ≤ s.fanout

pub sizes : (width : ℕ) (s : Shape) → legal width s ≡ true → Sizes s
sizes width s h =
    let low = (and_parts _ _ (and_parts _ _ (and_parts _ _ h).0).0).0 in
    let f = and_parts _ _ low in
    let wide : 3 ≤ s.fanout = leb-true 3 s.fanout (and_parts _ _ f.0).0 in
    let above : s.fanout + 1 ≤ s.capacity = leb-true (s.fanout + 1) s.capacity (and_parts _ _ f.1).0 in
    record {
      some = elim (cases_lt (batch_of s) 1)
          [ inl l ↦ absurd (omega (arith, (div-lt_iff_lt-mul {k = s.fanout + 1} (omega arith)).0 l)) | inr l ↦ l ];
      fits = omega (arith, div-mul-le_self s.capacity (s.fanout + 1));
      wide = wide;
    }
