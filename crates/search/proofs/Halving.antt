-- A row halved again and again: the one in front of the low end passes, the one at the high end does not, and where the
-- two ends meet is the place.
use Rattle.std.proofs.Common.{◌≡◌, ℕ, ◌+◌, ◌≤◌, Bool, true, false, sym, ap, ◌∙◌, arith}
use Rattle.layout.specs.Rows.{Divides, Halved}

module _ (test : ℕ → Bool) (n low high : ℕ) (h : Halved test n low high) where
  pub halved_up : (middle : ℕ) → test middle ≡ true → Halved test n (middle + 1) high
  halved_up middle e =
      record { left = λ i q. ap test (let z : i ≡ middle = omega arith in z) ∙ e; right = h.right }

  pub halved_down : (middle : ℕ) → test middle ≡ false → Halved test n low middle
  halved_down middle e = record { left = h.left; right = λ l. e }

  pub halved_met : low ≤ high → high ≤ n → high ≤ low → Divides test n low
  halved_met between within met =
      let e : high ≡ low = omega arith in
      record {
        within = omega arith;
        left = h.left;
        right = λ less. ap test (sym e) ∙ h.right (omega arith);
      }
