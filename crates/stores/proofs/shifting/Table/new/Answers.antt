use Rattle.std.proofs.Common.{◌≡◌, ℕ, ◌<◌, get_or, arith, rules}
use Rattle.stores.proofs.shifting.Table.new.Goals as goal

pub returns-clause-places : goal.returns-clause-places
returns-clause-places c = λ p h. let called = c.from_fn.ensures.items.at p 0 (omega arith) in search rules

pub invariant_of-result : goal.invariant_of-result
invariant_of-result c =
    let own : (p : ℕ) → p < 1024 → get_or c.from_fn.result p 0 ≡ p =
    λ p h. let called = c.from_fn.ensures.items.at p 0 h in search rules in
    record {
      few = c.requires;
      spared = omega arith;
      inside = λ p h. let e = own p (omega arith) in (omega arith, λ same. omega (arith, same));
      apart = λ p q h. let e = own p (omega arith) in let f = own q (omega arith) in omega arith;
    }
