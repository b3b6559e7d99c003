-- What a legal shape leaves room for: a leaf page has 503 bytes for entries, the first keys of at most 16 leaf pages
-- stand on the head page, and at most 8 children with keys of at most 24 bytes on a node page.
use Rattle.std.proofs.Common.{◌≡◌, ℕ, ◌+◌, ◌-◌, ◌*◌, ◌≤◌, true, mul-le-mul, le-div_iff_mul-le, div-mul-le_self, arith}
use Rattle.std.proofs.lemmas.Bool.{and_parts, leb-true}
use Rattle.records.specs.Kind.{Kind, Lawful, record_width}
use Rattle.records.specs.Tests.{between}
use Rattle.shape.specs.Shape.{Shape, ceiling, leaf_pages_of, slot_pages_of, least_children_of, legal}

pub record Fits (kind : Kind) (shape : Shape) : Type 0 where
  pub some : 1 ≤ shape.per_page
  pub few : shape.per_page ≤ 64
  pub leaf_room : 9 + shape.per_page * record_width kind ≤ 512
  pub head_room : (s : ℕ) → s ≤ shape.capacity → 1 + ceiling s shape.per_page * kind.key_width ≤ 512
  pub slot_room : (s : ℕ) → s ≤ shape.capacity → 2 + ceiling s shape.per_page ≤ slot_pages_of shape
  pub node_room : 3 + 2 * shape.fanout + shape.fanout * kind.key_width ≤ 512
  pub few_entries : shape.capacity ≤ 256
  pub few_children : shape.fanout ≤ 8
  pub some_children : 2 ≤ least_children_of shape

pub between_is : (low high n : ℕ) → between low high n ≡ true → (low ≤ n) × (n ≤ high)
between_is low high n h = let p = and_parts _ _ h in (leb-true low n p.0, leb-true n high p.1)

pub fits : (kind : Kind) (shape : Shape) → Lawful kind → legal (record_width kind) shape ≡ true → Fits kind shape
fits kind shape law h =
    let E = shape.per_page in
    let w = kind.key_width in
    let a = and_parts _ _ h in
    let b = and_parts _ _ a.0 in
    let c = and_parts _ _ b.0 in
    let d = and_parts _ _ c.0 in
    let f = between_is 3 8 shape.fanout d.0 in
    let σ = between_is (shape.fanout + 1) 256 shape.capacity d.1 in
    let e = between_is 1 64 E c.1 in
    let leaf : E * record_width kind ≤ 503 = leb-true _ _ b.1 in
    let pages : leaf_pages_of shape ≤ 16 = leb-true _ _ a.1 in
    let filled : (s : ℕ) → s ≤ shape.capacity → ceiling s E ≤ leaf_pages_of shape =
    λ s l.
    let m = div-mul-le_self (s + (E - 1)) E in
    (le-div_iff_mul-le {k = E} {x = ceiling s E} {y = shape.capacity + (E - 1)} (omega (arith, e.0))).1
    (omega arith) in
    record {
      some = e.0;
      few = e.1;
      leaf_room = omega arith;
      head_room = λ s l.
          let g : ceiling s E ≤ 16 = omega (arith, filled s l) in
          omega (arith, mul-le-mul {n₁ = ceiling s E} {m₁ = w} {n₂ = 16} {m₂ = 24} g law.key_most);
      slot_room = λ s l. omega (arith, filled s l);
      node_room = omega (arith, mul-le-mul {n₁ = shape.fanout} {m₁ = w} {n₂ = 8} {m₂ = 24} f.1 law.key_most);
      few_entries = σ.1;
      few_children = f.1;
      some_children = omega (arith, f.0);
    }
