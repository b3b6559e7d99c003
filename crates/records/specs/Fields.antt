-- An order by a list of fields: the first field that differs decides.
use Rattle.std.specs.Prelude.{ℕ, ◌+◌, cond, List, [], ◌∷◌, nat_lt}
use Rattle.std.specs.declared.cmp.Ordering.TheVariants.{Less, Equal, Greater}
use Rattle.std.specs.declared.cmp.Ordering.{Ordering}
use Rattle.std.specs.Ordering.{ordering_then}
use Rattle.records.specs.Bytes.{field}

abbrev pub compared : ℕ → ℕ → Ordering
compared m n = cond (nat_lt m n) Less (cond (nat_lt n m) Greater Equal)

abbrev pub by_fields : List ℕ → List ℕ → Ordering
by_fields [] [] = Equal
by_fields [] (y ∷ ys) = Less
by_fields (x ∷ xs) [] = Greater
by_fields (x ∷ xs) (y ∷ ys) = ordering_then (compared x y) (by_fields xs ys)

-- the numbers in fields of these widths, one after the other from a place on
abbrev pub fields_from : ℕ → List ℕ → List ℕ → List ℕ
fields_from at [] bs = []
fields_from at (w ∷ ws) bs = field at w bs ∷ fields_from (at + w) ws bs
