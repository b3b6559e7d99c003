-- The plain store: page p lies in place p of the area, up to 65,535 pages.
use Rattle.std.specs.Prelude.{ℕ, ◌%◌, ◌^◌, List}
use Rattle.std.proofs.Common.{arith}
use Rattle.stores.specs.Store.{StoreState, Lawful}
use Rattle.stores.specs.Places.{places, contents, length-contents, contents_small, contents_whole}

abbrev pub plain_state : List ℕ → ℕ → StoreState
plain_state area count = record { pages = contents 65535 area; count = count % 2 ^ 64 }

pub plain_lawful : (area : List ℕ) (count : ℕ) → Lawful (plain_state area count)
plain_lawful area count = record {
  few = omega (arith, length-contents 65535 area);
  whole = λ p h. contents_whole 65535 p area h;
  bytes = contents_small (places 65535 area);
  counted = omega arith;
}
