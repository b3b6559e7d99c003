-- The ends of a range of keys as the code holds them, and what an inspection tells.
use Rattle.std.specs.Prelude.{◌≡◌, ℕ, List, length, drop, Some, None, Option, Ok, Err, Result}
use Rattle.std.specs.Borrow.{Bor}
use Rattle.std.specs.Option.{ForSome}
use Rattle.std.specs.declared.ops.Bound.{Bound}
use Rattle.std.specs.declared.ops.Bound.TheVariants.{Included, Excluded, Unbounded}
use Rattle.records.specs.Kind.{Kind, record_width}
use Rattle.tree.specs.Entries as tree
use Rattle.layout.specs.Rows.{key_in}

abbrev pub low_of : Bound (Bor (List ℕ)) → tree.Low (List ℕ)
low_of Unbounded = tree.least
low_of (Included a) = tree.from a.now
low_of (Excluded a) = tree.past a.now

abbrev pub high_of : Option (Bor (List ℕ)) → tree.High (List ℕ)
high_of None = tree.most
high_of (Some b) = tree.until b.now

-- the key at an end, if there is one
abbrev pub low_key : Bound (Bor (List ℕ)) → Option (List ℕ)
low_key Unbounded = None
low_key (Included a) = Some a.now
low_key (Excluded a) = Some a.now

abbrev pub high_key : Option (Bor (List ℕ)) → Option (List ℕ)
high_key None = None
high_key (Some b) = Some b.now

abbrev pub Long : ℕ → Option (List ℕ) → Type 0
Long width key = ForSome key (λ bytes. length bytes ≡ width)

-- what an inspection tells, without what it found
abbrev pub told : {A E : Type 0} → Result A E → Result Unit E
told (Ok a) = Ok tt
told (Err e) = Err e

-- the key of entry i on a leaf page
abbrev pub key_on : Kind → List ℕ → ℕ → List ℕ
key_on kind page i = key_in kind.key_width (record_width kind) (drop 9 page) i
