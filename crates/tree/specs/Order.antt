-- The order of keys, given as a test "is below", and how two keys compare by it.
use Rattle.std.specs.Prelude.{◌≡◌, Bool, true, false, ◌≢◌}
use Rattle.std.specs.declared.cmp.Ordering.TheVariants.{Less, Equal, Greater}
use Rattle.std.specs.declared.cmp.Ordering.{Ordering}

abbrev pub Below : {K : Type 0} → (K → K → Bool) → K → K → Type 0
Below lt a b = lt a b ≡ true

-- The test orders strictly, and it orders any two keys that differ.
pub record Ordered {K : Type 0} (lt : K → K → Bool) : Type 0 where
  pub irreflexive : (a : K) → lt a a ≢ true
  pub transitive : (a b c : K) → lt a b ≡ true → lt b c ≡ true → lt a c ≡ true
  pub total : (a b : K) → lt a b ≡ false → lt b a ≡ false → a ≡ b

-- from the two answers of the test: is the first below the second, is the second below the first
abbrev pub ordering_of : Bool → Bool → Ordering
ordering_of true d = Less
ordering_of false true = Greater
ordering_of false false = Equal

abbrev pub compare_by : {K : Type 0} → (K → K → Bool) → K → K → Ordering
compare_by lt a b = ordering_of (lt a b) (lt b a)

-- one of three, by a comparison: for below, for equal, for above
abbrev pub pick : {A : Type 0} → Ordering → A → A → A → A
pick Less x y z = x
pick Equal x y z = y
pick Greater x y z = z
