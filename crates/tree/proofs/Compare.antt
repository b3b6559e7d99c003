-- A comparison by a test that orders strictly and totally finds one of three things, since exactly one of them holds.
use Rattle.std.proofs.Common.{◌≡◌, Bool, true, false, Ordering, Less, Equal, Greater, refl}
use Rattle.tree.specs.Order.{Below, Ordered, ordering_of, compare_by}

pub data Compared {K : Type 0} (lt : K → K → Bool) (a b : K) : Ordering → Type 0 where
  is_less : Below lt a b → Compared lt a b Less
  is_equal : a ≡ b → Compared lt a b Equal
  is_greater : Below lt b a → Compared lt a b Greater

pub compared : {K : Type 0} {lt : K → K → Bool} → Ordered lt → (a b : K) → Compared lt a b (compare_by lt a b)
compared {K} {lt} o a b = go (lt a b) (lt b a) refl refl
  where
    go : (c d : Bool) → lt a b ≡ c → lt b a ≡ d → Compared lt a b (ordering_of c d)
    go true d e f = is_less e
    go false true e f = is_greater f
    go false false e f = is_equal (o.total a b e f)
