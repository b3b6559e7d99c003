-- A plain ordered map, to say what an index means: keys with their values in a list, the keys strictly ascending.
use Rattle.std.specs.Prelude.{Bool, List, [], ◌∷◌, Some, None, Option}
use Rattle.tree.specs.Order.{compare_by, pick}
use Rattle.tree.specs.Entries.{Entry, Low, past, AboveLow}

module _ {K V : Type 0} (lt : K → K → Bool) where
  abbrev pub KeysAscend : Low K → List (K × V) → Type 0
  KeysAscend lo [] = Unit {0}
  KeysAscend lo (p ∷ ps) = AboveLow lt lo p.0 × KeysAscend (past p.0) ps

  abbrev pub look_up : K → List (K × V) → Option V
  look_up k [] = None
  look_up k (p ∷ ps) = pick (compare_by lt k p.0) None (Some p.1) (look_up k ps)

  abbrev pub put : K → V → List (K × V) → List (K × V)
  put k v [] = (k, v) ∷ []
  put k v (p ∷ ps) = pick (compare_by lt k p.0) ((k, v) ∷ p ∷ ps) ((k, v) ∷ ps) (p ∷ put k v ps)

  abbrev pub remove : K → List (K × V) → List (K × V)
  remove k [] = []
  remove k (p ∷ ps) = pick (compare_by lt k p.0) (p ∷ ps) ps (p ∷ remove k ps)

  -- what an entry that comes in does to the map: a live one is a put, a tombstone a remove
  abbrev pub put_or_remove : K → Option V → List (K × V) → List (K × V)
  put_or_remove k (Some v) ps = put k v ps
  put_or_remove k None ps = remove k ps

  -- the map after a list of changes, the latest first
  abbrev pub map_after : List (Entry K V) → List (K × V)
  map_after [] = []
  map_after (e ∷ es) = put_or_remove e.key e.value (map_after es)
