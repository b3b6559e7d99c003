-- What a plan says of a key, and the pages of a slot.
use Rattle.std.specs.Prelude.{ℕ, ◌+◌, ◌-◌, ◌/◌, List, [], ◌∷◌, Some, None, vec_items, Option, ◌==◌}
use Rattle.std.specs.List.{find}
use Rattle.builder.specs.declared.plan.Item.{Item}
use Rattle.builder.specs.declared.plan.Node.{Node}
use Rattle.builder.specs.declared.plan.Wish.{Wish}

-- the first entry of a key
abbrev pub entry_of : ℕ → List Item → Option Item
entry_of k items = find (λ x. x.key == k) items

-- what an entry says, or else what comes later
abbrev pub first_of : Option Item → Option ℕ → Option ℕ
first_of (Some x) later = x.value
first_of None later = later

-- the first node with an entry of the key decides; a tombstone says that there is none
abbrev pub said_by : ℕ → List Node → Option ℕ
said_by k [] = None
said_by k (n ∷ ns) = first_of (entry_of k (vec_items n.items)) (said_by k ns)

-- W: a node page, a head page, and leaf pages for all entries
abbrev pub slot_pages_of : Wish → ℕ
slot_pages_of w = 2 + (w.capacity + (w.per_page - 1)) / w.per_page
