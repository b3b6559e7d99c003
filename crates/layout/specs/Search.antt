-- The search of a d-tree: which leaf page decides what its entries say of a key, and how many of them are below it.
use Rattle.std.specs.Prelude.{◌≡◌, ℕ, suc, ◌+◌, ◌*◌, ◌<◌, Bool, true, false, List, length, take, drop, Option}
use Rattle.records.specs.Kind.{Kind, Lawful}
use Rattle.tree.specs.Order.{Ordered, compare_by}
use Rattle.tree.specs.Entries.{Low, High, Ascending, read, tally}
use Rattle.tree.specs.Keys.{key_below}
use Rattle.layout.specs.Pages.{ByteEntry}
use Rattle.layout.specs.Slots.{first_key}
use Rattle.layout.specs.Holds.{ValidKey}

module _ (lt : List ℕ → List ℕ → Bool) where
  -- how many entries are below a key
  abbrev pub rank : List ℕ → List ByteEntry → ℕ
  rank key = tally (λ k. lt k key)

  -- Leaf page j is the one for a key: the key is not below its first key, but below the first key of the next page, if
  -- there is one. So the first keys, which the head page has, tell the page.
  pub record PageFor (per_page j : ℕ) (key : List ℕ) (es : List ByteEntry) : Type 0 where
    pub filled : j * per_page < length es
    pub from_here : lt key (first_key (drop (j * per_page) es)) ≡ false
    pub before_next : suc j * per_page < length es → lt key (first_key (drop (suc j * per_page) es)) ≡ true

  -- what that page says of the key is what all entries say, and those below it are all of the pages before, and those
  -- of the page
  abbrev pub OnePageDecides : Type 0
  OnePageDecides =
      (lo : Low (List ℕ)) (hi : High (List ℕ)) (per_page j : ℕ) (key : List ℕ) (es : List ByteEntry)
      (older : Option (List ℕ)) → Ascending lt lo hi es → PageFor per_page j key es →
      let page = take per_page (drop (j * per_page) es) in
      (read lt key es older ≡ read lt key page older) × (rank key es ≡ j * per_page + rank key page)

  -- a key below the first entry, if there is one, is in none of them
  abbrev pub BelowTheFirst : Type 0
  BelowTheFirst =
      (lo : Low (List ℕ)) (hi : High (List ℕ)) (key : List ℕ) (es : List ByteEntry) (older : Option (List ℕ)) →
      Ascending lt lo hi es → (0 < length es → lt key (first_key es) ≡ true) →
      (read lt key es older ≡ older) × (rank key es ≡ 0)

-- On valid keys the kind's comparison is the one that the tree goes by.
abbrev pub ComparesAsTheTree : Type 0
ComparesAsTheTree =
    (kind : Kind) → Lawful kind → (a b : List ℕ) → ValidKey kind a → ValidKey kind b →
    compare_by (key_below kind) a b ≡ kind.order a b

abbrev pub SearchByFirstKeys : Type 0
SearchByFirstKeys =
    (lt : List ℕ → List ℕ → Bool) → Ordered lt → OnePageDecides lt × BelowTheFirst lt
