-- How many pages the walk over a tree reads: of every node the node page, the head page and the filled leaf pages.
use Rattle.std.specs.Prelude.{ℕ, zero, suc, ◌+◌, ◌*◌, ◌≤◌, length}
use Rattle.records.specs.Kind.{Kind}
use Rattle.stores.specs.Store.{StoreState}
use Rattle.shape.specs.Shape.{ceiling, slot_pages_of}
use Rattle.tree.specs.Children.{sum_of}
use Rattle.layout.specs.Holds.{ByteTree, Stored, Holds}

abbrev pub pages_walked : (per_page h : ℕ) → ByteTree h → ℕ
pages_walked per_page zero t = 2 + ceiling (length t.entries) per_page
pages_walked per_page (suc h) t =
    2 + ceiling (length t.entries) per_page + sum_of (pages_walked per_page h) t.children

-- On pages that hold an index it reads at most W × used slots.
abbrev pub WalkReadsFew : Kind → StoreState → Type 0
WalkReadsFew kind store =
    (s : Stored) → Holds kind store.pages s →
    pages_walked s.shape.per_page s.index.height s.index.root ≤ s.index.used * slot_pages_of s.shape
