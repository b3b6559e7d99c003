-- The pages that count: what an index holds stands on page 0 and, of each node's slot, on the node page, the head page
-- and the filled leaf pages. Every other page is free.
use Rattle.std.specs.Prelude.{◌≡◌, ℕ, zero, suc, ◌<◌, List, length}
use Rattle.records.specs.Kind.{Kind}
use Rattle.stores.specs.Store.{page_at}
use Rattle.shape.specs.Shape.{Shape, ceiling}
use Rattle.layout.specs.Slots.{node_page_of, head_page_of, leaf_page_of}
use Rattle.layout.specs.Holds.{ByteTree, Stored, Each, Holds}

module _ (shape : Shape) (page page' : ℕ → List ℕ) where
  -- the pages of a slot are the same where they count, for a node of n entries
  pub record SameSlot (slot n : ℕ) : Type 0 where
    pub node : page (node_page_of shape slot) ≡ page' (node_page_of shape slot)
    pub head : page (head_page_of shape slot) ≡ page' (head_page_of shape slot)
    pub leaves :
        (j : ℕ) → j < ceiling n shape.per_page → page (leaf_page_of shape slot j) ≡ page' (leaf_page_of shape slot j)

  abbrev pub SameNodes : (h : ℕ) → ByteTree h → Type 0
  SameNodes zero t = SameSlot t.slot (length t.entries)
  SameNodes (suc h) t = SameSlot t.slot (length t.entries) × Each (SameNodes h) t.children

-- Pages that are the same where they count hold the same index.
abbrev pub OtherPagesAreFree : Type 0
OtherPagesAreFree =
    (kind : Kind) (pages pages' : List (List ℕ)) (s : Stored) → length pages ≡ length pages' →
    page_at pages 0 ≡ page_at pages' 0 →
    SameNodes s.shape (page_at pages) (page_at pages') s.index.height s.index.root →
    Holds kind pages s → Holds kind pages' s
