-- Which pages a slot owns, and what of a node stands on them.
use Rattle.std.specs.Prelude.{ℕ, zero, suc, ◌+◌, ◌*◌, List, [], ◌∷◌, drop}
use Rattle.shape.specs.Shape.{Shape, slot_pages_of}
use Rattle.tree.specs.Children.{Children, one, more}
use Rattle.layout.specs.Pages.{ByteEntry}

-- Slot i owns the pages from 1 + i × W to (i + 1) × W: its node page, its head page, and L leaf pages.
unfoldable pub node_page_of : Shape → ℕ → ℕ
node_page_of shape slot = 1 + slot * slot_pages_of shape

abbrev pub head_page_of : Shape → ℕ → ℕ
head_page_of shape slot = node_page_of shape slot + 1

-- leaf page j of a slot, counted from 0
abbrev pub leaf_page_of : Shape → ℕ → ℕ → ℕ
leaf_page_of shape slot j = head_page_of shape slot + 1 + j

-- the children alone, and the s-keys alone
abbrev pub child_list : {K X : Type 0} → Children K X → List X
child_list (one x) = x ∷ []
child_list (more x sk cs) = x ∷ child_list cs

abbrev pub s_key_list : {K X : Type 0} → Children K X → List K
s_key_list (one x) = []
s_key_list (more x sk cs) = sk ∷ s_key_list cs

abbrev pub first_key : List ByteEntry → List ℕ
first_key [] = []
first_key (e ∷ es) = e.key

-- the first key on each of n leaf pages with so many entries to a page
unfoldable pub first_keys : ℕ → ℕ → List ByteEntry → List (List ℕ)
first_keys zero per_page es = []
first_keys (suc n) per_page es = first_key es ∷ first_keys n per_page (drop per_page es)
