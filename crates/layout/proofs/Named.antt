-- What holds of a tree on its pages says nothing of other pages: each equation carries over to pages that are the same.
use Rattle.std.proofs.Common.{ℕ, zero, suc, List, length, sym, ◌∙◌, arith}
use Rattle.records.specs.Kind.{Kind}
use Rattle.stores.specs.Store.{page_at}
use Rattle.shape.specs.Shape.{Shape}
use Rattle.tree.specs.Children.{Children, one, more}
use Rattle.layout.specs.Pages.{ByteEntry}
use Rattle.layout.specs.Holds.{ByteTree, Each, SlotHolds, NodesStand}
use Rattle.layout.specs.Named.{SameSlot, SameNodes, OtherPagesAreFree}

module _ (kind : Kind) (shape : Shape) (page page' : ℕ → List ℕ) where
  same_slot :
      (slot : ℕ) (cs : List ℕ) (sks : List (List ℕ)) (es : List ByteEntry) → SameSlot shape page page' slot (length es)
      → SlotHolds kind shape page slot cs sks es → SlotHolds kind shape page' slot cs sks es
  same_slot slot cs sks es same h = record {
    node = sym same.node ∙ h.node;
    head = sym same.head ∙ h.head;
    leaves = λ j l. sym (same.leaves j l) ∙ h.leaves j l;
  }

  same_children :
      (h : ℕ)
      → ((t : ByteTree h) → SameNodes shape page page' h t → NodesStand kind shape page h t
      → NodesStand kind shape page' h t)
      → (ts : Children (List ℕ) (ByteTree h)) → Each (SameNodes shape page page' h) ts
      → Each (NodesStand kind shape page h) ts → Each (NodesStand kind shape page' h) ts
  same_children h ih (one t) same s = ih t same s
  same_children h ih (more t sk ts) same s = (ih t same.0 s.0, same_children h ih ts same.1 s.1)

  pub same_nodes :
      (h : ℕ) (t : ByteTree h) → SameNodes shape page page' h t → NodesStand kind shape page h t
      → NodesStand kind shape page' h t
  same_nodes zero t same s = same_slot t.slot _ _ t.entries same s
  same_nodes (suc h) t same s =
      let below = same_children h (same_nodes h) t.children same.1 s.1 in
      (same_slot t.slot _ _ t.entries same.0 s.0, below)

pub other_pages_are_free : OtherPagesAreFree
other_pages_are_free kind pages pages' s long first same o =
    let h = s.index.height in
    record {
      shape = o.shape;
      slots = o.slots;
      changes = o.changes;
      there = omega (arith, o.there);
      header = sym first ∙ o.header;
      nodes = same_nodes kind s.shape (page_at pages) (page_at pages') h s.index.root same o.nodes;
      valid = o.valid;
      sound = o.sound;
    }
