-- Worked examples, all small enough to compute: stores of tickets, and what the inspection says of them whole and with
-- a byte changed, for every rule.
use Rattle.std.specs.Prelude.{◌≡◌, ℕ, List, [], ◌∷◌, ◌++◌, map, replicate, Some, None, Ok, Err, Result, slice_set}
use Rattle.records.specs.Ticket.{ticket_kind}
use Rattle.stores.specs.Store.{page_at}
use Rattle.tree.specs.Children.{one, more}
use Rattle.tree.specs.Examples.{small, ticket, sold}
use Rattle.layout.specs.Pages.{ByteEntry, header_page, node_page, head_page, leaf_page}
use Rattle.layout.specs.Holds.{ByteTree, Stored, header_for}
use Rattle.layout.specs.Inspection.{not_there, inspection}
use Rattle.layout.specs.declared.faults.OpenFault.{OpenFault}
use Rattle.layout.specs.declared.faults.OpenFault.TheVariants.{OtherKind, ShapeLimits, Page}
use Rattle.layout.specs.declared.faults.PageFault.TheVariants.{Layout}
use Rattle.layout.specs.declared.faults.Rule.{Rule}
use Rattle.layout.specs.declared.faults.Rule.TheVariants as rule

abbrev tickets : List ℕ → List ByteEntry
tickets = map (λ serial. record { key = ticket serial; value = Some sold })

abbrev leaf_in : ℕ → List ℕ → ByteTree 0
leaf_in slot serials = record { slot = slot; entries = tickets serials; children = tt }

-- leaf nodes with the tickets 1, 2, 8 and 15, 21, 32, 33, and a root above them with no entries
abbrev three_nodes : Stored
three_nodes = record {
  shape = small;
  index = record {
    height = 1;
    root = record {
      slot = 2;
      entries = [];
      children = more (leaf_in 0 (1 ∷ 2 ∷ 8 ∷ [])) (ticket 15) (one (leaf_in 1 (15 ∷ 21 ∷ 32 ∷ 33 ∷ [])));
    };
    used = 3;
    changes = 7;
  };
}

-- what stands on a leaf page that is not filled does not matter
abbrev anything : List ℕ
anything = replicate 512 165

-- page 0, slot 0 on pages 1 to 5, slot 1 on pages 6 to 10, slot 2 on pages 11 to 15
abbrev pages : List (List ℕ)
pages =
    header_page 1 (header_for three_nodes)
    ∷ node_page [] [] 3 ∷ head_page (ticket 1 ∷ ticket 8 ∷ [])
    ∷ leaf_page ticket_kind (tickets (1 ∷ 2 ∷ [])) ∷ leaf_page ticket_kind (tickets (8 ∷ [])) ∷ anything
    ∷ node_page [] [] 4 ∷ head_page (ticket 15 ∷ ticket 32 ∷ [])
    ∷ leaf_page ticket_kind (tickets (15 ∷ 21 ∷ [])) ∷ leaf_page ticket_kind (tickets (32 ∷ 33 ∷ [])) ∷ anything
    ∷ node_page (0 ∷ 1 ∷ []) (ticket 15 ∷ []) 0 ∷ head_page [] ∷ anything ∷ anything ∷ anything
    ∷ []

-- one byte of one page changed
abbrev poke : (p at byte : ℕ) → List (List ℕ) → List (List ℕ)
poke p at byte ps = slice_set ps p (slice_set (page_at ps p) at byte)

abbrev said : List (List ℕ) → Result Stored OpenFault
said = inspection ticket_kind

abbrev broken : ℕ → Rule → Result Stored OpenFault
broken page r = Err (Page (Layout page r))

-- each rule, on the store of three nodes
pub record OneByteChanged : Type 0 where
  pub whole : said pages ≡ Ok three_nodes
  pub no_pages : said [] ≡ Err (not_there [] 0)
  pub other_kind : said (poke 0 0 2 pages) ≡ Err OtherKind
  pub fanout_of_2 : said (poke 0 1 2 pages) ≡ Err ShapeLimits
  pub eleven_levels : said (poke 0 5 11 pages) ≡ broken 0 rule.HeaderNumbers
  pub four_slots : said (poke 0 7 4 pages) ≡ Err (not_there pages 20)
  pub one_child : said (poke 11 0 1 pages) ≡ broken 11 rule.ChildCount
  pub leaf_with_children : said (poke 1 0 2 pages) ≡ broken 1 rule.ChildCount
  pub seven_entries : said (poke 6 2 7 pages) ≡ broken 6 rule.EntryCount
  pub slot_twice : said (poke 11 6 0 pages) ≡ broken 11 rule.ChildSlots
  pub invalid_s_key : said (poke 11 10 0 pages) ≡ broken 11 rule.SKeys
  pub behind_s_keys : said (poke 11 15 1 pages) ≡ broken 11 rule.NodeRest
  pub one_page_filled : said (poke 7 0 1 pages) ≡ broken 7 rule.HeadPage
  pub two_on_last_page : said (poke 4 0 2 pages) ≡ broken 4 rule.LeafCount
  pub tombstone_in_leaf : said (poke 9 8 1 pages) ≡ broken 9 rule.Marks
  pub not_as_on_head : said (poke 8 12 14 pages) ≡ broken 8 rule.Keys
  pub below_the_range : said (poke 7 4 14 (poke 8 12 14 pages)) ≡ broken 8 rule.Keys
  pub race_13 : said (poke 3 17 13 pages) ≡ broken 3 rule.Values
  pub unreached : said (poke 0 7 4 pages ++ replicate 5 anything) ≡ broken 0 rule.SlotsReached

-- the same store, whose root has an entry with ticket 40 and a tombstone for ticket 2
abbrev root_entries : List ByteEntry
root_entries = record { key = ticket 2; value = None } ∷ record { key = ticket 40; value = Some sold } ∷ []

abbrev with_tombstone : List (List ℕ)
with_tombstone =
    slice_set (slice_set (slice_set pages 11 (node_page (0 ∷ 1 ∷ []) (ticket 15 ∷ []) 2)) 12 (head_page (ticket 2 ∷ []))) 13
    (leaf_page ticket_kind root_entries)

abbrev removed_two : Stored
removed_two = record {
  shape = small;
  index = record {
    height = 1;
    root = record { slot = 2; entries = root_entries; children = three_nodes.index.root.children };
    used = 3;
    changes = 7;
  };
}

pub record TombstonesOnPages : Type 0 where
  pub whole : said with_tombstone ≡ Ok removed_two
  pub mark_past_the_last : said (poke 13 8 5 with_tombstone) ≡ broken 13 rule.Marks
  pub value_under_a_mark : said (poke 13 17 1 with_tombstone) ≡ broken 13 rule.Values
  pub no_value_without_mark : said (poke 13 8 0 with_tombstone) ≡ broken 13 rule.Values
  pub same_key_twice : said (poke 13 30 2 with_tombstone) ≡ broken 13 rule.Keys

-- Three levels with no entries at all: leaf nodes in slots 0 to 3, inner nodes in slots 4 and 5, the root in slot 6.
-- The first s-key of slot 5 is the low end of its range, so its first child's range is empty.
abbrev inner : ℕ → ByteTree 0 → List ℕ → ByteTree 0 → ByteTree 1
inner slot a sk b = record { slot = slot; entries = []; children = more a sk (one b) }

abbrev seven_nodes : Stored
seven_nodes = record {
  shape = small;
  index = record {
    height = 2;
    root = record {
      slot = 6;
      entries = [];
      children =
          more (inner 4 (leaf_in 0 []) (ticket 10) (leaf_in 1 [])) (ticket 20)
          (one (inner 5 (leaf_in 2 []) (ticket 20) (leaf_in 3 [])));
    };
    used = 7;
    changes = 0;
  };
}

-- the five pages of a slot whose node has no entries
abbrev slot_of : List ℕ → List (List ℕ) → List (List ℕ)
slot_of children s_keys = node_page children s_keys 0 ∷ head_page [] ∷ replicate 3 anything

abbrev leaf_slot : List (List ℕ)
leaf_slot = slot_of [] []

abbrev seven_pages : List (List ℕ)
seven_pages =
    header_page 1 (header_for seven_nodes)
    ∷ (leaf_slot ++ (leaf_slot ++ (leaf_slot ++ (leaf_slot ++ (slot_of (0 ∷ 1 ∷ []) (ticket 10 ∷ [])
    ++ (slot_of (2 ∷ 3 ∷ []) (ticket 20 ∷ []) ++ slot_of (4 ∷ 5 ∷ []) (ticket 20 ∷ [])))))))

pub record ThreeLevels : Type 0 where
  pub whole : said seven_pages ≡ Ok seven_nodes
  pub below_the_low_end : said (poke 26 10 19 seven_pages) ≡ broken 26 rule.SKeys
  pub at_the_high_end : said (poke 21 10 20 seven_pages) ≡ broken 21 rule.SKeys
  pub root_as_child : said (poke 21 6 6 seven_pages) ≡ broken 21 rule.ChildSlots
  pub child_of_two : said (poke 26 4 0 seven_pages) ≡ broken 26 rule.ChildSlots
  pub slot_not_used : said (poke 26 4 7 seven_pages) ≡ broken 26 rule.ChildSlots
  pub two_levels : said (poke 0 5 2 seven_pages) ≡ broken 21 rule.ChildCount
  -- slot 1, which is below slot 4, is walked before slot 5
  pub depth_first : said (poke 6 2 7 (poke 26 0 1 seven_pages)) ≡ broken 6 rule.EntryCount

pub record InspectedExamples : Type 0 where
  pub one_byte : OneByteChanged
  pub tombstones : TombstonesOnPages
  pub levels : ThreeLevels
