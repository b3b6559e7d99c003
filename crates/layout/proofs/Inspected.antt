-- The examples hold by computation: each store has a few dozen pages.
use Rattle.std.proofs.Common.{refl}
use Rattle.records.specs.Bytes.{bytes_of}
use Rattle.layout.specs.Pages.{node_page, head_page, leaf_page, mark_word}
use Rattle.layout.specs.Slots.{node_page_of, first_keys}
use Rattle.layout.specs.LeafPages.{raw_entries, good_keys, good_values, inspect_leaf_page, inspect_leaf_pages, inspect_d_tree}
use Rattle.layout.specs.Nodes.{children_from, good_slots, good_s_keys, inspect_leaf_node, inspect_inner_node}
use Rattle.layout.specs.Walk.{walk_children, walk, walk_tree}
use Rattle.layout.specs.Inspection.{inspect_nodes, inspect_by, inspection}
use Rattle.layout.specs.Examples.{OneByteChanged, TombstonesOnPages, ThreeLevels, InspectedExamples}

one_byte_changed : OneByteChanged
unfolding bytes_of node_page head_page leaf_page mark_word node_page_of first_keys raw_entries good_keys good_values
    inspect_leaf_page inspect_leaf_pages inspect_d_tree children_from good_slots good_s_keys inspect_leaf_node inspect_inner_node
    walk_children walk walk_tree inspect_nodes inspect_by inspection
one_byte_changed = record {
  whole = refl;
  no_pages = refl;
  other_kind = refl;
  fanout_of_2 = refl;
  eleven_levels = refl;
  four_slots = refl;
  one_child = refl;
  leaf_with_children = refl;
  seven_entries = refl;
  slot_twice = refl;
  invalid_s_key = refl;
  behind_s_keys = refl;
  one_page_filled = refl;
  two_on_last_page = refl;
  tombstone_in_leaf = refl;
  not_as_on_head = refl;
  below_the_range = refl;
  race_13 = refl;
  unreached = refl;
}

tombstones_on_pages : TombstonesOnPages
unfolding bytes_of node_page head_page leaf_page mark_word node_page_of first_keys raw_entries good_keys good_values
    inspect_leaf_page inspect_leaf_pages inspect_d_tree children_from good_slots good_s_keys inspect_leaf_node inspect_inner_node
    walk_children walk walk_tree inspect_nodes inspect_by inspection
tombstones_on_pages = record {
  whole = refl;
  mark_past_the_last = refl;
  value_under_a_mark = refl;
  no_value_without_mark = refl;
  same_key_twice = refl;
}

three_levels : ThreeLevels
unfolding bytes_of node_page head_page leaf_page mark_word node_page_of first_keys raw_entries good_keys good_values
    inspect_leaf_page inspect_leaf_pages inspect_d_tree children_from good_slots good_s_keys inspect_leaf_node inspect_inner_node
    walk_children walk walk_tree inspect_nodes inspect_by inspection
three_levels = record {
  whole = refl;
  below_the_low_end = refl;
  at_the_high_end = refl;
  root_as_child = refl;
  child_of_two = refl;
  slot_not_used = refl;
  two_levels = refl;
  depth_first = refl;
}

pub inspected_examples : InspectedExamples
inspected_examples =
    record { one_byte = one_byte_changed; tombstones = tombstones_on_pages; levels = three_levels }
