-- Both sides of each equation compute to the same value.
use Rattle.std.proofs.Common.{refl}
use Rattle.tree.specs.Relief.{split_leaf, split_inner, move_batch}
use Rattle.tree.specs.Change.{change_leaf, change_inner}
use Rattle.tree.proofs.examples_hold.Goals as goal

pub returns : goal.returns
unfolding split_leaf split_inner move_batch change_leaf change_inner
returns c = record {
  sizes = (refl, refl, refl, refl, refl, refl);
  large_sizes = (refl, refl, refl, refl, refl);
  least_capacity = (refl, refl, refl, refl);
  most_per_page = (refl, refl, refl, refl);
  leaf_root_splits = refl;
  tie_moves_left = refl;
  tombstone_goes = refl;
  own_key_needs_no_relief = refl;
  leaf_root_removes = refl;
  inner_split = refl;
  slots_short = (refl, refl);
  no_slot_needed = (refl, refl);
}
