-- The laws, each from the file that proves it, at a legal shape. A change that is not refused has a slot for every node
-- that it makes, since it makes at most levels + 1.
use Rattle.std.proofs.Common.{◌≡◌, ℕ, zero, suc, ◌+◌, ◌-◌, ◌<◌, ◌≤◌, Bool, false, ltb, [], ◌∷◌, length, sym, refl, ap, ◌∙◌, inl, inr, arith}
use Rattle.std.proofs.lemmas.Bool.{cond_both, lt-ltb, ltb-false, and_cases, and_from}
use Rattle.shape.specs.Shape.{Shape, batch_of}
use Rattle.tree.specs.Order.{Ordered}
use Rattle.tree.specs.Entries.{Entry, least, most, read, tally}
use Rattle.tree.specs.Children.{count, belongs}
use Rattle.tree.specs.Tree.{Tree, Index, levels, find_in}
use Rattle.tree.specs.Sound.{Sound}
use Rattle.tree.specs.Path.{path}
use Rattle.tree.specs.Relief.{split_leaf, move_batch, receive}
use Rattle.tree.specs.Change.{rooted_at, needs_relief, change_leaf, change_inner, change_at, change, needs_slots}
use Rattle.tree.specs.Change.{out_of_slots}
use Rattle.tree.specs.History.{asked}
use Rattle.tree.specs.Laws.{StaysSound, ChangesItsKey, ChangesTheMap, FewBatches, FewSlots, NothingOverflows}
use Rattle.tree.specs.Laws.{WeightBoundsBatches, PotentialGrowsByOne, AlwaysSound, AlwaysWithinSlots}
use Rattle.tree.specs.Laws.{AlwaysTheMap, BatchesInAll, LeavesInAll, ManyLeaves, TenLevelsRefuse}
use Rattle.tree.specs.Laws.{MergeIsUnion, HeavyIsLeftmost, PathIsPinned, ReliefKeepsTheMap}
use Rattle.tree.specs.Laws.{ReliefFollowsPath}
use Rattle.tree.proofs.Merge.{merge_ascends, read_merge}
use Rattle.tree.proofs.Merging.{lists_merge, has_merge}
use Rattle.tree.proofs.Heavy.{largest_most, largest_first, heavy_lt}
use Rattle.tree.proofs.Sizes.{Sizes}
use Rattle.tree.proofs.Sound.{batch_sound, receive_sound}
use Rattle.tree.proofs.Find.{batch_read, receive_read}
use Rattle.tree.proofs.Path.{movers_path, is_path, only_path, path_length}
use Rattle.tree.proofs.Change.{root_find, read_one, root_widened, relieved_root, change_follows, after_sound}
use Rattle.tree.proofs.Slots.{change_once, after_once, change_grows}
use Rattle.tree.proofs.Levels.{root_leaves, ten_levels, ten_full}
use Rattle.tree.proofs.Limits.{change_weight, change_potential}
use Rattle.tree.proofs.Room.{path_holds}
use Rattle.tree.proofs.Map.{look_changed, changed_ascends}
use Rattle.tree.proofs.History.{after_count, after_map, after_batches, after_leaves, within_slots}

module _ {K V : Type 0} {lt : K → K → Bool} (o : Ordered lt) (s : Shape) (sz : Sizes s) where
  -- a change that needs no slots takes none
  kept_slots : (e : Entry K V) (i : Index K V) → needs_slots lt s i.height e i.root ≡ false →
      (change lt s e i).index.used ≡ i.used
  unfolding change_leaf change_inner split_leaf
  kept_slots e i = go i.height i.root
    where
      go : (h : ℕ) (t : Tree K V h) → needs_slots lt s h e t ≡ false →
          (change_at lt s h e i.used i.changes t).index.used ≡ i.used
      go zero t n = rw n refl
      go (suc h) t n = rw n refl

  slots_suffice : (slots : ℕ) (e : Entry K V) (i : Index K V) → i.used ≤ slots →
      out_of_slots lt s slots e i ≡ false → (change lt s e i).index.used ≤ slots
  slots_suffice slots e i l n =
      elim (and_cases (needs_slots lt s i.height e i.root) (ltb (slots - i.used) (levels i + 1)) n) [
        | inl p ↦ omega (arith, kept_slots e i p)
        | inr p ↦ omega (arith, ltb-false (slots - i.used) (levels i + 1) p, change_grows o s sz e i)
      ]

  pub stays_sound : StaysSound V lt s
  stays_sound slots e i few l g n =
      let root = (change_follows o s sz e i e.key g.root).0 in
      let once = change_once o s sz e i g.slots in
      let used = slots_suffice slots e i l n in (
        record {
          root = root;
          slots = once;
          depth = ten_levels lt s sz (change lt s e i).index root once (omega arith);
        },
        used,
      )

  pub changes_its_key : ChangesItsKey V lt s
  changes_its_key e i k g =
      let f = (change_follows o s sz e i k g.root).1 in
      let r = read_one o k e (find_in lt i k) in
      ((λ p. f ∙ r.0 p), λ n. f ∙ r.1 n)

  pub changes_the_map : ChangesTheMap V lt s
  changes_the_map e i ps g a means = (
    changed_ascends o e.key e.value ps a,
    λ k. (change_follows o s sz e i k g.root).1 ∙ ap (read lt k (e ∷ [])) (means k)
        ∙ sym (look_changed o k e.key e.value ps a),
  )

  pub few_batches : FewBatches V lt s
  unfolding change_leaf change_inner
  few_batches e i = go i.height i.root
    where
      go : (h : ℕ) (t : Tree K V h) → (change_at lt s h e i.used i.changes t).moved ≤ suc h - 1
      go zero t = omega arith
      go (suc h) t =
          cond_both (needs_relief lt s e.key t.entries) (path lt s h t) [] (λ ns. length ns ≤ suc (suc h) - 1)
          (λ y. omega (arith, path_length lt s h t)) (λ n. omega arith)

  pub few_slots : FewSlots V lt s
  few_slots e i = change_grows o s sz e i

  pub nothing_overflows : NothingOverflows V lt s
  nothing_overflows h t g l = path_holds o s sz h 2 least most t g (omega (arith, sz.some))

  pub weight_bounds_batches : WeightBoundsBatches V lt s
  weight_bounds_batches e i g = omega (arith, change_weight o s sz e i g.root)

  pub potential_grows_by_one : PotentialGrowsByOne V lt s
  potential_grows_by_one e i g = change_potential o s sz e i g.root

  pub always_sound : AlwaysSound V lt s
  always_sound es = (after_sound o s sz es, after_once o s sz es, within_slots o s sz es)

  pub always_within_slots : AlwaysWithinSlots V lt s
  always_within_slots slots [] some few =
      let root = after_sound {V = V} o s sz [] in
      let once = after_once {V = V} o s sz [] in
      (record { root = root; slots = once; depth = omega arith }, some)
  always_within_slots slots (e ∷ es) some few =
      let i = asked lt s slots es in
      let ih = always_within_slots slots es some few in
      cond_both (out_of_slots lt s slots e i) i (change lt s e i).index (λ j. Sound lt s j × (j.used ≤ slots))
      (λ y. ih)
      (λ n. stays_sound slots e i few ih.1 ih.0 n)

  pub always_the_map : AlwaysTheMap V lt s
  always_the_map = after_map o s sz

  pub batches_in_all : BatchesInAll V lt s
  batches_in_all es = (after_count o s sz es, after_batches o s sz es)

  pub leaves_in_all : LeavesInAll V lt s
  leaves_in_all = after_leaves o s sz

  pub many_leaves : ManyLeaves V lt s
  many_leaves i h g l = root_leaves lt s sz i h (omega arith) g

  pub ten_levels_refuse : TenLevelsRefuse V lt s
  ten_levels_refuse slots e i few g l n =
      and_from (needs_slots lt s i.height e i.root) (ltb (slots - i.used) (levels i + 1)) n
      (lt-ltb (slots - i.used) (levels i + 1) (omega (arith, ten_full lt s sz i g.root g.slots l)))

  pub merge_is_union : MergeIsUnion V lt s
  merge_is_union lo hi xs ys a b = (
    merge_ascends o lo hi xs ys a b,
    (λ k. has_merge o k xs ys),
    (λ k older. read_merge o lo hi k xs ys older a b),
    lists_merge o lo lo hi xs ys a b,
  )

  pub heavy_is_leftmost : HeavyIsLeftmost V lt s
  heavy_is_leftmost h t i l =
      let share : ℕ → ℕ = λ j. tally (belongs lt t.children j) t.entries in
      let last : ℕ = count t.children - 1 in
      (heavy_lt o t.children t.entries, largest_most share last i (omega arith), largest_first share last i)

  pub path_is_pinned : PathIsPinned V lt s
  path_is_pinned h t =
      (is_path lt s h t, λ ns p. ap (λ ms. record { below = h; node = t } ∷ ms) (only_path lt s h t ns p))

  pub relief_keeps_the_map : ReliefKeepsTheMap V lt s
  relief_keeps_the_map h used n t g l =
      let full : s.capacity < length t.entries + batch_of s = omega (arith, sz.some) in
      let r = move_batch lt s (receive lt s h) used t in
      let m = batch_sound o s sz h 2 used least most t (receive_sound o s sz h) g full in (
        root_widened lt s (rooted_at (suc h) r.next n r.parts) (relieved_root o s sz h n r.next r.parts m),
        λ k. root_find lt (suc h) r.next n k r.parts
            ∙ batch_read o s sz h 2 used least most k t g full (receive_read o s sz h k),
      )

  pub relief_follows_path : ReliefFollowsPath V lt s
  relief_follows_path h next t = movers_path o s sz h next t
