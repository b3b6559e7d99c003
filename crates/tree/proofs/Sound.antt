-- Relief keeps nodes sound: a node that moved a batch has room for one, so what it takes next never overfills it, and a
-- leaf node takes at most q entries over σ, so its halves hold at most σ. The key between two halves of a leaf node has
-- an entry of the left half below it, and that of an inner node an s-key, so it is strictly above the low end.
use Rattle.std.proofs.Common.{◌≡◌, ℕ, zero, suc, ◌+◌, ◌-◌, ◌/◌, ◌<◌, ◌≤◌, Bool, List, ◌∷◌, length, sym, refl, ap, ◌∙◌, subst, inl, inr, mul-le-mul_right, mul-le-mul_left, arith, length-drop, length-take}
use Rattle.std.proofs.lemmas.Bool.{cond_both, cases_lt, ltb-true, ltb-false}
use Rattle.shape.specs.Shape.{Shape, batch_of, least_children_of}
use Rattle.tree.specs.Order.{Ordered}
use Rattle.tree.specs.Entries.{Entry, Low, from, past, High, until, Ascending, merge, entries_below, entries_from}
use Rattle.tree.specs.Entries.{tally, without_tombstones, NoTombstones}
use Rattle.tree.specs.Children.{Children, one, more, count, replace_at, belongs, heavy_place, SKeysAscend, EachIn}
use Rattle.tree.specs.Tree.{Node, ChildrenAt, Tree}
use Rattle.tree.specs.Sound.{SoundNode}
use Rattle.tree.specs.Path.{heavy_child, for_heavy, batch, staying, too_full}
use Rattle.tree.specs.Relief.{Relieved, untouched, merge_into, move_batch, receive}
use Rattle.tree.proofs.Bounds.{strictly}
use Rattle.tree.proofs.Merge.{merge_length, merge_ascends}
use Rattle.tree.proofs.Divide.{below_ascends, from_ascends, below_from, divided_at}
use Rattle.tree.proofs.Batch.{first_ascends, rest_ascends, first_rest_length, first_length}
use Rattle.tree.proofs.Tombstones.{live_length, live_only, live_parts, live_ascends}
use Rattle.tree.proofs.Heavy.{count_pos, heavy_most}
use Rattle.tree.proofs.Children.{count_join, count_replaced, low_at, high_at, each_at, each_unjoin, each_replaced}
use Rattle.tree.proofs.SKeys.{skeys_weaker, skeys_unjoin, skeys_replaced}
use Rattle.tree.proofs.Belong.{belongs_in}
use Rattle.tree.proofs.Sizes.{Sizes}
use Rattle.tree.proofs.Splits.{LeafSplit, whole, halved, InnerSplit, kept, split, leaf_split, inner_split}

module _ {K : Type 0} (V : Type 0) (lt : K → K → Bool) (s : Shape) where
  -- a sound node below the root
  abbrev pub SoundChild : (h : ℕ) → Low K → High K → Tree K V h → Type 0
  SoundChild h = SoundNode lt s s.capacity (least_children_of s) h

  -- What comes of a child that takes a batch: sound nodes that may stand under its parent in its place.
  pub record Taken (h : ℕ) (lo : Low K) (hi : High K) (parts : Children K (Tree K V h)) : Type 0 where
    pub each : EachIn (SoundChild h) lo hi parts
    pub skeys : SKeysAscend lt (strictly lo) hi parts
    pub few : count parts ≤ 2

  abbrev pub Takes : ℕ → Type 0
  Takes h = (next : ℕ) (ms : List (Entry K V)) (c : Tree K V h) (lo : Low K) (hi : High K) →
      SoundChild h lo hi c → Ascending lt lo hi ms → length ms ≡ batch_of s →
      Taken h lo hi (receive lt s h next ms c).parts

module _ {K V C : Type 0} (lt : K → K → Bool) where
  -- the range of the heavy child
  abbrev pub heavy_low : Low K → Node K V (Children K (Node K V C)) → Low K
  heavy_low lo t = low_at (heavy_place lt t.entries t.children) lo t.children

  abbrev pub heavy_high : High K → Node K V (Children K (Node K V C)) → High K
  heavy_high hi t = high_at (heavy_place lt t.entries t.children) hi t.children

module _ {K V : Type 0} (lt : K → K → Bool) (s : Shape) where
  -- one node with its own fewest children, or halves that may stand under a parent
  abbrev pub SoundParts : (room fewest h : ℕ) → Low K → High K → Children K (Tree K V (suc h)) → Type 0
  SoundParts room fewest h lo hi (one t) = SoundNode lt s room fewest (suc h) lo hi t
  SoundParts room fewest h lo hi (more t sk ts) =
      EachIn (SoundNode lt s room (least_children_of s) (suc h)) lo hi (more t sk ts)

  -- What comes of a node that moves a batch.
  pub record Moved (fewest h : ℕ) (lo : Low K) (hi : High K) (parts : Children K (Tree K V (suc h))) : Type 0 where
    pub each : SoundParts (s.capacity - batch_of s) fewest h lo hi parts
    pub skeys : SKeysAscend lt (strictly lo) hi parts
    pub few : count parts ≤ 2

  pub parts_each : (room h : ℕ) (lo : Low K) (hi : High K) (ts : Children K (Tree K V (suc h))) →
      SoundParts room (least_children_of s) h lo hi ts →
      EachIn (SoundNode lt s room (least_children_of s) (suc h)) lo hi ts
  parts_each room h lo hi (one t) g = g
  parts_each room h lo hi (more t sk ts) g = g

  pub count_merged : {C : Type 0} (ms : List (Entry K V)) (cs : Children K (Node K V C)) →
      count (merge_into lt ms cs) ≡ count cs
  count_merged ms (one c) = refl
  count_merged ms (more c sk cs) = ap suc (count_merged (entries_from lt sk ms) cs)

  pub skeys_merged : {C : Type 0} (lo : Low K) (hi : High K) (ms : List (Entry K V)) (cs : Children K (Node K V C)) →
      SKeysAscend lt lo hi cs → SKeysAscend lt lo hi (merge_into lt ms cs)
  skeys_merged lo hi ms (one c) h = tt
  skeys_merged lo hi ms (more c sk cs) h = (h.0, h.1, skeys_merged (past sk) hi (entries_from lt sk ms) cs h.2)

module _ {K V : Type 0} {lt : K → K → Bool} (o : Ordered lt) (s : Shape) (sz : Sizes s) where
  pub leaf_sound : (slot next : ℕ) (lo : Low K) (hi : High K) (es : List (Entry K V)) {out : Relieved K V Unit} →
      LeafSplit s slot next es out → Ascending lt lo hi es → NoTombstones es → length es ≤ s.capacity + batch_of s →
      Taken V lt s 0 lo hi out.parts
  leaf_sound slot next lo hi es (whole l) a v n = record { each = (a, l, v); skeys = tt; few = omega arith }
  leaf_sound slot next lo hi es (halved l r rs e) a v n =
      let half : ℕ = length es / 2 in
      let p = divided_at o half lo hi es r rs a e in
      let live = live_parts half es v in
      let below = below_ascends o lo hi r.key es a in
      let above = from_ascends o lo hi r.key es a in
      let front = length-take half es in
      let back = length-drop half es in
      let rest = ap length e in
      let big : 1 < length es = omega arith in
      record {
        each = (
          (rw p.0 below, omega arith, live.0),
          (subst (Ascending lt (from r.key) hi) (sym p.1 ∙ e) above, omega arith, subst NoTombstones e live.1),
        );
        skeys = (p.4 (omega arith), p.3, tt);
        few = omega arith;
      }

  pub merged_sound : (h room fewest : ℕ) (lo : Low K) (hi : High K) (ms : List (Entry K V))
      (cs : Children K (Tree K V (suc h))) →
      EachIn (SoundNode lt s room fewest (suc h)) lo hi cs → Ascending lt lo hi ms → length ms + room ≤ s.capacity →
      EachIn (SoundNode lt s s.capacity fewest (suc h)) lo hi (merge_into lt ms cs)
  merged_sound h room fewest lo hi ms (one c) g a l = (
    merge_ascends o lo hi ms c.entries a g.0,
    omega (arith, g.1, merge_length o ms c.entries),
    g.2,
    g.3,
    g.4,
  )
  merged_sound h room fewest lo hi ms (more c sk cs) g a l =
      let low = entries_below lt sk ms in
      let sizes = below_from o sk ms in (
        (
          merge_ascends o lo (until sk) low c.entries (below_ascends o lo hi sk ms a) g.0.0,
          omega (arith, g.0.1, merge_length o low c.entries),
          g.0.2,
          g.0.3,
          g.0.4,
        ),
        merged_sound h room fewest (from sk) hi (entries_from lt sk ms) cs g.1 (from_ascends o lo hi sk ms a)
            (omega arith),
      )

  pub inner_sound : (h fewest : ℕ) (movers : List ℕ) (slot next : ℕ) (lo : Low K) (hi : High K)
      (es : List (Entry K V)) (cs : Children K (Tree K V h)) {out : Relieved K V (ChildrenAt K V (suc h))} →
      InnerSplit lt s movers slot next es cs out → Ascending lt lo hi es → length es ≤ s.capacity - batch_of s →
      SKeysAscend lt lo hi cs → EachIn (SoundChild V lt s h) lo hi cs →
      fewest ≤ count cs → count cs ≤ suc s.fanout → Moved lt s fewest h lo hi out.parts
  inner_sound h fewest movers slot next lo hi es cs (kept l) a n k g c1 c2 =
      record { each = (a, n, (c1, l), k, g); skeys = tt; few = omega arith }
  inner_sound h fewest movers slot next lo hi es cs (split l c e u) a n k g c1 c2 =
      let P = SoundChild V lt s h in
      let kj = skeys_unjoin o lo hi c.front c.middle c.back (subst (SKeysAscend lt lo hi) e k) in
      let ej = each_unjoin P lo hi c.front c.middle c.back (subst (EachIn P lo hi) e g) in
      let sizes = below_from o c.middle es in
      let counts = count_join c.front c.middle c.back in
      let all = ap count e in
      record {
        each = (
          (below_ascends o lo hi c.middle es a, omega arith, (omega arith, omega arith), kj.0, ej.0),
          (
            from_ascends o lo hi c.middle es a,
            omega arith,
            (omega arith, omega arith),
            skeys_weaker o (from c.middle) hi c.back kj.3,
            ej.1,
          ),
        );
        skeys = (kj.4 (omega (arith, sz.wide)), kj.2, tt);
        few = omega arith;
      }

  -- a node with more than σ − q entries and at most f children has at least q for its heavy child
  pub enough : {X : Type 0} (cs : Children K X) (es : List (Entry K V)) → count cs ≤ s.fanout →
      s.capacity < length es + batch_of s → batch_of s ≤ tally (belongs lt cs (heavy_place lt es cs)) es
  enough cs es c l =
      let most = tally (belongs lt cs (heavy_place lt es cs)) es in
      elim (cases_lt most (batch_of s)) [
        | inl p ↦ absurd (omega (arith, heavy_most o cs es, mul-le-mul_right most c, mul-le-mul_left s.fanout p))
        | inr p ↦ p
      ]

  -- the heavy child is sound, and the batch is in order, in the child's range, and has q entries
  pub batch_given : (h fewest : ℕ) (lo : Low K) (hi : High K) (t : Tree K V (suc h)) →
      SoundNode lt s s.capacity fewest (suc h) lo hi t → s.capacity < length t.entries + batch_of s →
      SoundChild V lt s h (heavy_low lt lo t) (heavy_high lt hi t) (heavy_child lt t)
      × Ascending lt (heavy_low lt lo t) (heavy_high lt hi t) (batch lt s t)
      × (length (batch lt s t) ≡ batch_of s)
  batch_given h fewest lo hi t g l =
      let i : ℕ = heavy_place lt t.entries t.children in
      let cs = t.children in
      let p = for_heavy lt t in
      let inside = belongs_in o i lo hi cs in (
        each_at (SoundChild V lt s h) i lo hi cs g.4,
        first_ascends o p (batch_of s) lo (low_at i lo cs) hi (high_at i hi cs) t.entries inside g.0,
        first_length p (batch_of s) t.entries (enough cs t.entries g.2.1 l),
      )

  pub batch_sound : (h fewest next : ℕ) (lo : Low K) (hi : High K) (t : Tree K V (suc h)) → Takes V lt s h →
      SoundNode lt s s.capacity fewest (suc h) lo hi t → s.capacity < length t.entries + batch_of s →
      Moved lt s fewest h lo hi (move_batch lt s (receive lt s h) next t).parts
  unfolding move_batch
  batch_sound h fewest next lo hi t takes g l =
      let P = SoundChild V lt s h in
      let i : ℕ = heavy_place lt t.entries t.children in
      let cs = t.children in
      let out = receive lt s h next (batch lt s t) (heavy_child lt t) in
      let b = batch_given h fewest lo hi t g l in
      let r = takes next (batch lt s t) (heavy_child lt t) (heavy_low lt lo t) (heavy_high lt hi t) b.0 b.1 b.2 in
      let all = first_rest_length (for_heavy lt t) (batch_of s) t.entries in
      let replaced = count_replaced i out.parts cs in
      let some = count_pos out.parts in
      inner_sound h fewest (t.slot ∷ out.movers) t.slot out.next lo hi (staying lt s t)
      (replace_at i out.parts cs) (inner_split lt s _ _ _ _ _ sz)
      (rest_ascends o (for_heavy lt t) (batch_of s) lo hi t.entries g.0)
      (omega (arith, g.1, b.2, all))
      (skeys_replaced o i lo hi out.parts cs g.3 r.skeys)
      (each_replaced P i lo hi out.parts cs g.4 r.each)
      (omega (arith, g.2)) (omega (arith, g.2, r.few))

  pub receive_sound : (h : ℕ) → Takes V lt s h
  receive_sound zero next ms c lo hi g a l =
      let all = merge lt ms c.entries in
      leaf_sound c.slot next lo hi (without_tombstones all) (leaf_split lt s _ _ _)
      (live_ascends o lo hi all (merge_ascends o lo hi ms c.entries a g.0)) (live_only all)
      (omega (arith, g.1, live_length all, merge_length o ms c.entries))
  receive_sound (suc h) next ms c lo hi g a l =
      let room = s.capacity - batch_of s in
      let u = least_children_of s in
      cond_both (too_full lt s c) (move_batch lt s (receive lt s h) next c) (untouched next c)
      (λ out. Taken V lt s (suc h) lo hi (merge_into lt ms out.parts))
      (λ e.
      let full = ltb-true room (length c.entries) e in
      let b = batch_sound h u next lo hi c (receive_sound h) g (omega arith) in
      let ps = (move_batch lt s (receive lt s h) next c).parts in
      record {
        each = merged_sound h room u lo hi ms ps (parts_each lt s room h lo hi ps b.each) a
            (omega (arith, sz.fits));
        skeys = skeys_merged lt s (strictly lo) hi ms ps b.skeys;
        few = omega (arith, b.few, count_merged lt s ms ps);
      })
      (λ e. record {
        each = merged_sound h room u lo hi ms (one c)
            (g.0, ltb-false room (length c.entries) e, g.2, g.3, g.4) a (omega (arith, sz.fits));
        skeys = tt;
        few = omega arith;
      })
