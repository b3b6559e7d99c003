-- Relief keeps the map: a batch that leaves a node is met one level further down, before anything older, and entries
-- that divide with their node are met in the half that their key belongs to.
use Rattle.std.proofs.Common.{◌≡◌, ℕ, zero, suc, ◌+◌, ◌-◌, ◌/◌, ◌<◌, Bool, List, ◌∷◌, length, take, None, Option, sym, refl, ap, ◌∙◌, subst, inl, inr, arith}
use Rattle.std.proofs.lemmas.Bool.{cases_Bool, cond_both, ltb-true}
use Rattle.shape.specs.Shape.{Shape, batch_of, least_children_of}
use Rattle.tree.specs.Order.{Ordered}
use Rattle.tree.specs.Entries.{Entry, Low, from, High, until, Ascending, read, merge, entries_below, entries_from}
use Rattle.tree.specs.Entries.{without_tombstones}
use Rattle.tree.specs.Children.{Children, one, more, replace_at, ask_child, heavy_place, SKeysAscend, EachIn}
use Rattle.tree.specs.Tree.{Node, Tree, find}
use Rattle.tree.specs.Sound.{SoundNode}
use Rattle.tree.specs.Path.{heavy_child, for_heavy, batch, staying, too_full}
use Rattle.tree.specs.Relief.{Relieved, untouched, merge_into, move_batch, receive}
use Rattle.tree.proofs.Bounds.{strictly}
use Rattle.tree.proofs.Merge.{merge_ascends, read_merge}
use Rattle.tree.proofs.Divide.{below_ascends, from_ascends, read_divided, divided_at}
use Rattle.tree.proofs.Batch.{rest_ascends, read_first_rest, not_first}
use Rattle.tree.proofs.Tombstones.{live_ascends, read_live}
use Rattle.tree.proofs.Heavy.{heavy_lt}
use Rattle.tree.proofs.SKeys.{skeys_unjoin, skeys_replaced}
use Rattle.tree.proofs.Belong.{ask_join, ask_replaced, ask_at}
use Rattle.tree.proofs.Sizes.{Sizes}
use Rattle.tree.proofs.Splits.{LeafSplit, whole, halved, InnerSplit, kept, split, leaf_split, inner_split}
use Rattle.tree.proofs.Sound.{SoundChild, heavy_low, heavy_high, parts_each, batch_given, batch_sound, receive_sound}

module _ {K V : Type 0} (lt : K → K → Bool) where
  -- a node, when it is known what stands below it
  abbrev pub find_under : {C : Type 0} → (K → C → Option V) → K → Node K V C → Option V
  find_under g k t = read lt k t.entries (g k t.children)

module _ {K V : Type 0} {lt : K → K → Bool} (o : Ordered lt) (s : Shape) where
  pub leaf_read : (slot next : ℕ) (lo : Low K) (hi : High K) (k : K) (es : List (Entry K V))
      {out : Relieved K V Unit} → LeafSplit s slot next es out → Ascending lt lo hi es →
      ask_child lt (find lt 0) k out.parts ≡ read lt k es None
  leaf_read slot next lo hi k es (whole l) a = refl
  leaf_read slot next lo hi k es (halved l r rs e) a =
      let half : ℕ = length es / 2 in
      let p = divided_at o half lo hi es r rs a e in
      let divided = read_divided o lo hi k r.key es None a in
      let below : read lt k (take half es) None ≡ read lt k (entries_below lt r.key es) None =
      ap (λ xs. read lt k xs None) p.0 in
      let above : read lt k (r ∷ rs) None ≡ read lt k (entries_from lt r.key es) None =
      ap (λ xs. read lt k xs None) (sym e ∙ p.1) in
      grind arith

  pub inner_read : {C : Type 0} (g : K → Node K V C → Option V) (movers : List ℕ) (slot next : ℕ) (lo : Low K)
      (hi : High K) (k : K) (es : List (Entry K V)) (cs : Children K (Node K V C))
      {out : Relieved K V (Children K (Node K V C))} → InnerSplit lt s movers slot next es cs out →
      Ascending lt lo hi es → SKeysAscend lt lo hi cs →
      ask_child lt (find_under lt (ask_child lt g)) k out.parts ≡ read lt k es (ask_child lt g k cs)
  inner_read g movers slot next lo hi k es cs (kept l) a h = refl
  inner_read g movers slot next lo hi k es cs (split l c e u) a h =
      let j = skeys_unjoin o lo hi c.front c.middle c.back (subst (SKeysAscend lt lo hi) e h) in
      let joined = ask_join o g lo k c.front c.middle c.back j.0 in
      let same = ap (ask_child lt g k) e in
      let below = read_divided o lo hi k c.middle es (ask_child lt g k c.front) a in
      let above = read_divided o lo hi k c.middle es (ask_child lt g k c.back) a in
      grind arith

  pub merged_read : {C : Type 0} (P : Low K → High K → Node K V C → Type 0) (g : K → C → Option V) →
      ((lo : Low K) (hi : High K) (x : Node K V C) → P lo hi x → Ascending lt lo hi x.entries) →
      (lo : Low K) (hi : High K) (k : K) (ms : List (Entry K V)) (cs : Children K (Node K V C)) →
      Ascending lt lo hi ms → EachIn P lo hi cs →
      ask_child lt (find_under lt g) k (merge_into lt ms cs) ≡ read lt k ms (ask_child lt (find_under lt g) k cs)
  merged_read P g en lo hi k ms (one c) a h = read_merge o lo hi k ms c.entries (g k c.children) a (en lo hi c h)
  merged_read P g en lo hi k ms (more c sk cs) a h =
      let ih = merged_read P g en (from sk) hi k (entries_from lt sk ms) cs (from_ascends o lo hi sk ms a) h.1 in
      let first = read_merge o lo (until sk) k (entries_below lt sk ms) c.entries (g k c.children)
      (below_ascends o lo hi sk ms a) (en lo (until sk) c h.0) in
      let below = read_divided o lo hi k sk ms (find_under lt g k c) a in
      let above = read_divided o lo hi k sk ms (ask_child lt (find_under lt g) k cs) a in
      grind arith

module _ {K : Type 0} (V : Type 0) (lt : K → K → Bool) (s : Shape) where
  -- what a child that takes entries says of a key: what these say, else what it said before
  abbrev pub Tells : ℕ → K → Type 0
  Tells h k = (next : ℕ) (ms : List (Entry K V)) (c : Tree K V h) (lo : Low K) (hi : High K) →
      SoundChild V lt s h lo hi c → Ascending lt lo hi ms → length ms ≡ batch_of s →
      ask_child lt (find lt h) k (receive lt s h next ms c).parts ≡ read lt k ms (find lt h k c)

module _ {K V : Type 0} {lt : K → K → Bool} (o : Ordered lt) (s : Shape) (sz : Sizes s) where
  pub batch_read : (h fewest next : ℕ) (lo : Low K) (hi : High K) (k : K) (t : Tree K V (suc h)) →
      SoundNode lt s s.capacity fewest (suc h) lo hi t → s.capacity < length t.entries + batch_of s →
      Tells V lt s h k →
      ask_child lt (find lt (suc h)) k (move_batch lt s (receive lt s h) next t).parts ≡ find lt (suc h) k t
  unfolding move_batch
  batch_read h fewest next lo hi k t g l tells =
      let i : ℕ = heavy_place lt t.entries t.children in
      let cs = t.children in
      let ms = batch lt s t in
      let low = heavy_low lt lo t in
      let high = heavy_high lt hi t in
      let below = ask_child lt (find lt h) k in
      let b = batch_given o s sz h fewest lo hi t g l in
      let r = receive_sound o s sz h next ms (heavy_child lt t) low high b.0 b.1 b.2 in
      let out = receive lt s h next ms (heavy_child lt t) in
      let new = replace_at i out.parts cs in
      let stays = rest_ascends o (for_heavy lt t) (batch_of s) lo hi t.entries g.0 in
      let skeys = skeys_replaced o i lo hi out.parts cs g.3 r.skeys in
      let split =
      inner_read o s (find lt h) (t.slot ∷ out.movers) t.slot out.next lo hi k (staying lt s t) new
      (inner_split lt s _ _ _ _ _ sz) stays skeys in
      let place = heavy_lt o cs t.entries in
      let asked = ask_replaced o (find lt h) i (strictly low) hi k out.parts cs place r.skeys in
      let told = tells next ms (heavy_child lt t) low high b.0 b.1 b.2 in
      let moved : below new ≡ read lt k ms (below cs) =
      elim (cases_Bool (for_heavy lt t k)) [
        | inl y ↦ asked ∙ rw y (told ∙ ap (read lt k ms) (sym (ask_at o (find lt h) i k cs y)))
        | inr n ↦ asked ∙ rw n (sym (not_first o (for_heavy lt t) (batch_of s) k t.entries (below cs) n))
      ] in
      split ∙ ap (read lt k (staying lt s t)) moved
      ∙ read_first_rest o (for_heavy lt t) (batch_of s) lo hi k t.entries (below cs) g.0

  pub receive_read : (h : ℕ) (k : K) → Tells V lt s h k
  receive_read zero k next ms c lo hi g a l =
      let all = merge lt ms c.entries in
      let ascends = merge_ascends o lo hi ms c.entries a g.0 in
      leaf_read o s c.slot next lo hi k (without_tombstones all) (leaf_split lt s _ _ _)
      (live_ascends o lo hi all ascends)
      ∙ read_live o lo hi k all ascends ∙ read_merge o lo hi k ms c.entries None a g.0
  receive_read (suc h) k next ms c lo hi g a l =
      let room = s.capacity - batch_of s in
      let u = least_children_of s in
      let under = ask_child lt (find lt h) in
      cond_both (too_full lt s c) (move_batch lt s (receive lt s h) next c) (untouched next c)
      (λ out. ask_child lt (find lt (suc h)) k (merge_into lt ms out.parts) ≡ read lt k ms (find lt (suc h) k c))
      (λ e.
      let over = ltb-true room (length c.entries) e in
      let full : s.capacity < length c.entries + batch_of s = omega arith in
      let b = batch_sound o s sz h u next lo hi c (receive_sound o s sz h) g full in
      let ps = (move_batch lt s (receive lt s h) next c).parts in
      merged_read o s (SoundNode lt s room u (suc h)) under (λ lo hi x g. g.0) lo hi k ms ps a
      (parts_each lt s room h lo hi ps b.each)
      ∙ ap (read lt k ms) (batch_read h u next lo hi k c g full (receive_read h k)))
      (λ e. merged_read o s (SoundChild V lt s (suc h)) under (λ lo hi x g. g.0) lo hi k ms (one c) a g)
