-- The kind's own order and the tree's test of keys agree on valid keys, and an index holds no others; so a tree is
-- sound by the one exactly when it is by the other.
use Rattle.std.proofs.Common.{◌≡◌, ℕ, zero, suc, Bool, List, [], ◌∷◌, sym, ◌∙◌}
use Rattle.std.specs.List.{AllByRecursion}
use Rattle.records.specs.Kind.{Kind}
use Rattle.shape.specs.Shape.{Shape, least_children_of}
use Rattle.tree.specs.Entries.{Low, least, from, past, High, most, until, AboveLow, BelowHigh, Ascending}
use Rattle.tree.specs.Children.{Children, one, more, SKeysAscend, EachIn}
use Rattle.tree.specs.Sound.{SoundNode}
use Rattle.layout.specs.Pages.{ByteEntry}
use Rattle.layout.specs.Slots.{s_key_list}
use Rattle.layout.specs.Holds.{ByteTree, Each, ValidKey, ValidEntry, ValidTree}

module _ (kind : Kind) (lt lt' : List ℕ → List ℕ → Bool) where
  abbrev pub AgreeOnValid : Type 0
  AgreeOnValid = (a b : List ℕ) → ValidKey kind a → ValidKey kind b → lt a b ≡ lt' a b

  abbrev pub ValidLow : Low (List ℕ) → Type 0
  ValidLow least = Unit {0}
  ValidLow (from a) = ValidKey kind a
  ValidLow (past a) = ValidKey kind a

  abbrev pub ValidHigh : High (List ℕ) → Type 0
  ValidHigh most = Unit {0}
  ValidHigh (until b) = ValidKey kind b

  module _ (agree : AgreeOnValid) where
    above_other :
        (lo : Low (List ℕ)) (a : List ℕ) → ValidLow lo → ValidKey kind a → AboveLow lt lo a → AboveLow lt' lo a
    above_other least a l v h = tt
    above_other (from b) a l v h = λ e. h (agree a b v l ∙ e)
    above_other (past b) a l v h = sym (agree b a l v) ∙ h

    below_other :
        (hi : High (List ℕ)) (a : List ℕ) → ValidHigh hi → ValidKey kind a → BelowHigh lt hi a → BelowHigh lt' hi a
    below_other most a l v h = tt
    below_other (until b) a l v h = sym (agree a b v l) ∙ h

    ascending_other :
        (lo : Low (List ℕ)) (hi : High (List ℕ)) (es : List ByteEntry) → ValidLow lo → ValidHigh hi
        → AllByRecursion (ValidEntry kind) es → Ascending lt lo hi es → Ascending lt' lo hi es
    ascending_other lo hi [] l u v h = tt
    ascending_other lo hi (e ∷ es) l u v h = (
      above_other lo e.key l v.0.0 h.0,
      below_other hi e.key u v.0.0 h.1,
      ascending_other (past e.key) hi es v.0.0 u v.1 h.2,
    )

    s_keys_other :
        {X : Type 0} (lo : Low (List ℕ)) (hi : High (List ℕ)) (cs : Children (List ℕ) X) → ValidLow lo → ValidHigh hi
        → AllByRecursion (ValidKey kind) (s_key_list cs) → SKeysAscend lt lo hi cs → SKeysAscend lt' lo hi cs
    s_keys_other lo hi (one x) l u v h = tt
    s_keys_other lo hi (more x sk cs) l u v h = (
      above_other lo sk l v.0 h.0,
      below_other hi sk u v.0 h.1,
      s_keys_other (past sk) hi cs v.0 u v.1 h.2,
    )

    -- each child is sound by the other test, if one is in any range with valid ends
    each_other :
        {X : Type 0} (P Q : Low (List ℕ) → High (List ℕ) → X → Type 0) (V : X → Type 0)
        → ((lo : Low (List ℕ)) (hi : High (List ℕ)) (x : X) → ValidLow lo → ValidHigh hi → V x → P lo hi x → Q lo hi x)
        → (lo : Low (List ℕ)) (hi : High (List ℕ)) (cs : Children (List ℕ) X) → ValidLow lo → ValidHigh hi
        → AllByRecursion (ValidKey kind) (s_key_list cs) → Each V cs → EachIn P lo hi cs → EachIn Q lo hi cs
    each_other P Q V f lo hi (one x) l u v w h = f lo hi x l u w h
    each_other P Q V f lo hi (more x sk cs) l u v w h =
        (f lo (until sk) x l v.0 w.0 h.0, each_other P Q V f (from sk) hi cs v.0 u v.1 w.1 h.1)

    pub sound_other :
        (shape : Shape) (room fewest h : ℕ) (lo : Low (List ℕ)) (hi : High (List ℕ)) (t : ByteTree h)
        → ValidLow lo → ValidHigh hi → ValidTree kind h t
        → SoundNode lt shape room fewest h lo hi t → SoundNode lt' shape room fewest h lo hi t
    sound_other shape room fewest zero lo hi t l u v s =
        (ascending_other lo hi t.entries l u v s.0, s.1, s.2)
    sound_other shape room fewest (suc h) lo hi t l u v s =
        let r = shape.capacity in
        let m = least_children_of shape in (
          ascending_other lo hi t.entries l u v.0 s.0,
          s.1,
          s.2,
          s_keys_other lo hi t.children l u v.1 s.3,
          each_other (SoundNode lt shape r m h) (SoundNode lt' shape r m h) (ValidTree kind h)
              (λ lo hi t l u v s. sound_other shape r m h lo hi t l u v s) lo hi t.children l u v.1 v.2 s.4,
        )
