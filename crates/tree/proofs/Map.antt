-- A put or a remove in an ordered list changes what is looked up at its own key alone: a key below the first of an
-- ascending list is not in it.
use Rattle.std.proofs.Common.{◌≡◌, Bool, List, [], ◌∷◌, Some, None, Option, Less, Equal, Greater, sym, refl, subst, arith}
use Rattle.tree.specs.Order.{Below, Ordered, compare_by, pick}
use Rattle.tree.specs.Entries.{Low, least, past, AboveLow, read}
use Rattle.tree.specs.Map.{KeysAscend, look_up, put, remove, put_or_remove}
use Rattle.tree.proofs.Compare.{is_less, is_equal, is_greater, compared}
use Rattle.tree.proofs.Bounds.{not_above, same_not_below, above_up}

module _ {K V : Type 0} {lt : K → K → Bool} (o : Ordered lt) where
  look_past : (a k : K) (ps : List (K × V)) → KeysAscend lt (past a) ps → (Below lt a k → ⊥) → look_up lt k ps ≡ None
  look_past a k [] h n = refl
  look_past a k (p ∷ ps) h n =
      let l = h.0 in
      grind (arith, o.irreflexive, o.transitive, o.total)

  look_put : (k a : K) (v : V) (ps : List (K × V)) →
      look_up lt k (put lt a v ps) ≡ pick (compare_by lt k a) (look_up lt k ps) (Some v) (look_up lt k ps)
  look_put k a v [] = grind arith
  look_put k a v (p ∷ ps) =
      let ih = look_put k a v ps in
      grind (arith, o.irreflexive, o.transitive, o.total)

  look_remove : (lo : Low K) (k a : K) (ps : List (K × V)) → KeysAscend lt lo ps →
      look_up lt k (remove lt a ps) ≡ pick (compare_by lt k a) (look_up lt k ps) None (look_up lt k ps)
  look_remove lo k a [] h = grind arith
  look_remove lo k a (p ∷ ps) h =
      let ih = look_remove (past p.0) k a ps h.1 in
      let below : Below lt k p.0 → look_up lt k ps ≡ None =
      λ b. look_past p.0 k ps h.1 (not_above o k p.0 b) in
      let same : k ≡ p.0 → look_up lt k ps ≡ None =
      λ e. look_past p.0 k ps h.1 (same_not_below o k p.0 e) in
      grind (arith, o.irreflexive, o.transitive, o.total)

  put_ascends : (lo : Low K) (a : K) (v : V) (ps : List (K × V)) → AboveLow lt lo a → KeysAscend lt lo ps →
      KeysAscend lt lo (put lt a v ps)
  put_ascends lo a v [] l h = (l, tt)
  put_ascends lo a v (p ∷ ps) l h =
      elim (compared o a p.0) as
      (λ d x. KeysAscend lt lo (pick d ((a, v) ∷ p ∷ ps) ((a, v) ∷ ps) (p ∷ put lt a v ps))) [
        | is_less q ↦ (l, (q, h.1))
        | is_equal q ↦ (l, subst (λ b. KeysAscend lt (past b) ps) (sym q) h.1)
        | is_greater q ↦ (h.0, put_ascends (past p.0) a v ps q h.1)
      ]

  ascends_lower_keys : (lo : Low K) (a : K) (ps : List (K × V)) → AboveLow lt lo a → KeysAscend lt (past a) ps →
      KeysAscend lt lo ps
  ascends_lower_keys lo a [] l h = tt
  ascends_lower_keys lo a (p ∷ ps) l h = (above_up o lo a p.0 l h.0, h.1)

  remove_ascends : (lo : Low K) (a : K) (ps : List (K × V)) → KeysAscend lt lo ps → KeysAscend lt lo (remove lt a ps)
  remove_ascends lo a [] h = tt
  remove_ascends lo a (p ∷ ps) h =
      elim (compare_by lt a p.0) as (λ d. KeysAscend lt lo (pick d (p ∷ ps) ps (p ∷ remove lt a ps))) [
        | Less ↦ h
        | Equal ↦ ascends_lower_keys lo p.0 ps h.0 h.1
        | Greater ↦ (h.0, remove_ascends (past p.0) a ps h.1)
      ]

  -- a change of the map is an entry above it
  pub look_changed : (k a : K) (v : Option V) (ps : List (K × V)) → KeysAscend lt least ps →
      look_up lt k (put_or_remove lt a v ps) ≡ read lt k (record { key = a; value = v } ∷ []) (look_up lt k ps)
  look_changed k a (Some v) ps h = look_put k a v ps
  look_changed k a None ps h = look_remove least k a ps h

  pub changed_ascends : (a : K) (v : Option V) (ps : List (K × V)) → KeysAscend lt least ps →
      KeysAscend lt least (put_or_remove lt a v ps)
  changed_ascends a (Some v) ps h = put_ascends least a v ps tt h
  changed_ascends a None ps h = remove_ascends least a ps h
