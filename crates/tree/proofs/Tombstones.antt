-- Where nothing older stands below, a tombstone says what its absence says; so a leaf node may drop it.
use Rattle.std.proofs.Common.{◌≡◌, ℕ, zero, suc, ◌≤◌, Bool, true, false, cond, List, [], ◌∷◌, length, take, drop, is_some, None, refl, arith}
use Rattle.std.proofs.lemmas.Bool.{cond_both}
use Rattle.tree.specs.Order.{Ordered}
use Rattle.tree.specs.Entries.{Entry, Low, past, High, Ascending, read, without_tombstones, NoTombstones}
use Rattle.tree.proofs.Bounds.{same_not_below}
use Rattle.tree.proofs.Merge.{ascends_lower, absent}

module _ {K V : Type 0} where
  pub live_length : (es : List (Entry K V)) → length (without_tombstones es) ≤ length es
  live_length [] = omega arith
  live_length (x ∷ xs) = let i = live_length xs in grind arith

  pub live_only : (es : List (Entry K V)) → NoTombstones (without_tombstones es)
  live_only [] = tt
  live_only (x ∷ xs) =
      cond_both (is_some x.value) (x ∷ without_tombstones xs) (without_tombstones xs) NoTombstones
      (λ e. (e, live_only xs)) (λ e. live_only xs)

  pub live_parts : (n : ℕ) (es : List (Entry K V)) → NoTombstones es →
      NoTombstones (take n es) × NoTombstones (drop n es)
  live_parts zero es h = (tt, h)
  live_parts (suc n) [] h = (tt, tt)
  live_parts (suc n) (x ∷ xs) h = let i = live_parts n xs h.1 in ((h.0, i.0), i.1)

module _ {K V : Type 0} {lt : K → K → Bool} (o : Ordered lt) where
  pub live_ascends : (lo : Low K) (hi : High K) (es : List (Entry K V)) → Ascending lt lo hi es →
      Ascending lt lo hi (without_tombstones es)
  live_ascends lo hi [] h = tt
  live_ascends lo hi (x ∷ xs) h =
      elim (is_some x.value) as (λ b. Ascending lt lo hi (cond b (x ∷ without_tombstones xs) (without_tombstones xs))) [
        | true ↦ (h.0, h.1, live_ascends (past x.key) hi xs h.2)
        | false ↦
            let rest = live_ascends (past x.key) hi xs h.2 in
            ascends_lower o lo hi x.key (without_tombstones xs) h.0 rest
      ]

  pub read_live : (lo : Low K) (hi : High K) (k : K) (es : List (Entry K V)) → Ascending lt lo hi es →
      read lt k (without_tombstones es) None ≡ read lt k es None
  read_live lo hi k [] h = refl
  read_live lo hi k (x ∷ xs) h =
      let ih = read_live (past x.key) hi k xs h.2 in
      let rest = live_ascends (past x.key) hi xs h.2 in
      let none : k ≡ x.key → read lt k (without_tombstones xs) None ≡ None =
      λ e. absent o (past x.key) hi k (without_tombstones xs) None rest (same_not_below o k x.key e) in
      grind arith
