-- The ways a node comes out of a split, each with what is then known: every law of relief is proved for these ways.
use Rattle.std.proofs.Common.{◌≡◌, ℕ, suc, ◌+◌, ◌-◌, ◌/◌, ◌<◌, ◌≤◌, Bool, ltb, List, [], ◌∷◌, length, take, drop, sym, refl, ap, subst, arith, length-drop}
use Rattle.std.proofs.lemmas.Bool.{cond_both, ltb-true, ltb-false}
use Rattle.shape.specs.Shape.{Shape, least_children_of}
use Rattle.tree.specs.Entries.{Entry, entries_below, entries_from}
use Rattle.tree.specs.Children.{Children, one, more, Halves, count, join, divide_after}
use Rattle.tree.specs.Tree.{Node}
use Rattle.tree.specs.Relief.{Relieved, leaf_halves, inner_halves, split_leaf, split_inner}
use Rattle.tree.proofs.Children.{divided}
use Rattle.tree.proofs.Sizes.{Sizes}

module _ {K V : Type 0} (s : Shape) where
  pub data LeafSplit (slot next : ℕ) (es : List (Entry K V)) : Relieved K V Unit → Type 0 where
    whole : length es ≤ s.capacity →
        LeafSplit slot next es
        (record { movers = []; next = next; parts = one (record { slot = slot; entries = es; children = tt }) })
    halved : s.capacity < length es → (r : Entry K V) (rs : List (Entry K V)) → drop (length es / 2) es ≡ r ∷ rs →
        LeafSplit slot next es (record {
          movers = [];
          next = suc next;
          parts =
              more (record { slot = slot; entries = take (length es / 2) es; children = tt }) r.key
              (one (record { slot = next; entries = r ∷ rs; children = tt }));
        })

module _ {K V : Type 0} (lt : K → K → Bool) (s : Shape) where
  pub data InnerSplit {C : Type 0} (movers : List ℕ) (slot next : ℕ) (es : List (Entry K V))
      (cs : Children K (Node K V C)) : Relieved K V (Children K (Node K V C)) → Type 0 where
    kept : count cs ≤ s.fanout →
        InnerSplit movers slot next es cs
        (record { movers = movers; next = next; parts = one (record { slot = slot; entries = es; children = cs }) })
    split : s.fanout < count cs → (c : Halves K (Node K V C)) → cs ≡ join c.front c.middle c.back →
        count c.front ≡ least_children_of s →
        InnerSplit movers slot next es cs (record {
          movers = movers;
          next = suc next;
          parts =
              more (record { slot = slot; entries = entries_below lt c.middle es; children = c.front }) c.middle
              (one (record { slot = next; entries = entries_from lt c.middle es; children = c.back }));
        })

  pub leaf_split : (slot next : ℕ) (es : List (Entry K V)) → LeafSplit s slot next es (split_leaf lt s slot next es)
  unfolding split_leaf
  leaf_split slot next es =
      cond_both (ltb s.capacity (length es)) _ _ (LeafSplit s slot next es)
      (λ e. go (drop (length es / 2) es) refl (ltb-true s.capacity (length es) e))
      (λ e. whole (ltb-false s.capacity (length es) e))
    where
      go : (d : List (Entry K V)) → drop (length es / 2) es ≡ d → s.capacity < length es →
          LeafSplit s slot next es
          (record { movers = []; next = suc next; parts = leaf_halves slot next (take (length es / 2) es) d })
      go [] e l = absurd (omega (arith, length-drop (length es / 2) es, ap length e))
      go (r ∷ rs) e l = halved l r rs e

  pub inner_split : {C : Type 0} (movers : List ℕ) (slot next : ℕ) (es : List (Entry K V))
      (cs : Children K (Node K V C)) → Sizes s →
      InnerSplit movers slot next es cs (split_inner lt s movers slot next es cs)
  unfolding split_inner
  inner_split movers slot next es cs sz =
      cond_both (ltb s.fanout (count cs)) _ _ (InnerSplit movers slot next es cs)
      (λ e. go (ltb-true s.fanout (count cs) e))
      (λ e. kept (ltb-false s.fanout (count cs) e))
    where
      go : s.fanout < count cs →
          InnerSplit movers slot next es cs (record {
            movers = movers;
            next = suc next;
            parts = inner_halves lt slot next es cs (divide_after ((s.fanout + 1) / 2 - 1) cs);
          })
      go l =
          let c = divided ((s.fanout + 1) / 2 - 1) cs (omega arith) in
          subst
          (λ v. InnerSplit movers slot next es cs
          (record { movers = movers; next = suc next; parts = inner_halves lt slot next es cs v }))
          (sym c.1) (split l c.0 c.2 (omega (arith, c.3)))
