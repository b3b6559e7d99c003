use Rattle.std.proofs.Common.{◌≡◌, ℕ, ◌*◌, List, length}
use Rattle.std.specs.Slice.Iter.{chunks_exact_rest, chunks_exact_size}
use Rattle.layout.specs.Nodes.{good_s_keys, children_from}
use Rattle.inspect.specs.Bounds.{low_of, high_of}
use Rattle.inspect.proofs.node_page.are_good_s_keys.Given as goal

abbrev pub invariant-loop-key : goal.invariant-loop-key
invariant-loop-key g l =
    let k = g.K.RecordKind.model l.range.ground.kind.now in
    let all = chunks_exact_rest l.key-iterator in
    record {
      can : (goal.iterator-loop-key g).can_next l.key-iterator;
      finite : (goal.iterator-loop-key g).is_finite l.key-iterator;
      size : chunks_exact_size l.key-iterator ≡ k.key_width;
      ground : l.rest.ground ≡ l.range.ground;
      high : l.rest.high ≡ l.range.high;
      left : (n : ℕ) × (length all ≡ n * k.key_width)
          × ((slots : List ℕ) → (others : List ℕ)
          × (good_s_keys k (low_of l.rest.low) (high_of l.range.high) (children_from k.key_width n others all)
          ≡ good_s_keys k (low_of l.range.low) (high_of l.range.high) (children_from k.key_width l.n slots l.keys)));
    }
