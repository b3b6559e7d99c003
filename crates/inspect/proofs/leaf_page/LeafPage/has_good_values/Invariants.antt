use Rattle.std.proofs.Common.{◌≡◌, ℕ, ◌*◌, length}
use Rattle.std.specs.Slice.Iter.{chunks_exact_rest, chunks_exact_size}
use Rattle.records.specs.Kind.{record_width}
use Rattle.layout.specs.LeafPages.{good_values, raw_entries, raw_entries_on}
use Rattle.inspect.proofs.leaf_page.LeafPage.has_good_values.Given as goal

abbrev pub invariant-loop-entry : goal.invariant-loop-entry
invariant-loop-entry g l =
    let k = g.K.RecordKind.model l.self.range.ground.kind.now in
    let all = chunks_exact_rest l.entry-iterator in
    record {
      can : (goal.iterator-loop-entry g).can_next l.entry-iterator;
      finite : (goal.iterator-loop-entry g).is_finite l.entry-iterator;
      size : chunks_exact_size l.entry-iterator ≡ record_width k;
      wide : l.w ≡ k.key_width;
      left : (n : ℕ) × (length all ≡ n * record_width k)
          × (good_values k (raw_entries k.key_width k.value_width n l.marks all)
          ≡ good_values k (raw_entries_on k l.self.count l.self.page.now));
    }
