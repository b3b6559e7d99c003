-- Each turn takes the first entry off the bytes that are left, and the lowest bit off the marks.
use Rattle.std.proofs.Common.{◌≡◌, ◌*◌, ◌/◌, ◌%◌, true, false, ◌&&◌, eqb, length, take, drop, sym, ap, ◌∙◌, arith}
use Rattle.std.proofs.lemmas.List.{length-take-le, length-drop}
use Rattle.std.specs.Slice.Iter.{chunks_exact_rest, chunks_exact_size}
use Rattle.records.specs.Kind.{record_width}
use Rattle.layout.specs.LeafPages.{good_value, good_values, raw_entries}
use Rattle.inspect.proofs.Entries.{entry_first, entry_none, entries_taken}
use Rattle.inspect.proofs.leaf_page.LeafPage.has_good_values.Goals as goal

pub loop-entry-init : goal.loop-entry-init
loop-entry-init g c =
    let k = g.K.RecordKind.model c.args.self.now.range.ground.kind.now in
    let law = g.met.K.RecordKind.lawful c.args.self.now.range.ground.kind.now in
    let rest = drop 9 c.args.self.now.page.now in
    let t = c.args.self.now.count in
    let marks = c.mark_word-marks.result in
    let is = c.into_iter-entry-iterator.ensures.into_iter_gives in
    let on = c.entries-entry-items.ensures in
    let size : chunks_exact_size c.into_iter-entry-iterator.result ≡ record_width k =
    ap chunks_exact_size is ∙ on.size in
    let bytes : chunks_exact_rest c.into_iter-entry-iterator.result ≡ take (t * record_width k) rest =
    ap chunks_exact_rest is ∙ on.rest in
    record {
      can = omega (arith, size, law.key_least);
      finite = tt;
      size = size;
      wide = c.key_width-w.ensures;
      left = (
        t,
        ap length bytes ∙ length-take-le (t * record_width k) rest
            (omega (arith, length-drop 9 c.args.self.now.page.now, c.args.self.now.whole, c.args.self.now.room)),
        ap (λ es. good_values k (raw_entries k.key_width k.value_width t marks es)) bytes
            ∙ ap (good_values k) (entries_taken k.key_width k.value_width t marks rest)
            ∙ ap (λ m. good_values k (raw_entries k.key_width k.value_width t m rest)) c.mark_word-marks.ensures,
      );
    }

pub returns-then-not-is_good_value : goal.returns-then-not-is_good_value
unfolding good_values
returns-then-not-is_good_value g c =
    let k = g.K.RecordKind.model c.args.self.now.range.ground.kind.now in
    let law = g.met.K.RecordKind.lawful c.args.self.now.range.ground.kind.now in
    let i = c.loop-entry.invariant in
    let steps = c.in-Some.ensures.steps in
    let marks = c.loop-entry.marks in
    let value = drop k.key_width c.in-Some.entry.now in
    let rest = chunks_exact_rest c.next.new.self in
    let e = entry_first k.key_width k.value_width i.left.0 marks (chunks_exact_rest c.loop-entry.entry-iterator)
    c.in-Some.entry.now rest law.key_least steps.1.0 (steps.1.1 ∙ i.size) i.left.1 in
    let told = rw (c.split_at.ensures.back, i.wide) at c.is_good_value.ensures in
    let bad : good_value k (eqb (marks % 2) 1) value ≡ false = sym told ∙ c.if-not-is_good_value.true in
    let others = raw_entries k.key_width k.value_width e.0 (marks / 2) rest in
    sym (ap (good_values k) e.2 ∙ ap (λ b. b && good_values k others) bad) ∙ i.left.2

pub loop-entry-preserved : goal.loop-entry-preserved
unfolding good_values
loop-entry-preserved g c =
    let k = g.K.RecordKind.model c.args.self.now.range.ground.kind.now in
    let law = g.met.K.RecordKind.lawful c.args.self.now.range.ground.kind.now in
    let i = c.loop-entry.invariant in
    let steps = c.in-Some.ensures.steps in
    let marks = c.loop-entry.marks in
    let value = drop k.key_width c.in-Some.entry.now in
    let rest = chunks_exact_rest c.next.new.self in
    let e = entry_first k.key_width k.value_width i.left.0 marks (chunks_exact_rest c.loop-entry.entry-iterator)
    c.in-Some.entry.now rest law.key_least steps.1.0 (steps.1.1 ∙ i.size) i.left.1 in
    let told = rw (c.split_at.ensures.back, i.wide) at c.is_good_value.ensures in
    let good : good_value k (eqb (marks % 2) 1) value ≡ true = sym told ∙ c.if-not-is_good_value.false in
    let others = raw_entries k.key_width k.value_width e.0 (marks / 2) rest in
    record {
      can = omega (arith, steps.0, i.size, law.key_least);
      finite = tt;
      size = steps.0 ∙ i.size;
      wide = i.wide;
      left = (
        e.0,
        e.1,
        sym (ap (good_values k) e.2 ∙ ap (λ b. b && good_values k others) good) ∙ i.left.2,
      );
    }

pub returns : goal.returns
unfolding good_values
returns g c =
    let k = g.K.RecordKind.model c.args.self.now.range.ground.kind.now in
    let i = c.loop-entry.invariant in
    let none = entry_none k.key_width k.value_width i.left.0 c.loop-entry.marks
    (chunks_exact_rest c.loop-entry.entry-iterator) (omega (arith, c.in-None.ensures.steps.1.0, i.size)) i.left.1 in
    ap (good_values k) (sym none) ∙ i.left.2
