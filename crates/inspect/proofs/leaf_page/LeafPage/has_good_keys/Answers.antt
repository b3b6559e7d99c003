-- Each turn takes the first entry off the bytes that are left.
use Rattle.std.proofs.Common.{◌≡◌, ◌*◌, ◌/◌, true, false, ◌&&◌, length, take, drop, sym, refl, ap, ◌∙◌, arith}
use Rattle.std.proofs.lemmas.List.{length-take-le, length-drop}
use Rattle.std.specs.Slice.Iter.{chunks_exact_rest, chunks_exact_size}
use Rattle.records.specs.Kind.{record_width}
use Rattle.tree.specs.Entries.{past}
use Rattle.layout.specs.LeafPages.{good_key, good_keys, raw_entries, marks_on}
use Rattle.inspect.specs.Bounds.{low_of, high_of}
use Rattle.inspect.proofs.Entries.{entry_first, entry_none, entries_taken}
use Rattle.inspect.proofs.leaf_page.LeafPage.has_good_keys.Goals as goal

pub loop-entry-init : goal.loop-entry-init
loop-entry-init g c =
    let k = g.K.RecordKind.model c.args.self.now.range.ground.kind.now in
    let law = g.met.K.RecordKind.lawful c.args.self.now.range.ground.kind.now in
    let rest = drop 9 c.args.self.now.page.now in
    let t = c.args.self.now.count in
    let marks = marks_on c.args.self.now.page.now in
    let lo = low_of c.args.self.now.range.low in
    let hi = high_of c.args.self.now.range.high in
    let is = c.into_iter-entry-iterator.ensures.into_iter_gives in
    let on = c.entries-entry-items.ensures in
    let size : chunks_exact_size c.into_iter-entry-iterator.result ≡ record_width k =
    ap chunks_exact_size is ∙ on.size in
    let bytes : chunks_exact_rest c.into_iter-entry-iterator.result ≡ take (t * record_width k) rest =
    ap chunks_exact_rest is ∙ on.rest in
    record {
      can = omega (arith, size, law.key_least);
      finite = tt;
      size = size;
      wide = c.key_width-w.ensures;
      ground = refl;
      high = refl;
      left = (
        t,
        marks,
        ap length bytes ∙ length-take-le (t * record_width k) rest
            (omega (arith, length-drop 9 c.args.self.now.page.now, c.args.self.now.whole, c.args.self.now.room)),
        ap (λ es. good_keys k lo hi (raw_entries k.key_width k.value_width t marks es)) bytes
            ∙ ap (good_keys k lo hi) (entries_taken k.key_width k.value_width t marks rest),
      );
    }

pub returns-then-not-contains : goal.returns-then-not-contains
unfolding good_keys
returns-then-not-contains g c =
    let k = g.K.RecordKind.model c.args.self.now.range.ground.kind.now in
    let law = g.met.K.RecordKind.lawful c.args.self.now.range.ground.kind.now in
    let i = c.loop-entry.invariant in
    let steps = c.in-Some.ensures.steps in
    let hi = high_of c.args.self.now.range.high in
    let lo = low_of c.loop-entry.rest.low in
    let key = take k.key_width c.in-Some.entry.now in
    let rest = chunks_exact_rest c.next.new.self in
    let e = entry_first k.key_width k.value_width i.left.0 i.left.1 (chunks_exact_rest c.loop-entry.entry-iterator)
    c.in-Some.entry.now rest law.key_least steps.1.0 (steps.1.1 ∙ i.size) i.left.2 in
    let told = rw (i.ground, i.high, c.split_at.ensures.front, i.wide) at c.contains.ensures in
    let bad : good_key k lo hi key ≡ false = sym told ∙ c.if-not-contains.true in
    let others = raw_entries k.key_width k.value_width e.0 (i.left.1 / 2) rest in
    sym (ap (good_keys k lo hi) e.2 ∙ ap (λ b. b && good_keys k (past key) hi others) bad) ∙ i.left.3

pub loop-entry-preserved : goal.loop-entry-preserved
unfolding good_keys
loop-entry-preserved g c =
    let k = g.K.RecordKind.model c.args.self.now.range.ground.kind.now in
    let law = g.met.K.RecordKind.lawful c.args.self.now.range.ground.kind.now in
    let i = c.loop-entry.invariant in
    let steps = c.in-Some.ensures.steps in
    let next = c.past-rest.ensures in
    let hi = high_of c.args.self.now.range.high in
    let lo = low_of c.loop-entry.rest.low in
    let key = take k.key_width c.in-Some.entry.now in
    let rest = chunks_exact_rest c.next.new.self in
    let e = entry_first k.key_width k.value_width i.left.0 i.left.1 (chunks_exact_rest c.loop-entry.entry-iterator)
    c.in-Some.entry.now rest law.key_least steps.1.0 (steps.1.1 ∙ i.size) i.left.2 in
    let told = rw (i.ground, i.high, c.split_at.ensures.front, i.wide) at c.contains.ensures in
    let good : good_key k lo hi key ≡ true = sym told ∙ c.if-not-contains.false in
    let others = raw_entries k.key_width k.value_width e.0 (i.left.1 / 2) rest in
    record {
      can = omega (arith, steps.0, i.size, law.key_least);
      finite = tt;
      size = steps.0 ∙ i.size;
      wide = i.wide;
      ground = next.ground ∙ i.ground;
      high = next.high ∙ i.high;
      left = (
        e.0,
        i.left.1 / 2,
        e.1,
        rw (next.low, c.split_at.ensures.front, i.wide)
            (sym (ap (good_keys k lo hi) e.2 ∙ ap (λ b. b && good_keys k (past key) hi others) good) ∙ i.left.3),
      );
    }

pub returns : goal.returns
unfolding good_keys
returns g c =
    let k = g.K.RecordKind.model c.args.self.now.range.ground.kind.now in
    let i = c.loop-entry.invariant in
    let none = entry_none k.key_width k.value_width i.left.0 i.left.1
    (chunks_exact_rest c.loop-entry.entry-iterator) (omega (arith, c.in-None.ensures.steps.1.0, i.size)) i.left.2 in
    ap (good_keys k (low_of c.loop-entry.rest.low) (high_of c.args.self.now.range.high)) (sym none) ∙ i.left.3
