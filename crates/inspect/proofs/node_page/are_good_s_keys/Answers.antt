-- Each turn takes the first s-key off the bytes that are left.
use Rattle.std.proofs.Common.{◌≡◌, ◌*◌, true, false, ◌&&◌, length, take, drop, sym, refl, ap, ◌∙◌, arith}
use Rattle.std.proofs.lemmas.List.{length-take-le}
use Rattle.std.specs.Slice.Iter.{chunks_exact_rest, chunks_exact_size}
use Rattle.tree.specs.Entries.{past}
use Rattle.layout.specs.LeafPages.{good_key}
use Rattle.layout.specs.Nodes.{good_s_keys, children_from}
use Rattle.inspect.specs.Bounds.{low_of, high_of}
use Rattle.inspect.proofs.NodeTold.{key_first, key_none, keys_taken}
use Rattle.inspect.proofs.node_page.are_good_s_keys.Goals as goal

pub loop-key-init : goal.loop-key-init
loop-key-init g c =
    let k = g.K.RecordKind.model c.args.range.ground.kind.now in
    let law = g.met.K.RecordKind.lawful c.args.range.ground.kind.now in
    let keys = c.args.keys.now in
    let n = c.args.n in
    let lo = low_of c.args.range.low in
    let hi = high_of c.args.range.high in
    let is = c.into_iter-key-iterator.ensures.into_iter_gives in
    let on = c.chunks_exact-key-items.ensures in
    let size : chunks_exact_size c.into_iter-key-iterator.result ≡ k.key_width =
    ap chunks_exact_size is ∙ on.size ∙ c.key_width-w.ensures in
    let bytes : chunks_exact_rest c.into_iter-key-iterator.result ≡ take (n * k.key_width) keys =
    ap chunks_exact_rest is ∙ on.rest ∙ ap (λ w. take (n * w) keys) c.key_width-w.ensures in
    record {
      can = omega (arith, size, law.key_least);
      finite = tt;
      size = size;
      ground = refl;
      high = refl;
      left = (
        n,
        ap length bytes ∙ length-take-le (n * k.key_width) keys c.requires,
        λ slots. (
          slots,
          ap (λ ks. good_s_keys k lo hi (children_from k.key_width n slots ks)) bytes
              ∙ ap (good_s_keys k lo hi) (keys_taken k.key_width n slots keys),
        ),
      );
    }

pub returns-then-not-contains : goal.returns-then-not-contains
unfolding good_s_keys
returns-then-not-contains g c = λ slots.
    let k = g.K.RecordKind.model c.args.range.ground.kind.now in
    let law = g.met.K.RecordKind.lawful c.args.range.ground.kind.now in
    let i = c.loop-key.invariant in
    let steps = c.in-Some.ensures.steps in
    let hi = high_of c.args.range.high in
    let lo = low_of c.loop-key.rest.low in
    let key = c.in-Some.key.now in
    let rest = chunks_exact_rest c.next.new.self in
    let e = key_first k.key_width i.left.0 (chunks_exact_rest c.loop-key.key-iterator) key rest law.key_least
    steps.1.0 (steps.1.1 ∙ i.size) i.left.1 in
    let told = rw (i.ground, i.high) at c.contains.ensures in
    let bad : good_key k lo hi key ≡ false = sym told ∙ c.if-not-contains.true in
    let here = i.left.2 slots in
    let others = children_from k.key_width e.0 (drop 2 here.0) rest in
    sym (ap (good_s_keys k lo hi) (e.2 here.0) ∙ ap (λ b. b && good_s_keys k (past key) hi others) bad) ∙ here.1

pub loop-key-preserved : goal.loop-key-preserved
unfolding good_s_keys
loop-key-preserved g c =
    let k = g.K.RecordKind.model c.args.range.ground.kind.now in
    let law = g.met.K.RecordKind.lawful c.args.range.ground.kind.now in
    let i = c.loop-key.invariant in
    let steps = c.in-Some.ensures.steps in
    let next = c.past-rest.ensures in
    let hi = high_of c.args.range.high in
    let lo = low_of c.loop-key.rest.low in
    let key = c.in-Some.key.now in
    let rest = chunks_exact_rest c.next.new.self in
    let e = key_first k.key_width i.left.0 (chunks_exact_rest c.loop-key.key-iterator) key rest law.key_least
    steps.1.0 (steps.1.1 ∙ i.size) i.left.1 in
    let told = rw (i.ground, i.high) at c.contains.ensures in
    let good : good_key k lo hi key ≡ true = sym told ∙ c.if-not-contains.false in
    record {
      can = omega (arith, steps.0, i.size, law.key_least);
      finite = tt;
      size = steps.0 ∙ i.size;
      ground = next.ground ∙ i.ground;
      high = next.high ∙ i.high;
      left = (
        e.0,
        e.1,
        λ slots.
            let here = i.left.2 slots in
            let others = children_from k.key_width e.0 (drop 2 here.0) rest in (
              drop 2 here.0,
              rw next.low
                  (sym (ap (good_s_keys k lo hi) (e.2 here.0)
                  ∙ ap (λ b. b && good_s_keys k (past key) hi others) good) ∙ here.1),
            ),
      );
    }

pub returns : goal.returns
unfolding good_s_keys
returns g c = λ slots.
    let k = g.K.RecordKind.model c.args.range.ground.kind.now in
    let i = c.loop-key.invariant in
    let here = i.left.2 slots in
    let none = key_none k.key_width i.left.0 (chunks_exact_rest c.loop-key.key-iterator)
    (omega (arith, c.in-None.ensures.steps.1.0, i.size)) i.left.1 here.0 in
    ap (good_s_keys k (low_of c.loop-key.rest.low) (high_of c.args.range.high)) (sym none) ∙ here.1
