use Rattle.std.proofs.Common.{◌≡◌, ◌<◌, get_or, sym, subst, arith, rules}
use Rattle.stores.specs.Places.{place_at}
use Rattle.stores.proofs.Writing.{small_place}
use Rattle.stores.proofs.area.copy_place.Goals as goal

pub returns : goal.returns
returns c =
    let area = c.args.bytes.now in
    let p = c.args.p in
    let page : c.copy_from_slice.new.self ≡ place_at area p = search rules in
    record {
      page = page;
      bytes = λ i. subst (λ x. get_or x i 0 < 256) (sym page)
          (small_place area p (λ j. omega (arith, c.type_inv.bytes j)) i);
    }
