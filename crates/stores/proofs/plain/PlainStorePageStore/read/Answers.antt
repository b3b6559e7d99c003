use Rattle.std.proofs.Common.{◌≡◌, ◌%◌, ◌^◌, ◌<◌, length, sym, ap, ◌∙◌, arith}
use Rattle.stores.specs.Store.{touched_once}
use Rattle.stores.specs.Places.{low_bytes, contents, inside, get_or-contents}
use Rattle.stores.proofs.Writing.{low_same}
use Rattle.stores.proofs.plain.PlainStorePageStore.read.Goals as goal

pub read-requires : goal.read-requires
read-requires c =
    inside 65535 c.args.p c.args.self.now.area.bytes.now (omega (arith, c.size.ensures, c.in_ok-check_page.ensures))

pub returns : goal.returns
returns c =
    let area = c.args.self.now.area in
    let after = c.read.new.self in
    let there : c.args.p < length (contents 65535 area.bytes.now) =
    omega (arith, c.size.ensures, c.in_ok-check_page.ensures) in
    let count : after.count % 2 ^ 64 ≡ touched_once (area.count % 2 ^ 64) = omega (arith, c.read.ensures.count) in
    record {
      there = there;
      page = sym (low_same c.read.new.buffer c.read.ensures.bytes)
          ∙ ap low_bytes c.read.ensures.page
          ∙ sym (get_or-contents 65535 c.args.p area.bytes.now there);
      then = ap (λ bytes. record { pages = contents 65535 bytes; count = after.count % 2 ^ 64 }) c.read.ensures.area
          ∙ ap (λ n. record { pages = contents 65535 area.bytes.now; count = n }) count;
    }
