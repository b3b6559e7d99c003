use Rattle.std.proofs.Common.{◌≡◌, ◌%◌, ◌^◌, ◌<◌, length, ap, ◌∙◌, arith}
use Rattle.stores.specs.Store.{touched_once}
use Rattle.stores.specs.Places.{contents, written, inside}
use Rattle.stores.proofs.Writing.{set_contents}
use Rattle.stores.proofs.plain.PlainStorePageStore.write.Goals as goal

pub write-requires : goal.write-requires
write-requires c =
    inside 65535 c.args.p c.args.self.now.area.bytes.now (omega (arith, c.size.ensures, c.in_ok-check_page.ensures))

pub returns : goal.returns
returns c =
    let p = c.args.p in
    let area = c.args.self.now.area in
    let after = c.write.new.self in
    let b = c.args.buffer.now in
    let there : p < length (contents 65535 area.bytes.now) =
    omega (arith, c.size.ensures, c.in_ok-check_page.ensures) in
    let count : after.count % 2 ^ 64 ≡ touched_once (area.count % 2 ^ 64) = omega (arith, c.write.ensures.count) in
    record {
      there = there;
      then = ap (λ bytes. record { pages = contents 65535 bytes; count = after.count % 2 ^ 64 }) c.write.ensures.area
          ∙ ap (λ n. record { pages = contents 65535 (written p area.bytes.now b); count = n }) count
          ∙ ap (λ ps. record { pages = ps; count = touched_once (area.count % 2 ^ 64) })
          (set_contents 65535 p area.bytes.now b c.told-buffer c.fits-buffer there);
    }
