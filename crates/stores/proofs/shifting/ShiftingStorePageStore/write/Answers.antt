use Rattle.std.proofs.Common.{◌≡◌, ◌%◌, ◌^◌, ◌<◌, length, set, ap, ◌∙◌, arith, rules}
use Rattle.stores.specs.Store.{touched_once}
use Rattle.stores.specs.Places.{written}
use Rattle.stores.specs.Shifting.{held, held_room, shifting_pages, shifting_state, length-shifting}
use Rattle.stores.proofs.Moving.{shifted}
use Rattle.stores.proofs.shifting.ShiftingStorePageStore.write.Goals as goal

pub shift-requires : goal.shift-requires
shift-requires c =
    let s = c.args.self.now in
    let n = length-shifting s.area.bytes.now s.table.places s.table.size in
    (held_room c.args.p s.table.size (length s.area.bytes.now)
    (omega (arith, n, c.size.ensures, c.in_ok-check_page.ensures))).0

pub returns : goal.returns
returns c =
    let s = c.args.self.now in
    let after = c.write.new.self in
    let t = c.shift.new.self in
    let p = c.args.p in
    let b = c.args.buffer.now in
    let spare = s.table.spare in
    let n = length-shifting s.area.bytes.now s.table.places s.table.size in
    let lt : p < held s.table.size (length s.area.bytes.now) =
    omega (arith, n, c.size.ensures, c.in_ok-check_page.ensures) in
    let long : length s.table.places ≡ 1024 = search rules in
    let count : after.count % 2 ^ 64 ≡ touched_once (s.area.count % 2 ^ 64) = omega (arith, c.write.ensures.count) in
    record {
      there = omega (arith, n, lt);
      then =
          ap (λ bytes. shifting_state bytes t.places t.size after.count) c.write.ensures.area
          ∙ ap (λ m. shifting_state (written spare s.area.bytes.now b) m t.size after.count) c.shift.ensures.places
          ∙ ap (λ m. shifting_state (written spare s.area.bytes.now b) (set s.table.places p spare) m after.count)
          c.shift.ensures.size
          ∙ ap (λ k. record {
            pages = shifting_pages (written spare s.area.bytes.now b) (set s.table.places p spare) s.table.size;
            count = k;
          }) count
          ∙ ap (λ ps. record { pages = ps; count = touched_once (s.area.count % 2 ^ 64) })
          (shifted s.area.bytes.now s.table.places s.table.size spare p b lt long s.table.few
          s.table.spared s.table.inside c.told-buffer c.fits-buffer);
    }
