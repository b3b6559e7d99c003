use Rattle.std.proofs.Common.{◌≡◌, ◌%◌, ◌^◌, ◌<◌, [], length, sym, ap, ◌∙◌, arith}
use Rattle.stores.specs.Store.{touched_once}
use Rattle.stores.specs.Places.{low_bytes, place_at}
use Rattle.stores.specs.Shifting.{held, held_room, shifting_pages, length-shifting, get_or-shifting}
use Rattle.stores.proofs.Writing.{low_same}
use Rattle.stores.proofs.shifting.ShiftingStorePageStore.read.Goals as goal

pub place-place-requires : goal.place-place-requires
place-place-requires c =
    let s = c.args.self.now in
    let n = length-shifting s.area.bytes.now s.table.places s.table.size in
    (held_room c.args.p s.table.size (length s.area.bytes.now)
    (omega (arith, n, c.size.ensures, c.in_ok-check_page.ensures))).0

pub read-requires : goal.read-requires
read-requires c =
    let s = c.args.self.now in
    let n = length-shifting s.area.bytes.now s.table.places s.table.size in
    let r = held_room c.args.p s.table.size (length s.area.bytes.now)
    (omega (arith, n, c.size.ensures, c.in_ok-check_page.ensures)) in
    omega (arith, r.2, (s.table.inside c.args.p r.0).0, c.place-place.ensures)

pub returns : goal.returns
returns c =
    let s = c.args.self.now in
    let p = c.args.p in
    let after = c.read.new.self in
    let n = length-shifting s.area.bytes.now s.table.places s.table.size in
    let lt : p < held s.table.size (length s.area.bytes.now) =
    omega (arith, n, c.size.ensures, c.in_ok-check_page.ensures) in
    let count : after.count % 2 ^ 64 ≡ touched_once (s.area.count % 2 ^ 64) = omega (arith, c.read.ensures.count) in
    record {
      there = omega (arith, n, lt);
      page = sym (low_same c.read.new.buffer c.read.ensures.bytes)
          ∙ ap low_bytes c.read.ensures.page
          ∙ ap (λ place. low_bytes (place_at s.area.bytes.now place)) c.place-place.ensures
          ∙ sym (get_or-shifting s.area.bytes.now s.table.places s.table.size p [] lt);
      then =
          ap (λ bytes. record {
            pages = shifting_pages bytes s.table.places s.table.size;
            count = after.count % 2 ^ 64;
          }) c.read.ensures.area
          ∙ ap (λ k. record { pages = shifting_pages s.area.bytes.now s.table.places s.table.size; count = k }) count;
    }
