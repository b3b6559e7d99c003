use Rattle.std.proofs.Common.{◌∙◌, sym}
use Rattle.stores.specs.Shifting.{held, length-shifting}
use Rattle.std.proofs.Common.{ap}
use Rattle.stores.proofs.shifting.ShiftingStorePageStore.size.Goals as goal

pub returns : goal.returns
returns c =
    let s = c.args.self.now in
    c.room_for.ensures
    ∙ ap (held s.table.size) c.len.ensures
    ∙ sym (length-shifting s.area.bytes.now s.table.places s.table.size)
