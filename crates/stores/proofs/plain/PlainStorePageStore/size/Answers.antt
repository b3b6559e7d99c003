use Rattle.std.proofs.Common.{arith}
use Rattle.stores.specs.Places.{length-contents}
use Rattle.stores.proofs.plain.PlainStorePageStore.size.Goals as goal

pub returns : goal.returns
returns c = omega (arith, length-contents 65535 c.args.self.now.area.bytes.now)
