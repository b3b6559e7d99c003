-- The root alone is listed: one slot more than none.
use Rattle.std.proofs.Common.{false, [], replicate, refl, arith}
use lib.ListN.{length-replicate, get_or-replicate}
use Rattle.inspect.specs.declared.listed.Listed.{Listed}
use Rattle.inspect.specs.Listed.{Lists}
use Rattle.inspect.proofs.NodeTold.{lists_more}
use Rattle.inspect.proofs.listed.Listed.root.Goals as goal

-- no slot is listed
abbrev none : Listed
none = record { flags = replicate 1024 false; count = 0 }

nothing : Lists none []
nothing = record { flags = λ slot lt. get_or-replicate 1024 slot false false lt; count = refl }

pub returns : goal.returns
returns c =
    lists_more none _ c.args.slot [] c.requires (length-replicate 1024 false) refl (omega arith) nothing
