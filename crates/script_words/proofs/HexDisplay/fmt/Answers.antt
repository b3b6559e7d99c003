use Rattle.std.proofs.Common.{rules, get_or}
use Rattle.std.proofs.Output.{has_written_append, has_written_of_eq, displays_on_ok_of_eq}
use Rattle.script_words.proofs.Pairs.{byte_printed, shown_next}
use Rattle.script_words.proofs.HexDisplay.fmt.Goals as goal

pub loop-b-preserved : goal.loop-b-preserved
loop-b-preserved g c = λ plain.
    let bs = c.args.self.now.0.now in
    let i = c.loop-b.b-index in
    let printed =
    byte_printed c.in_radix.result c.laid_out.result (get_or bs i 0) (search rules) c.in_radix.ensures
    c.laid_out.ensures in
    let before = c.loop-b.invariant plain in
    let more = displays_on_ok_of_eq _ _ _ _ _ _ printed c.write.ensures.writes before.plain (search rules) in
    has_written_of_eq _ _ _ _ _ (shown_next bs i (search rules)) (has_written_append _ _ _ _ _ _ before more)
