use Rattle.std.proofs.Common.{◌≡◌, drop}
use Rattle.script_words.specs.Words.{pairs_written}
use Rattle.script_words.proofs.Pairs.{behind, chunks_written}
use Rattle.script_words.proofs.paired.Given as goal

abbrev pub invariant-loop-high : goal.invariant-loop-high
invariant-loop-high l =
    pairs_written l.text ≡ behind l.out.items (chunks_written (drop l.high-index l.pairs))
