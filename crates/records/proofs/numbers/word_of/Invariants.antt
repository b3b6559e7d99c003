use Rattle.std.proofs.Common.{◌≡◌, ◌^◌, ◌<◌, take}
use Rattle.records.specs.Bytes.{word}
use Rattle.records.proofs.numbers.word_of.Given as goal

abbrev pub invariant-loop-b : goal.invariant-loop-b
invariant-loop-b l = (l.n ≡ word (take l.b-index l.bytes)) × (l.n < 256 ^ l.b-index)
