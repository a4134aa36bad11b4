use Rattle.std.proofs.Common.{◌≡◌, ◌≤◌, drop, length}
use Rattle.ql_value.specs.Reading.{word_end}
use Rattle.ql_value.proofs.reading_scalar.word_end.Given as goal

abbrev pub invariant-loop-letter : goal.invariant-loop-letter
invariant-loop-letter l = (l.place ≤ length l.bytes) × (word_end l.word (drop l.at l.bytes) ≡ word_end (drop l.letter-index l.word) (drop l.place l.bytes))
