use Rattle.std.proofs.Common.{◌↔◌, length}
use Rattle.ql_journal.specs.Within.{AreWithin}
use Rattle.ql_journal.proofs.known.are_in.Given as goal

abbrev pub invariant-loop-rest : goal.invariant-loop-rest
invariant-loop-rest l = AreWithin l.others l.ids ↔ AreWithin l.others l.rest

abbrev pub decreases-loop-rest : goal.decreases-loop-rest
decreases-loop-rest l = length l.rest
