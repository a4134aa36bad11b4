use Rattle.ql_journal.specs.Within.{AgreesUpTo}
use Rattle.ql_journal.proofs.known.is_package_of.Given as goal

abbrev pub invariant-loop-k : goal.invariant-loop-k
invariant-loop-k l = AgreesUpTo l.x l.member l.ids l.k
