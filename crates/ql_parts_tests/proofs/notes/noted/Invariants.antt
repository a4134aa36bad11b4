use Rattle.std.proofs.Common.{◌≡◌, take}
use Rattle.ql_session.specs.Executions.{notes_of}
use Rattle.ql_parts_tests.proofs.notes.noted.Given as goal

abbrev pub invariant-loop-k : goal.invariant-loop-k
invariant-loop-k l = l.table ≡ notes_of (take l.k l.effects)
