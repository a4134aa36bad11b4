use Rattle.std.proofs.Common.{take}
use Rattle.ql_session.specs.Notes.{IsLeastMissing}
use Rattle.ql_session.proofs.missing.least_missing_of.Given as goal

abbrev pub invariant-loop-id : goal.invariant-loop-id
invariant-loop-id l = IsLeastMissing (take l.id-index l.ids) l.view l.least
