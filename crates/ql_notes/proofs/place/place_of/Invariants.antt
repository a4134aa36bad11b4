use Rattle.std.proofs.Common.{◌≤◌, ◌+◌}
use Rattle.ql_notes.proofs.Scans.{IsScanned}
use Rattle.ql_notes.proofs.place.place_of.Given as goal

abbrev pub invariant-loop-k : goal.invariant-loop-k
invariant-loop-k l = IsScanned l.fn.text l.k l.line l.start × (l.line ≤ l.k + 1)
