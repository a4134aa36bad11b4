use Rattle.std.proofs.Common.{◌≡◌, drop}
use Rattle.ql_exec.specs.Latest.{latest_of}
use Rattle.ql_exec.proofs.latest.Latest.of.Given as goal

abbrev pub invariant-loop-entry : goal.invariant-loop-entry
invariant-loop-entry l = latest_of l.entry-items l.session ≡ latest_of (drop l.entry-index l.entry-items) l.session
