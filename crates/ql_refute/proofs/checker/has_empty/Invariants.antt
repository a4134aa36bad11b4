use Rattle.std.proofs.Common.{◌≡◌, false, take}
use Rattle.ql_refute.specs.Verdict.{has_empty}
use Rattle.ql_refute.proofs.checker.has_empty.Given as goal

abbrev pub invariant-loop-line : goal.invariant-loop-line
invariant-loop-line l = has_empty (take l.line-index l.lines) ≡ false
