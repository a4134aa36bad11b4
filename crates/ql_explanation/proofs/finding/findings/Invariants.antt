use Rattle.ql_explanation.proofs.Found.{AreFirst}
use Rattle.ql_explanation.proofs.finding.findings.Given as goal

abbrev pub invariant-loop-target : goal.invariant-loop-target
invariant-loop-target l = AreFirst l.t.program l.found.items l.target
