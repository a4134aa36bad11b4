use Rattle.ql_warnings.specs.Facts.{KeepsTrue}
use Rattle.ql_warnings.proofs.reason.report_all.Given as goal

abbrev pub invariant-loop-fact : goal.invariant-loop-fact
invariant-loop-fact l = KeepsTrue l.scene.execution.now l.scene.at l.initial.facts.items l.facts.items
