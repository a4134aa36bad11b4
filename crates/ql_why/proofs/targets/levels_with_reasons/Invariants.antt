use Rattle.std.proofs.Common.{take}
use Rattle.ql_classify.specs.Targets.{goals_at}
use Rattle.ql_why.specs.Why.{InTurn, ReportsTarget}
use Rattle.ql_why.proofs.targets.levels_with_reasons.Given as goal

abbrev pub invariant-loop-target : goal.invariant-loop-target
invariant-loop-target l = InTurn (ReportsTarget l.classified.program) (take l.target (goals_at l.classified.levels)) l.text.items
