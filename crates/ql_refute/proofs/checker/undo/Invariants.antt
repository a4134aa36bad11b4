use Rattle.std.proofs.Common.{drop}
use Rattle.ql_refute.specs.Marks.{OnlyMarks, hinted_literals}
use Rattle.ql_refute.proofs.checker.undo.Given as goal

abbrev pub invariant-loop-hint : goal.invariant-loop-hint
invariant-loop-hint l = OnlyMarks l.marks (hinted_literals l.c l.earlier (drop l.hint-index l.line.hints))
