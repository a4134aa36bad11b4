use Rattle.std.proofs.Common.{◌≡◌, [], take, drop}
use Rattle.ql_refute.specs.Marks.{IsClear, LinesInRange}
use Rattle.ql_refute.specs.Verdict.{first_fault}
use Rattle.ql_refute.proofs.checker.first_fault.Given as goal

abbrev pub invariant-loop-i : goal.invariant-loop-i
invariant-loop-i l = record {
  rest : first_fault l.c [] l.lines ≡ first_fault l.c (take l.i l.lines) (drop l.i l.lines);
  in_range : LinesInRange l.c.variables (take l.i l.lines);
  clear : IsClear l.marks;
}
