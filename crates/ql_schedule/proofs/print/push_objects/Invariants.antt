use Rattle.std.proofs.Common.{◌≡◌, ◌++◌, take}
use Rattle.ql_lines.specs.Texts.{file_text}
use Rattle.ql_schedule.specs.Texts.{object_lines}
use Rattle.ql_schedule.proofs.print.push_objects.Given as goal

abbrev pub invariant-loop-k : goal.invariant-loop-k
invariant-loop-k l = l.out.items ≡ l.initial.out.items ++ file_text (object_lines l.t.program (take l.k l.s.objects) (take l.k l.s.kinds))
