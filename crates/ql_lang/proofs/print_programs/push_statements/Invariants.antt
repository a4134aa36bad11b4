use Rattle.std.proofs.Common.{◌≡◌, ◌++◌, map, drop}
use Rattle.std.specs.List.{concat}
use Rattle.ql_lang.specs.Programs.{assignment_of}
use Rattle.ql_lang.specs.ProgramSpelling.{assignment_text}
use Rattle.ql_lang.proofs.print_programs.push_statements.Given as goal

abbrev pub invariant-loop-stmt : goal.invariant-loop-stmt
invariant-loop-stmt l = l.out.items ++ concat (map assignment_text (map assignment_of (drop l.stmt-index l.stmts))) ≡ l.fn.out.items ++ concat (map assignment_text (map assignment_of l.stmts))
