use Rattle.std.proofs.Common.{◌≡◌, ◌++◌, map, drop}
use Rattle.std.specs.List.{concat}
use Rattle.ql_lang.specs.Programs.{operation_of}
use Rattle.ql_lang.specs.ProgramSpelling.{operation_text}
use Rattle.ql_lang.proofs.print_programs.push_operations.Given as goal

abbrev pub invariant-loop-op : goal.invariant-loop-op
invariant-loop-op l = l.out.items ++ concat (map operation_text (map operation_of (drop l.op-index l.ops))) ≡ l.fn.out.items ++ concat (map operation_text (map operation_of l.ops))
