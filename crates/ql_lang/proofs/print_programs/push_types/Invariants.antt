use Rattle.std.proofs.Common.{◌≡◌, ◌++◌, map, drop}
use Rattle.std.specs.List.{concat}
use Rattle.ql_lang.specs.Programs.{replicated_of}
use Rattle.ql_lang.specs.ProgramSpelling.{replicated_text}
use Rattle.ql_lang.proofs.print_programs.push_types.Given as goal

abbrev pub invariant-loop-decl : goal.invariant-loop-decl
invariant-loop-decl l = l.out.items ++ concat (map replicated_text (map replicated_of (drop l.decl-index l.types))) ≡ l.fn.out.items ++ concat (map replicated_text (map replicated_of l.types))
