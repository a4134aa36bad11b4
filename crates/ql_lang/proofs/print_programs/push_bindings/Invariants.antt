use Rattle.std.proofs.Common.{◌≡◌, ◌++◌, map, drop, codes}
use Rattle.ql_lang.specs.Spelling.{listed}
use Rattle.ql_lang.specs.Programs.{binding_of}
use Rattle.ql_lang.specs.ProgramSpelling.{binding_text}
use Rattle.ql_lang.proofs.Appending.{continued}
use Rattle.ql_lang.proofs.print_programs.push_bindings.Given as goal

abbrev pub invariant-loop-bind : goal.invariant-loop-bind
invariant-loop-bind l = l.out.items ++ continued l.before (codes ", ") (map binding_text (map binding_of (drop l.bind-index l.binds))) ≡ l.fn.out.items ++ listed (codes ", ") (map binding_text (map binding_of l.binds))
