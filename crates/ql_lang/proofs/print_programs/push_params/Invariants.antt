use Rattle.std.proofs.Common.{◌≡◌, ◌++◌, map, drop, codes}
use Rattle.ql_lang.specs.Spelling.{listed}
use Rattle.ql_lang.specs.ProgramSpelling.{param_text}
use Rattle.ql_lang.proofs.Appending.{continued}
use Rattle.ql_lang.proofs.print_programs.push_params.Given as goal

abbrev pub invariant-loop-param : goal.invariant-loop-param
invariant-loop-param l = l.out.items ++ continued l.before (codes ", ") (map param_text (drop l.param-index l.params)) ≡ l.fn.out.items ++ listed (codes ", ") (map param_text l.params)
