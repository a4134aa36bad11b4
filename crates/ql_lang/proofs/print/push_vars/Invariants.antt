use Rattle.std.proofs.Common.{◌≡◌, ◌++◌, map, drop, codes}
use Rattle.ql_lang.specs.Spelling.{listed, var_text}
use Rattle.ql_lang.proofs.Appending.{continued}
use Rattle.ql_lang.proofs.print.push_vars.Given as goal

abbrev pub invariant-loop-var : goal.invariant-loop-var
invariant-loop-var l = l.out.items ++ continued l.before (codes ", ") (map var_text (drop l.var-index l.vars)) ≡ l.fn.out.items ++ listed (codes ", ") (map var_text l.vars)
