use Rattle.std.proofs.Common.{◌≡◌, ◌++◌, drop}
use Rattle.ql_eval.specs.Folds.{param_word, under}
use Rattle.ql_eval.proofs.statement.with_args.Given as goal

abbrev pub invariant-loop-k : goal.invariant-loop-k
invariant-loop-k l = l.fn.env ++ under param_word l.params l.values ≡ l.env ++ under param_word (drop l.k l.params) (drop l.k l.values)
