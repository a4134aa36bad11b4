use Rattle.std.proofs.Common.{◌≡◌, ◌++◌, drop}
use Rattle.ql_eval.specs.Folds.{bind_word, under}
use Rattle.ql_eval.proofs.emitted.with_emitted.Given as goal

abbrev pub invariant-loop-k : goal.invariant-loop-k
invariant-loop-k l = l.fn.env ++ under bind_word l.binds l.values ≡ l.env ++ under bind_word (drop l.k l.binds) (drop l.k l.values)
