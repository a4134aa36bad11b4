use Rattle.std.proofs.Common.{◌≡◌, drop}
use Rattle.ql_eval.specs.Evaluation.{value_in}
use Rattle.ql_eval.specs.Folds.{bind_word, under}
use Rattle.ql_eval.proofs.emitted.find_emitted.Given as goal

abbrev pub invariant-loop-k : goal.invariant-loop-k
invariant-loop-k l = value_in (under bind_word l.binds l.emitted) l.word ≡ value_in (under bind_word (drop l.k l.binds) (drop l.k l.emitted)) l.word
