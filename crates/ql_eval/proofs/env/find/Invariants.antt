use Rattle.std.proofs.Common.{◌≡◌, drop}
use Rattle.ql_eval.specs.Evaluation.{value_in}
use Rattle.ql_eval.proofs.env.find.Given as goal

abbrev pub invariant-loop-pair : goal.invariant-loop-pair
invariant-loop-pair l = value_in l.pairs l.word ≡ value_in (drop l.pair-index l.pairs) l.word
