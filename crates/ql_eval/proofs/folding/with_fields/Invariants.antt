use Rattle.std.proofs.Common.{◌≡◌, ◌++◌, drop}
use Rattle.ql_eval.specs.Folds.{field_word, under}
use Rattle.ql_eval.proofs.folding.with_fields.Given as goal

abbrev pub invariant-loop-k : goal.invariant-loop-k
invariant-loop-k l = l.fn.env ++ under field_word l.fields l.values ≡ l.env ++ under field_word (drop l.k l.fields) (drop l.k l.values)
