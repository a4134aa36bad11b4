use Rattle.std.proofs.Common.{◌≡◌, take}
use Rattle.ql_eval.specs.Folds.{values_in}
use Rattle.ql_eval.proofs.folding.values_of.Given as goal

abbrev pub invariant-loop-pair : goal.invariant-loop-pair
invariant-loop-pair l = l.values.items ≡ values_in (take l.pair-index l.pairs)
