use Rattle.std.proofs.Common.{◌≡◌, take}
use Rattle.ql_eval.specs.Folds.{begun}
use Rattle.ql_eval.proofs.folding.begin.Given as goal

abbrev pub invariant-loop-field : goal.invariant-loop-field
invariant-loop-field l = l.state ≡ begun (take l.field-index l.fields)
