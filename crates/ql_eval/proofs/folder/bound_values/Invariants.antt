use Rattle.std.proofs.Common.{◌≡◌, ◌++◌, drop}
use Rattle.std.specs.Option.{option_map}
use Rattle.ql_eval.specs.Folds.{bound_values}
use Rattle.ql_eval.proofs.folder.bound_values.Given as goal

abbrev pub invariant-loop-bind : goal.invariant-loop-bind
invariant-loop-bind l = bound_values l.scope l.binds ≡ option_map (λ vs. l.values.items ++ vs) (bound_values l.scope (drop l.bind-index l.binds))
