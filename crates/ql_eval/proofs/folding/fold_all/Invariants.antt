use Rattle.std.proofs.Common.{◌≡◌, drop, map}
use Rattle.ql_typing.specs.Operations.{all_ops}
use Rattle.ql_eval.specs.Folds.{folded}
use Rattle.ql_eval.proofs.folding.fold_all.Given as goal

abbrev pub invariant-loop-effect : goal.invariant-loop-effect
invariant-loop-effect l = folded (all_ops l.t.program.types) l.fn.state (map (λ e. e.now) l.effects) ≡ folded (all_ops l.t.program.types) l.state (map (λ e. e.now) (drop l.effect-index l.effects))
