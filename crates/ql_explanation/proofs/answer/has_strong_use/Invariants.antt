use Rattle.std.proofs.Common.{◌<◌, ℕ}
use Rattle.ql_base.specs.declared.ids.OpId.{OpId}
use Rattle.ql_explanation.specs.Explanation.{IsStrongIn}
use Rattle.ql_explanation.proofs.answer.has_strong_use.Given as goal

abbrev pub invariant-loop-d : goal.invariant-loop-d
invariant-loop-d l = (d : ℕ) (o : OpId) → d < l.d → IsStrongIn l.t.program d o → ⊥
