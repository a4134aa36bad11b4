use Rattle.std.proofs.Common.{◌<◌}
use Rattle.ql_base.specs.declared.ids.OpId.{OpId}
use Rattle.ql_explanation.specs.Explanation.{IsStrongIn}
use Rattle.ql_explanation.proofs.answer.uses_strong.Given as goal

abbrev pub invariant-loop-o : goal.invariant-loop-o
invariant-loop-o l = (o : OpId) → o.0 < l.o → IsStrongIn l.t.program l.d.0 o → ⊥
