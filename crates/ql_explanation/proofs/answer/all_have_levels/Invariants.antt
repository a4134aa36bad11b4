use Rattle.std.proofs.Common.{◌≡◌, ◌<◌, ℕ, Some, slice_get}
use Rattle.ql_classify.specs.declared.finding.Finding.{Finding}
use Rattle.ql_warnings.specs.Warnings.{HasLevel}
use Rattle.ql_explanation.proofs.answer.all_have_levels.Given as goal

abbrev pub invariant-loop-k : goal.invariant-loop-k
invariant-loop-k l = (k : ℕ) (f : Finding) → k < l.k → slice_get l.findings k ≡ Some f → HasLevel f
