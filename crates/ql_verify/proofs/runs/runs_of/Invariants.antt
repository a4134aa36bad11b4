use Rattle.std.proofs.Common.{◌≡◌, ◌≤◌, [], drop, length}
use Rattle.ql_verify.specs.Work.{with_runs}
use Rattle.ql_verify.proofs.runs.runs_of.Given as goal

abbrev pub invariant-loop-effect : goal.invariant-loop-effect
invariant-loop-effect l = (with_runs l.d [] l.effects ≡ with_runs l.d l.runs (drop l.effect-index l.effects)) × (length l.runs ≤ l.effect-index)
