use Rattle.std.proofs.Common.{◌≤◌, ℕ}
use Rattle.ql_verify.specs.Verdicts.{OpHolds}
use Rattle.ql_verify.proofs.judging.first_effect.Given as goal

abbrev pub invariant-loop-k : goal.invariant-loop-k
invariant-loop-k l = (a : ℕ) → a ≤ l.k → OpHolds l.t.program l.execution a
