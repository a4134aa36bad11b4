use Rattle.std.proofs.Common.{◌≡◌, take}
use Rattle.ql_generated.specs.Summaries.{last_stamp}
use Rattle.ql_generated.proofs.summary.last_stamp.Given as goal

abbrev pub invariant-loop-k : goal.invariant-loop-k
invariant-loop-k l = l.last ≡ last_stamp (take l.k l.x)
