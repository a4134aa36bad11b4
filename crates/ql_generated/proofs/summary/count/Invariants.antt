use Rattle.std.proofs.Common.{◌≡◌, ◌≤◌, take}
use Rattle.ql_generated.specs.Summaries.{count}
use Rattle.ql_generated.proofs.summary.count.Given as goal

abbrev pub invariant-loop-k : goal.invariant-loop-k
invariant-loop-k l = (l.number ≡ count l.word (take l.k l.replies)) × (l.number ≤ l.k)
