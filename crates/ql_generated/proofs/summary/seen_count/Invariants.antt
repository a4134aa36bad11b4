use Rattle.std.proofs.Common.{◌≡◌, ◌≤◌, ◌*◌, ◌^◌, take}
use Rattle.ql_generated.specs.Summaries.{seen_count}
use Rattle.ql_generated.proofs.summary.seen_count.Given as goal

abbrev pub invariant-loop-k : goal.invariant-loop-k
invariant-loop-k l = (l.sum ≡ seen_count (take l.k l.x)) × (l.sum ≤ l.k * 2 ^ 64)
