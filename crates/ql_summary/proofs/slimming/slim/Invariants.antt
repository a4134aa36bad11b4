use Rattle.std.proofs.Common.{◌≡◌, take}
use Rattle.ql_summary.specs.Slimming.{slim_of}
use Rattle.ql_summary.proofs.slimming.slim.Given as goal

abbrev pub invariant-loop-k : goal.invariant-loop-k
invariant-loop-k l = l.small ≡ slim_of l.kept (take l.k l.effects)
