use Rattle.std.proofs.Common.{◌≡◌, map, take}
use Rattle.std.specs.List.{concat}
use Rattle.ql_baseline.specs.Comparison.{rise_of}
use Rattle.ql_baseline.proofs.comparison.rises.Given as goal

abbrev pub invariant-loop-k : goal.invariant-loop-k
invariant-loop-k l = l.text.items ≡ concat (map (rise_of l.t.program l.stored) (take l.k l.findings))
