use Rattle.std.proofs.Common.{◌≡◌, take}
use Rattle.ql_value.specs.Collections.{sum_of}
use Rattle.ql_value.proofs.maps.sum.Given as goal

abbrev pub invariant-loop-entry : goal.invariant-loop-entry
invariant-loop-entry l = l.total ≡ sum_of (take l.entry-index l.entry-items)
