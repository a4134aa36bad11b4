use Rattle.std.proofs.Common.{◌≡◌, take}
use Rattle.ql_value.specs.Collections.{removed}
use Rattle.ql_value.proofs.sets.remove.Given as goal

abbrev pub invariant-loop-other : goal.invariant-loop-other
invariant-loop-other l = l.elements.items ≡ removed (take l.other-index l.other-items) l.element
