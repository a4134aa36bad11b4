use Rattle.std.proofs.Common.{◌≡◌, take}
use Rattle.ql_value.specs.Collections.{IsSet, united}
use Rattle.ql_value.proofs.sets.union.Given as goal

abbrev pub invariant-loop-element : goal.invariant-loop-element
invariant-loop-element l = IsSet l.elements.items × (l.elements.items ≡ united l.first (take l.element-index l.element-items))
