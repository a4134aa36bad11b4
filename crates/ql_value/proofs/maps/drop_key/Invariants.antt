use Rattle.std.proofs.Common.{◌≡◌, take}
use Rattle.ql_value.specs.Collections.{dropped}
use Rattle.ql_value.proofs.maps.drop_key.Given as goal

abbrev pub invariant-loop-entry : goal.invariant-loop-entry
invariant-loop-entry l = l.entries.items ≡ dropped (take l.entry-index l.entry-items) l.key
