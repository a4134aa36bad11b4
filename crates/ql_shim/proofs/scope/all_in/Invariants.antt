use Rattle.std.proofs.Common.{◌≡◌, drop}
use Rattle.ql_machine.specs.Sets.{has_all}
use Rattle.ql_shim.proofs.scope.all_in.Given as goal

abbrev pub invariant-loop-id : goal.invariant-loop-id
invariant-loop-id l = has_all l.others l.ids ≡ has_all l.others (drop l.id-index l.ids)
