use Rattle.std.proofs.Common.{◌≡◌}
use Rattle.ql_gen.specs.Objects.{object_kinds}
use Rattle.ql_gen.proofs.objects.object_kinds.Given as goal

abbrev pub invariant-loop-i : goal.invariant-loop-i
invariant-loop-i l = l.kinds.items ≡ object_kinds l.i
