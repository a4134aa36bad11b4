use Rattle.std.proofs.Common.{◌≡◌}
use Rattle.ql_gen.specs.Objects.{first_objects}
use Rattle.ql_gen.proofs.objects.first_objects.Given as goal

abbrev pub invariant-loop-i : goal.invariant-loop-i
invariant-loop-i l = l.ids ≡ first_objects l.i
