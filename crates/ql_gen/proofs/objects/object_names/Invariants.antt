use Rattle.std.proofs.Common.{◌≡◌}
use Rattle.ql_gen.specs.Objects.{drawn_object_names}
use Rattle.ql_gen.proofs.objects.object_names.Given as goal

abbrev pub invariant-loop-i : goal.invariant-loop-i
invariant-loop-i l = l.names ≡ drawn_object_names l.i
