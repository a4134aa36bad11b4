use Rattle.std.proofs.Common.{◌≡◌, [], drop}
use Rattle.std.specs.Prelude.{is_none}
use Rattle.std.specs.List.{list_any}
use Rattle.ql_base.specs.Numbering.{place}
use Rattle.ql_schedule.specs.Makings.{declared_from}
use Rattle.ql_schedule.proofs.known.declared.Given as goal

abbrev pub invariant-loop-name : goal.invariant-loop-name
invariant-loop-name l =
    (declared_from l.so_far.objects [] l.names ≡ declared_from l.so_far.objects l.ids (drop l.name-index l.names))
    × (list_any (λ w. is_none (place l.so_far.objects w)) l.names ≡ list_any (λ w. is_none (place l.so_far.objects w)) (drop l.name-index l.names))
