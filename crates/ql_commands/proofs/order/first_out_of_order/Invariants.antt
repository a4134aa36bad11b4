use Rattle.std.proofs.Common.{◌≡◌, map, take}
use Rattle.ql_commands.specs.Check.{target_of, expected_targets}
use Rattle.ql_commands.proofs.order.first_out_of_order.Given as goal

abbrev pub invariant-loop-place : goal.invariant-loop-place
invariant-loop-place l = take l.place (expected_targets l.t.program) ≡ take l.place (map target_of l.sections)
