use Rattle.std.proofs.Common.{◌≡◌, ◌++◌}
use Rattle.ql_base.specs.Ranges.{upto}
use Rattle.ql_counter.specs.Blocks.{ranked_slots}
use Rattle.ql_counter.specs.Coded.{said}
use Rattle.ql_counter.proofs.blocks.push_ranked.Given as goal

abbrev pub invariant-loop-c : goal.invariant-loop-c
invariant-loop-c l = l.slots.items ≡ l.initial.slots.items ++ upto l.c (ranked_slots (said l.a l.s) l.extra l.before)
