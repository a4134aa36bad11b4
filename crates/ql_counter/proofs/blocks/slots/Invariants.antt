use Rattle.std.proofs.Common.{◌≡◌}
use Rattle.ql_base.specs.Ranges.{upto}
use Rattle.ql_counter.specs.Blocks.{ranked_slots}
use Rattle.ql_counter.specs.Coded.{said}
use Rattle.ql_counter.proofs.blocks.slots.Given as goal

abbrev pub invariant-loop-rank : goal.invariant-loop-rank
invariant-loop-rank l = l.slots.items ≡ upto l.rank (λ r. upto l.s.constants (ranked_slots (said l.a l.s) l.extra r))
