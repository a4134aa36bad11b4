use Rattle.std.proofs.Common.{◌≡◌}
use Rattle.ql_gen.specs.Generated.{generated_events, state_after}
use Rattle.ql_gen.proofs.generate.draw_events.Given as goal

abbrev pub invariant-loop-k : goal.invariant-loop-k
invariant-loop-k l = (l.events.items ≡ generated_events l.fn.t.program l.fn.number l.k) × (l.draws ≡ state_after l.fn.t.program l.fn.number l.k)
