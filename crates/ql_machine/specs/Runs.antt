-- Runs: the replies to a list of events and the state after them.
use Rattle.std.specs.Prelude.{ℕ, suc, List, [], ◌∷◌}
use Rattle.ql_machine.specs.declared.event.Event.{Event}
use Rattle.ql_machine.specs.declared.event.Event.TheVariants as event
use Rattle.ql_machine.specs.declared.reply.Reply.{Reply}
use Rattle.ql_machine.specs.State.{Machine, empty}
use Rattle.ql_machine.specs.Rules.{Rules}
use Rattle.ql_machine.specs.Steps.{IsStep}

-- steps lead from one state to another
pub data Leads (rules : Rules) : Machine → List Event → List Reply → Machine → Type 0 where
  stop : (s : Machine) → Leads rules s [] [] s
  step : (s : Machine) (event : Event) (next : Machine) (reply : Reply) (events : List Event) (replies : List Reply) (last : Machine)
      → IsStep rules s event next reply → Leads rules next events replies last → Leads rules s (event ∷ events) (reply ∷ replies) last

-- a run with this many replicas, from the initial state
abbrev pub IsRun : Rules → ℕ → List Event → List Reply → Machine → Type 0
IsRun rules n events replies last = Leads rules (empty n) events replies last

-- how many replicas there are after an event, and after several
abbrev pub replicas_after : ℕ → Event → ℕ
replicas_after n (event.Join near copy) = suc n
replicas_after n _ = n

abbrev pub replicas_at_end : ℕ → List Event → ℕ
replicas_at_end n [] = n
replicas_at_end n (e ∷ events) = replicas_at_end (replicas_after n e) events
