-- How many replicas there are after events.
use Rattle.std.proofs.Common.{◌≡◌, ℕ, List, [], ◌∷◌, ◌++◌, refl}
use Rattle.ql_machine.specs.declared.event.Event.{Event}
use Rattle.ql_machine.specs.Runs.{replicas_after, replicas_at_end}

-- one event more
pub behind-more : (n : ℕ) (events : List Event) (e : Event) → replicas_at_end n (events ++ e ∷ []) ≡ replicas_after (replicas_at_end n events) e
behind-more n [] e = refl
behind-more n (first ∷ events) e = behind-more (replicas_after n first) events e
