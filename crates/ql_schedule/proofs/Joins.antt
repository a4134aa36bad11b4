-- How many replicas there are after some events.
use Rattle.std.proofs.Common.{◌≡◌, ◌≤◌, ◌+◌, ℕ, zero, suc, List, [], ◌∷◌, ◌++◌, None, Some, length, slice_get, take, arith, Bool, if◌then◌else◌, ap, sym, ◌∙◌}
use Rattle.std.proofs.lemmas.Option.{same_Some}
use Rattle.ql_machine.specs.declared.event.Event.{Event}
use Rattle.ql_machine.specs.declared.event.Event.TheVariants.{Join}
use Rattle.ql_machine.specs.Runs.{replicas_after, replicas_at_end}
use Rattle.ql_machine.proofs.Counting.{behind-more}

take_one_more : (events : List Event) (k : ℕ) (e : Event) → slice_get events k ≡ Some e → take (suc k) events ≡ take k events ++ e ∷ []
take_one_more [] k e is = absurd (let never : None ≡ Some e = is in cc)
take_one_more (f ∷ events) zero e is = ap (λ (g : Event). g ∷ []) (same_Some f e is)
take_one_more (f ∷ events) (suc k) e is = ap (λ (rest : List Event). f ∷ rest) (take_one_more events k e is)

-- one event more
pub behind-taken : (n : ℕ) (events : List Event) (k : ℕ) (e : Event) → slice_get events k ≡ Some e
    → replicas_at_end n (take (suc k) events) ≡ replicas_after (replicas_at_end n (take k events)) e
behind-taken n events k e at = rw (take_one_more events k e at) (behind-more n (take k events) e)

-- a count that goes along with the events
pub count-taken : (n : ℕ) (events : List Event) (k : ℕ) (e : Event) (was now : ℕ) (joins : Bool) → slice_get events k ≡ Some e
    → ((m : ℕ) → replicas_after m e ≡ (if joins then suc m else m)) → was ≡ replicas_at_end n (take k events) → now ≡ (if joins then suc was else was)
    → now ≡ replicas_at_end n (take (suc k) events)
count-taken n events k e was now joins at after is to =
    to ∙ ap (λ (m : ℕ). if joins then suc m else m) is ∙ sym (after (replicas_at_end n (take k events))) ∙ sym (behind-taken n events k e at)

after-most : (n : ℕ) (e : Event) → replicas_after n e ≤ suc n
after-most n (Join near copy) = omega arith
after-most n e = omega arith

-- each event adds one at most
pub behind-most : (n : ℕ) (events : List Event) → replicas_at_end n events ≤ n + length events
behind-most n [] = omega arith
behind-most n (e ∷ events) = (let rest = behind-most (replicas_after n e) events in let one = after-most n e in omega (arith, rest, one))
