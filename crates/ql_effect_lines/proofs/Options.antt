-- what was read, by its cases
use Rattle.std.proofs.Common.{◌≡◌, Option, None, Some, Result, Ok, Err, MatchOption, refl}
use Rattle.std.specs.Prelude.{IfOk}

pub unread : {X : Type 0} (r : Option X) (N : Type 0) (S : X → Type 0) → MatchOption r N S → ((x : X) → r ≡ Some x → ⊥) → N
unread None N S h none = h
unread (Some x) N S h none = absurd (none x refl)

-- a reading as one of something else
pub read_on : {X E : Type 0} (r : Result (Option X) E) (N M : Type 0) (S T : X → Type 0) → (N → M) → ((x : X) → S x → T x)
    → IfOk r (λ o. MatchOption o N S) → IfOk r (λ o. MatchOption o M T)
read_on (Ok None) N M S T f g h = f h
read_on (Ok (Some x)) N M S T f g h = g x h
read_on (Err e) N M S T f g h = tt
