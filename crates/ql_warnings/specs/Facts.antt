-- What facts mean in an execution.
use Rattle.std.specs.Prelude.{ℕ, ◌≡◌, Bool, List}
use Rattle.std.specs.List.{All}
use Rattle.ql_counter.specs.declared.counter.At.{At}
use Rattle.ql_counter.specs.declared.counter.At.TheVariants as at
use Rattle.ql_exec.specs.declared.effect.Effect.{Effect}
use Rattle.ql_exec.specs.Relations.{inside, sametxn}
use Rattle.ql_formula.specs.Truth.{named, none_inside}
use Rattle.ql_warnings.specs.declared.fact.Claim.{Claim}
use Rattle.ql_warnings.specs.declared.fact.Claim.TheVariants.{Related, Inside, OneTxn}
use Rattle.ql_warnings.specs.declared.fact.Fact.{Fact}

-- the current effect, and the effects of the current transaction
abbrev pub current_at : At → ℕ
current_at (at.Effect id) = id.0
current_at (at.Run run) = 0

abbrev pub inside_at : List Effect → At → ℕ → Bool
inside_at x (at.Effect id) = none_inside
inside_at x (at.Run run) = inside x run.0

abbrev pub claim_true : List Effect → (ℕ → Bool) → Claim → Bool
claim_true x current (Related name a b) = named x name a.0 b.0
claim_true x current (Inside a) = current a.0
claim_true x current (OneTxn a b) = sametxn x a.0 b.0

-- the fact is true of an execution in which the contract is judged here
abbrev pub IsTrueOf : List Effect → At → Fact → Type 0
IsTrueOf x here fact = claim_true x (inside_at x here) fact.claim ≡ fact.holds

-- the new facts are true if the old ones are
abbrev pub KeepsTrue : List Effect → At → List Fact → List Fact → Type 0
KeepsTrue x here old new = All (IsTrueOf x here) old → All (IsTrueOf x here) new

-- in every execution, the new facts are true if the old ones are
abbrev pub KeepsAny : List Fact → List Fact → Type 0
KeepsAny old new = (x : List Effect) (here : At) → KeepsTrue x here old new
