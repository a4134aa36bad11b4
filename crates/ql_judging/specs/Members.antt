-- The declared transaction of which a begun one is.
use Rattle.std.specs.Prelude.{ℕ, ◌≡◌, true, nat_eq, List, [], ◌∷◌, Option, None, Some, if◌then◌else◌}
use Rattle.ql_base.specs.IdLists.{has_id}
use Rattle.ql_exec.specs.declared.effect.Effect.{Effect}
use Rattle.ql_exec.specs.declared.effect.Member.{Member}
use Rattle.ql_exec.specs.declared.effect.Member.TheVariants.{Alone, Inside}
use Rattle.ql_verify.specs.Work.{runs_of}

-- a begun transaction is one of this declared transaction
abbrev pub IsBegunOf : List Effect → ℕ → ℕ → Type 0
IsBegunOf x run name = has_id (runs_of x name) run ≡ true

-- it is one of some declared transaction
abbrev pub IsBegun : List Effect → ℕ → Type 0
IsBegun x run = (name : ℕ) × IsBegunOf x run name

-- the declared transaction of a membership in the begun one
abbrev pub name_if : ℕ → Member → Option ℕ
name_if run Alone = None
name_if run (Inside other name) = if nat_eq other.0 run then Some name.0 else None

abbrev pub or_else : Option ℕ → Option ℕ → Option ℕ
or_else None b = b
or_else (Some a) b = Some a

-- that of the first effect inside the begun transaction
abbrev pub first_name : ℕ → List Effect → Option ℕ
first_name run [] = None
first_name run (e ∷ x) = or_else (name_if run e.member) (first_name run x)
