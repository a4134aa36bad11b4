-- The work of judging all contracts of a program in an execution: the greatest possible number of choices of effects.
use Rattle.std.specs.Prelude.{ℕ, suc, ◌+◌, ◌*◌, ◌^◌, nat_eq, List, [], ◌∷◌, length, count_by, if◌then◌else◌}
use Rattle.ql_base.specs.IdLists.{with_id}
use Rattle.ql_lang.specs.Formulas.{Resolved}
use Rattle.ql_lang.specs.declared.program.Program.{Program}
use Rattle.ql_typing.specs.Operations.{op_contracts, txn_contracts}
use Rattle.ql_exec.specs.declared.effect.Effect.{Effect}
use Rattle.ql_exec.specs.declared.effect.Member.{Member}
use Rattle.ql_exec.specs.declared.effect.Member.TheVariants.{Alone, Inside}

-- how many effects are of an operation
abbrev pub effects_of : List Effect → ℕ → ℕ
effects_of x o = count_by (λ e. nat_eq e.op.0 o) x

-- with the begun transaction that an effect is in, if that is of the declared one
abbrev pub with_run : ℕ → List ℕ → Member → List ℕ
with_run d runs Alone = runs
with_run d runs (Inside run name) = if nat_eq name.0 d then with_id runs run.0 else runs

abbrev pub with_runs : ℕ → List ℕ → List Effect → List ℕ
with_runs d runs [] = runs
with_runs d runs (e ∷ effects) = with_runs d (with_run d runs e.member) effects

-- the begun transactions of a declared one that have an effect, ascending
abbrev pub runs_of : List Effect → ℕ → List ℕ
runs_of x d = with_runs d [] x

-- the choices of effects for contracts that are numbered from k on, each judged a number of times, among n effects
unfoldable pub work_from : ℕ → (ℕ → ℕ) → ℕ → List Resolved → ℕ
work_from n often k [] = 0
work_from n often k (f ∷ contracts) = often k * n ^ length f.vars + work_from n often (suc k) contracts

-- operations are judged at each of their effects, transactions at each begun one that has an effect
abbrev pub work_of : Program → List Effect → ℕ
work_of p x =
    work_from (length x) (effects_of x) 0 (op_contracts p.types) + work_from (length x) (λ d. length (runs_of x d)) 0 (txn_contracts p)
