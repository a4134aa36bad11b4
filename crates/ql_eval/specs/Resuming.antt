-- States from which a fold continues.
use Rattle.std.specs.Prelude.{ℕ, ◌≡◌, List, All, Some}
use Rattle.ql_lang.specs.declared.program.TypeDecl.{TypeDecl}
use Rattle.ql_exec.specs.declared.effect.Effect.{Effect}
use Rattle.ql_eval.specs.Able.{IsOfType}
use Rattle.ql_eval.specs.Evaluation.{Bindings}
use Rattle.ql_eval.specs.Folds.{fold_of}

-- effects of one type, and the state of an object of that type after them
pub record IsStateAfter (types : List TypeDecl) (kind : ℕ) (effects : List Effect) (state : Bindings) : Type 0 where
  pub own : All (IsOfType types (Some kind)) effects
  pub folded : fold_of types kind effects ≡ Some state

-- a state of an object of a type, after some effects
abbrev pub IsReached : List TypeDecl → ℕ → Bindings → Type 0
IsReached types kind state = (before : List Effect) × IsStateAfter types kind before state
