-- Which executions a kept state stands for.
use Rattle.std.specs.Prelude.{ℕ, ◌≡◌, ◌≤◌, ◌⊎◌, true, List, [], ◌∷◌, Some, length, slice_get}
use Rattle.ql_base.specs.IdLists.{has_id}
use Rattle.ql_base.specs.declared.ids.ObjId.{ObjId}
use Rattle.ql_eval.specs.Able.{FitsOp}
use Rattle.ql_eval.specs.Evaluation.{Bindings}
use Rattle.ql_eval.specs.Folds.{fold_of}
use Rattle.ql_eval.specs.Resuming.{IsStateAfter}
use Rattle.ql_exec.specs.declared.effect.Effect.{Effect}
use Rattle.ql_exec.specs.Effects.{effect_at}
use Rattle.ql_exec.specs.Folding.{seen_in_order}
use Rattle.ql_lang.specs.declared.program.TypeDecl.{TypeDecl}
use Rattle.ql_typing.specs.Operations.{all_ops, op_kinds}
use Rattle.ql_summary.specs.declared.kept.KeptObject.{KeptObject}
use Rattle.ql_summary.specs.Keeping.{AreOn}
use Rattle.ql_summary.specs.Slimming.{slim_of}

-- the kept ids are effects on the object, of operations of one type, and the kept state is that after them in order
pub record IsKeptOf (types : List TypeDecl) (x : List Effect) (o : ObjId) (one : KeptObject) : Type 0 where
  pub on : AreOn x o one.ids
  pub kind : ℕ
  pub state : IsStateAfter types kind (seen_in_order x one.ids) one.state

-- an execution has what is kept of each object, and its state
abbrev pub StandsFor : List TypeDecl → List KeptObject → List Effect → Type 0
StandsFor types kept x = (o : ObjId) (one : KeptObject) → slice_get kept o.0 ≡ Some one → 1 ≤ length one.ids → IsKeptOf types x o one

-- a list of effects is an execution or its slim form
abbrev pub IsFormOf : List KeptObject → List Effect → List Effect → Type 0
IsFormOf kept x y = (x ≡ y) ⊎ (x ≡ slim_of kept y)

-- the effects on an object are of operations of a type
abbrev pub AreOfType : List TypeDecl → List Effect → ObjId → ℕ → Type 0
AreOfType types x o kind = (a : ℕ) (e : Effect) → effect_at x a ≡ Some e → e.object ≡ o → slice_get (op_kinds types) e.op.0 ≡ Some kind

-- each of these effects emitted nothing, or what its operation may emit
abbrev pub FitOperations : List TypeDecl → List Effect → List ℕ → Type 0
FitOperations types x ids = (a : ℕ) (e : Effect) → has_id ids a ≡ true → effect_at x a ≡ Some e → FitsOp (slice_get (all_ops types) e.op.0) e.payload

-- no effects if nothing is kept, and otherwise those whose fold yields the kept state
abbrev pub come_to : List TypeDecl → ℕ → List ℕ → Bindings → List Effect → Type 0
come_to types kind [] state effects = effects ≡ []
come_to types kind (id ∷ ids) state effects = fold_of types kind effects ≡ Some state

abbrev pub IsComeTo : List TypeDecl → ℕ → KeptObject → List Effect → Type 0
IsComeTo types kind one effects = come_to types kind one.ids one.state effects
