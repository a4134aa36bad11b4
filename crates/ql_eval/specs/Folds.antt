use Rattle.std.specs.Prelude.{ℕ, Bool, true, false, List, [], ◌∷◌, ◌++◌, length, map, take, Option, None, Some, slice_get, if◌then◌else◌}
use Rattle.std.specs.Option.{option_and_then, option_map, option_map_or}
use Rattle.std.specs.Str.{bytes_eq}
use Rattle.ql_lang.specs.declared.operation.Kind.{Kind}
use Rattle.ql_lang.specs.declared.operation.Kind.TheVariants as kind
use Rattle.ql_lang.specs.declared.operation.Param.{Param}
use Rattle.ql_lang.specs.declared.operation.Bind.{Bind}
use Rattle.ql_lang.specs.declared.operation.Stmt.{Stmt}
use Rattle.ql_lang.specs.declared.operation.EmitDecl.{EmitDecl}
use Rattle.ql_lang.specs.declared.operation.OpDecl.{OpDecl}
use Rattle.ql_lang.specs.declared.program.Field.{Field}
use Rattle.ql_lang.specs.declared.program.InitNode.{InitNode}
use Rattle.ql_lang.specs.declared.program.InitNode.TheVariants as init
use Rattle.ql_lang.specs.declared.program.TypeDecl.{TypeDecl}
use Rattle.ql_lang.specs.Expressions.{expression_of}
use Rattle.ql_typing.specs.Operations.{all_ops, op_kinds}
use Rattle.ql_value.specs.declared.value.Value.{Value}
use Rattle.ql_value.specs.declared.value.Value.TheVariants.{Unit as Nothing, Int as Number, Bool as Truth, Text, Set, Map}
use Rattle.ql_exec.specs.declared.effect.Effect.{Effect}
use Rattle.ql_exec.specs.declared.effect.Payload.{Payload}
use Rattle.ql_exec.specs.declared.effect.Payload.TheVariants.{Nothing as NoChange, Emitted}
use Rattle.ql_exec.specs.declared.folder.Answered.{Answered}
use Rattle.ql_exec.specs.Effects.{effect_at}
use Rattle.ql_eval.specs.Evaluation.{Bindings, text_of, value_of}

-- Folds: the state of an object after effects, in a given order. A state is the fields' names with their values.

-- names paired with values, up to the end of the shorter list
abbrev pub under : {X : Type 0} → (X → List ℕ) → List X → List Value → Bindings
under word (x ∷ xs) (v ∷ vs) = (word x, v) ∷ under word xs vs
under word _ _ = []

abbrev pub field_word : Field → List ℕ
field_word f = f.name.word

abbrev pub param_word : Param → List ℕ
param_word p = p.name.word

abbrev pub bind_word : Bind → List ℕ
bind_word b = b.name.word

-- the initial value of a field; `empty` is the empty map in a map's field, and otherwise the empty set
abbrev pub begun_value : Kind → InitNode → Value
begun_value k (init.Int n) = Number n
begun_value k (init.Text text) = Text (text_of text)
begun_value k (init.Bool b) = Truth b
begun_value k init.Unit = Nothing
begun_value (kind.Map b c) init.Empty = Map []
begun_value _ init.Empty = Set []

-- the state before any effect
abbrev pub begun : List Field → Bindings
begun fields = map (λ f. (field_word f, begun_value f.kind f.init.node)) fields

-- the first pair of a name has another value
unfoldable pub assigned : Bindings → List ℕ → Value → Bindings
assigned [] w v = []
assigned (p ∷ ps) w v = if bytes_eq p.0 w then (w, v) ∷ ps else p ∷ assigned ps w v

-- a statement assigns to its target the value that its expression has before the statement
abbrev pub after_stmt : Bindings → Stmt → Option Bindings
after_stmt env s = option_map (λ v. assigned env s.target.word v) (value_of env (expression_of s.value))

-- statements run one after another
unfoldable pub after_stmts : Bindings → List Stmt → Option Bindings
after_stmts env [] = Some env
after_stmts env (s ∷ ss) = option_and_then (λ next. after_stmts next ss) (after_stmt env s)

-- the state after an operation's statements, under the emitted values
abbrev pub after_emit : Bindings → EmitDecl → List Value → Option Bindings
after_emit state e payload = option_map (λ env. take (length state) env) (after_stmts (state ++ under bind_word e.binds payload) e.stmts)

abbrev pub after_op : Option OpDecl → Bindings → List Value → Option Bindings
after_op None state payload = None
after_op (Some o) state payload = option_and_then (λ e. after_emit state e payload) o.effect

abbrev pub is_emitted : Payload → Bool
is_emitted NoChange = false
is_emitted (Emitted payload) = true

-- the state after an effect of one of these operations: the same if it emitted nothing
abbrev pub after_payload : List OpDecl → ℕ → Bindings → Payload → Option Bindings
after_payload ops o state NoChange = Some state
after_payload ops o state (Emitted payload) = after_op (slice_get ops o) state payload

-- whether an effect emitted values; one that emitted nothing leaves the state as it is
abbrev pub has_emitted : Effect → Bool
has_emitted e = is_emitted e.payload

-- the effect with an id, counted from 1, if it emitted values
abbrev pub emitting_at : List Effect → ℕ → Option Effect
emitting_at x id = option_and_then (λ e. if has_emitted e then Some e else None) (effect_at x id)

-- the state after effects, one after another
unfoldable pub folded : List OpDecl → Bindings → List Effect → Option Bindings
folded ops state [] = Some state
folded ops state (e ∷ effects) = option_and_then (λ next. folded ops next effects) (after_payload ops e.op.0 state e.payload)

-- the state of an object of a type after effects
abbrev pub fold_of : List TypeDecl → ℕ → List Effect → Option Bindings
fold_of types k effects = option_and_then (λ t. folded (all_ops types) (begun t.fields) effects) (slice_get types k)

-- the values of a state
abbrev pub values_in : Bindings → List Value
values_in state = map (λ p. p.1) state

-- the values of the state of an operation's type after its statements
abbrev pub applied : List TypeDecl → ℕ → List Value → List Value → Option (List Value)
applied types o state payload =
    option_and_then (λ k. option_and_then (λ t. option_map values_in (after_op (slice_get (all_ops types) o) (under field_word t.fields state) payload)) (slice_get types k)) (slice_get (op_kinds types) o)

-- the values of emitted expressions
unfoldable pub bound_values : Bindings → List Bind → Option (List Value)
bound_values env [] = Some []
bound_values env (b ∷ bs) = option_and_then (λ v. option_map (λ vs. v ∷ vs) (bound_values env bs)) (value_of env (expression_of b.value))

-- what is emitted: the values if the test is true, and otherwise nothing
abbrev pub emitted_when : Option Value → Option (List Value) → Option Payload
emitted_when (Some (Truth true)) vs = option_map (λ values. Emitted values) vs
emitted_when (Some (Truth false)) vs = Some NoChange
emitted_when _ vs = None

abbrev pub emitted : Bindings → Option EmitDecl → Option Payload
emitted env None = Some NoChange
emitted env (Some e) = emitted_when (value_of env (expression_of e.test)) (bound_values env e.binds)

abbrev pub answer_with : Option Value → Option Payload → Option Answered
answer_with (Some a) (Some p) = Some (record { answer = a; payload = p })
answer_with _ _ = None

-- the answer and payload of an operation over a state, under its arguments
abbrev pub answer_over : OpDecl → List Value → Bindings → Option Answered
answer_over o args state =
    answer_with (value_of (state ++ under param_word o.params args) (expression_of o.answer)) (emitted (state ++ under param_word o.params args) o.effect)

-- The answer and payload of a call that sees these effects: over the fold of its operation's type. There is none if an
-- expression has no value.
abbrev pub answer_of : List TypeDecl → ℕ → List Value → List Effect → Option Answered
answer_of types o args effects =
    option_and_then (λ op. option_and_then (λ k. option_and_then (λ state. answer_over op args state) (fold_of types k effects)) (slice_get (op_kinds types) o)) (slice_get (all_ops types) o)

-- the same as a total function
abbrev pub answered_of : List TypeDecl → ℕ → List Value → List Effect → Answered
answered_of types o args effects = option_map_or (λ a. a) (answer_of types o args effects) (record { answer = Nothing; payload = NoChange })
