-- A folder over a program without faults answers each call that it is able to answer, by values of the declared kinds.
use Rattle.std.proofs.Common.{◌≡◌, ◌<◌, ℕ, true, false, List, [], ◌∷◌, ◌++◌, All, Option, None, Some, refl, sym, subst}
use Rattle.std.specs.List.{slice_get}
use Rattle.std.specs.Option.{option_and_then, option_map, option_map_or}
use Rattle.ql_lang.specs.declared.operation.Kind.TheVariants as kind
use Rattle.ql_lang.specs.declared.operation.Bind.{Bind}
use Rattle.ql_lang.specs.declared.operation.EmitDecl.{EmitDecl}
use Rattle.ql_lang.specs.declared.operation.OpDecl.{OpDecl}
use Rattle.ql_lang.specs.declared.program.Program.{Program}
use Rattle.ql_lang.specs.Expressions.{expression_of}
use Rattle.ql_typing.specs.declared.scope.Known.{Known}
use Rattle.ql_typing.specs.Faults.{each, names_met, repeats}
use Rattle.ql_typing.specs.Operations.{all_ops, op_kinds, op_words}
use Rattle.ql_typing.specs.Programs.{above, bind_faults, bind_names, effect_faults, field_names, fields_known, maybe_effect_faults, op_decl_faults, params_known, places, program_faults}
use Rattle.ql_typing.proofs.Flat.{length-kinds}
use Rattle.ql_typing.proofs.InTypes.{op_fault_free}
use Rattle.ql_typing.proofs.Parts.{left_none, right_none}
use Rattle.ql_value.specs.declared.value.Value.{Value}
use Rattle.ql_value.specs.declared.value.Value.TheVariants.{Unit as Nothing, Bool as Truth}
use Rattle.ql_exec.specs.declared.effect.Effect.{Effect}
use Rattle.ql_exec.specs.declared.effect.Payload.{Payload}
use Rattle.ql_exec.specs.declared.effect.Payload.TheVariants.{Nothing as NoChange, Emitted}
use Rattle.ql_exec.specs.declared.folder.Answered.{Answered}
use Rattle.ql_eval.specs.Able.{AnswersAll, AnswersFit, AreArgs, AreEmitted, AreOfKinds, IsAble, IsAnswerOf, IsOfType, bind_kind, param_kind}
use Rattle.ql_eval.specs.Evaluation.{Bindings, value_of}
use Rattle.ql_eval.specs.Folds.{answer_of, answer_over, answer_with, answered_of, bound_values, emitted, emitted_when, fold_of, param_word, under}
use Rattle.ql_eval.specs.ValueKinds.{FitsScope, HasValue}
use Rattle.ql_eval.proofs.Accepted.{accepted}
use Rattle.ql_eval.proofs.Fitting.{Fits, fold_fits, item_at, op_answer, op_effect, together, under_fits}

-- emitted values
abbrev AreBound : List Bind → Option (List Value) → Type 0
AreBound binds None = ⊥
AreBound binds (Some vs) = AreOfKinds bind_kind binds vs

one_more : (b : Bind) (binds : List Bind) (v : Option Value) (vs : Option (List Value)) → HasValue (Some (bind_kind b)) v → AreBound binds vs → AreBound (b ∷ binds) (option_and_then (λ x. option_map (λ xs. x ∷ xs) vs) v)
one_more b binds None vs h hs = absurd h
one_more b binds (Some v) None h hs = absurd hs
one_more b binds (Some v) (Some vs) h hs = (h, hs)

all_bound : (scope : List Known) (env : Bindings) (binds : List Bind) → FitsScope scope env → each (bind_faults scope) binds ≡ [] → AreBound binds (bound_values env binds)
unfolding each bind_faults bound_values
all_bound scope env [] f h = tt
all_bound scope env (b ∷ binds) f h =
    one_more b binds (value_of env (expression_of b.value)) (bound_values env binds) (accepted (expression_of b.value) scope env (bind_kind b) f (left_none _ _ h)) (all_bound scope env binds f (right_none (bind_faults scope b) _ h))

-- what is emitted
abbrev IsEmitted : Option EmitDecl → Option Payload → Type 0
IsEmitted e None = ⊥
IsEmitted e (Some NoChange) = Unit {0}
IsEmitted e (Some (Emitted vs)) = AreEmitted e vs

when_true : (e : EmitDecl) (v : Option Value) (vs : Option (List Value)) → HasValue (Some kind.Bool) v → AreBound e.binds vs → IsEmitted (Some e) (emitted_when v vs)
when_true e (Some (Truth true)) (Some vs) h hs = hs
when_true e (Some (Truth true)) None h hs = absurd hs
when_true e (Some (Truth false)) vs h hs = tt
when_true e (Some _) vs h hs = absurd h
when_true e None vs h hs = absurd h

effect_emitted : (names : List (List ℕ)) (fields scope : List Known) (env : Bindings) (e : Option EmitDecl) → FitsScope scope env → maybe_effect_faults names fields scope e ≡ [] → IsEmitted e (emitted env e)
unfolding effect_faults
effect_emitted names fields scope env None f h = tt
effect_emitted names fields scope env (Some e) f h =
    let binds = right_none (above 4 (places (bind_names e.binds))) _ (right_none (repeats names (bind_names e.binds)) _ h) in
    let test = right_none (each (bind_faults scope) e.binds) _ binds in
    when_true e (value_of env (expression_of e.test)) (bound_values env e.binds) (accepted (expression_of e.test) scope env kind.Bool f (left_none _ _ test)) (all_bound scope env e.binds f (left_none _ _ binds))

-- an answer with its payload
abbrev IsGiven : OpDecl → Option Answered → Type 0
IsGiven o None = ⊥
IsGiven o (Some given) = IsAnswerOf (Some o) given

given_with : (o : OpDecl) (v : Option Value) (p : Option Payload) → HasValue (Some o.kind) v → IsEmitted o.effect p → IsGiven o (answer_with v p)
given_with o None p h g = absurd h
given_with o (Some v) None h g = absurd g
given_with o (Some v) (Some NoChange) h g = (h, tt)
given_with o (Some v) (Some (Emitted vs)) h g = (h, g)

given_over : (known names : List (List ℕ)) (fields : List Known) (o : OpDecl) (args : List Value) (state : Bindings) → FitsScope fields state → op_decl_faults known names fields o ≡ [] → AreOfKinds param_kind o.params args
    → IsGiven o (answer_over o args state)
given_over known names fields o args state f h fits =
    let scope = together fields (params_known o.params) state (under param_word o.params args) f (under_fits param_word param_kind o.params args fits) in
    given_with o _ _
    (accepted (expression_of o.answer) (fields ++ params_known o.params) (state ++ under param_word o.params args) o.kind scope (op_answer known names fields o h))
    (effect_emitted names fields (fields ++ params_known o.params) (state ++ under param_word o.params args) o.effect scope (op_effect known names fields o h))

given_of_fold : (fields : List Known) (o : OpDecl) (args : List Value) (state : Option Bindings) → Fits fields state → ((env : Bindings) → FitsScope fields env → IsGiven o (answer_over o args env))
    → IsGiven o (option_and_then (λ env. answer_over o args env) state)
given_of_fold fields o args None f then = absurd f
given_of_fold fields o args (Some env) f then = then env f

-- the answer of a function that always answers
given_always : (o : OpDecl) (given : Option Answered) (other : Answered) → IsGiven o given → (given ≡ Some (option_map_or (λ a. a) given other)) × IsAnswerOf (Some o) (option_map_or (λ a. a) given other)
given_always o None other h = absurd h
given_always o (Some given) other h = (refl, h)

module _ (p : Program) (typed : program_faults p ≡ []) where
  able_given : (o : ℕ) (args : List Value) (effects : List Effect) → IsAble p.types o args effects → (op : OpDecl) × (slice_get (all_ops p.types) o ≡ Some op) × IsGiven op (answer_of p.types o args effects)
  able_given o args effects able =
      let op = item_at (all_ops p.types) o able.within in
      let k = item_at (op_kinds p.types) o (subst (λ n. o < n) (sym (length-kinds 0 p.types)) able.within) in
      let own = subst (λ r. All (IsOfType p.types r) effects) k.1 able.own in
      let fine = op_fault_free p typed o k.0 op.0 op.1 k.1 in
      let fits = subst (λ r. AreArgs r args) op.1 able.fit in
      let given = given_of_fold (fields_known fine.type.fields) op.0 args (fold_of p.types k.0 effects) (fold_fits p typed k.0 fine.type fine.declared effects own)
      (λ env f. given_over (op_words p.types) (names_met [] (field_names fine.type.fields)) (fields_known fine.type.fields) op.0 args env f fine.no_faults fits) in
      (op.0, op.1, rw (op.1, k.1) given)

  pub answers_all : AnswersAll p.types
  answers_all o args effects able =
      let g = able_given o args effects able in
      (given_always g.0 (answer_of p.types o args effects) (record { answer = Nothing; payload = NoChange }) g.2).0

  pub answers_fit : AnswersFit p.types
  answers_fit o args effects able =
      let g = able_given o args effects able in
      subst (λ r. IsAnswerOf r (answered_of p.types o args effects)) (sym g.1) (given_always g.0 (answer_of p.types o args effects) (record { answer = Nothing; payload = NoChange }) g.2).1
