-- A fold over effects is the fold over the first of them, and from its state the fold over the rest.
use Rattle.std.proofs.Common.{◌≡◌, ℕ, List, [], ◌∷◌, ◌++◌, All, Option, None, Some, slice_get, refl, sym, ap, ◌∙◌, subst}
use Rattle.std.specs.Option.{option_and_then}
use Rattle.std.proofs.lemmas.List.Elements.{All-append}
use Rattle.ql_lang.specs.declared.operation.OpDecl.{OpDecl}
use Rattle.ql_lang.specs.declared.program.TypeDecl.{TypeDecl}
use Rattle.ql_lang.specs.declared.program.Program.{Program}
use Rattle.ql_typing.specs.Operations.{all_ops, op_kinds}
use Rattle.ql_typing.specs.Programs.{fields_known, program_faults}
use Rattle.ql_typing.specs.declared.scope.Known.{Known}
use Rattle.ql_exec.specs.declared.effect.Effect.{Effect}
use Rattle.ql_value.specs.declared.value.Value.{Value}
use Rattle.ql_eval.specs.Able.{IsAble, IsOfType}
use Rattle.ql_eval.specs.Evaluation.{Bindings}
use Rattle.ql_eval.specs.Folds.{after_payload, answer_of, answer_over, answered_of, begun, fold_of, folded}
use Rattle.ql_eval.specs.Resuming.{IsReached}
use Rattle.ql_eval.proofs.Answering.{answers_all}
use Rattle.ql_eval.proofs.Fitting.{Fits, fold_fits}

-- one effect, and then the others in two parts
one_first : (ops : List OpDecl) (effects more : List Effect) (o : Option Bindings) → ((next : Bindings) → folded ops next (effects ++ more) ≡ option_and_then (λ s. folded ops s more) (folded ops next effects))
    → option_and_then (λ s. folded ops s (effects ++ more)) o ≡ option_and_then (λ s. folded ops s more) (option_and_then (λ s. folded ops s effects) o)
one_first ops effects more None then = refl
one_first ops effects more (Some next) then = then next

pub folded_more : (ops : List OpDecl) (state : Bindings) (effects more : List Effect) → folded ops state (effects ++ more) ≡ option_and_then (λ s. folded ops s more) (folded ops state effects)
unfolding folded
folded_more ops state [] more = refl
folded_more ops state (e ∷ effects) more = one_first ops effects more (after_payload ops e.op.0 state e.payload) (λ next. folded_more ops next effects more)

of_type : (ops : List OpDecl) (t : Option TypeDecl) (effects more : List Effect) (state : Bindings) → option_and_then (λ u. folded ops (begun u.fields) effects) t ≡ Some state
    → option_and_then (λ u. folded ops (begun u.fields) (effects ++ more)) t ≡ folded ops state more
of_type ops None effects more state h = cc
of_type ops (Some t) effects more state h = folded_more ops (begun t.fields) effects more ∙ ap (option_and_then (λ s. folded ops s more)) h

-- the fold of a type, from the state after the first effects
pub fold_of_more : (types : List TypeDecl) (k : ℕ) (effects more : List Effect) (state : Bindings) → fold_of types k effects ≡ Some state → fold_of types k (effects ++ more) ≡ folded (all_ops types) state more
fold_of_more types k effects more state h = of_type (all_ops types) (slice_get types k) effects more state h

-- the fold over nothing
pub fold_of_none : (types : List TypeDecl) (k : ℕ) (t : TypeDecl) → slice_get types k ≡ Some t → fold_of types k [] ≡ Some (begun t.fields)
unfolding folded
fold_of_none types k t is = rw is refl

-- what is folded is of some type
type_there : (ops : List OpDecl) (t : Option TypeDecl) (effects : List Effect) (state : Bindings) → option_and_then (λ u. folded ops (begun u.fields) effects) t ≡ Some state → (u : TypeDecl) × (t ≡ Some u)
type_there ops None effects state h = cc
type_there ops (Some t) effects state h = (t, refl)

there : (scope : List Known) (o : Option Bindings) → Fits scope o → (state : Bindings) × (o ≡ Some state)
there scope None f = absurd f
there scope (Some state) f = (state, refl)

-- the answer over a state that a fold comes to
pub answer_is : (types : List TypeDecl) (o k : ℕ) (args : List Value) (effects : List Effect) (op : OpDecl) (state : Bindings) → slice_get (all_ops types) o ≡ Some op → slice_get (op_kinds types) o ≡ Some k
    → fold_of types k effects ≡ Some state → answer_of types o args effects ≡ answer_over op args state
answer_is types o k args effects op state found kind reached = rw (found, kind, reached) refl

module _ (p : Program) (typed : program_faults p ≡ []) where
  -- from a state that was reached the fold goes on to one
  pub goes_on : (k : ℕ) (state : Bindings) (more : List Effect) → IsReached p.types k state → All (IsOfType p.types (Some k)) more → (after : Bindings) × (folded (all_ops p.types) state more ≡ Some after)
  goes_on k state more reached own =
      let t = type_there (all_ops p.types) (slice_get p.types k) reached.0 state reached.1.folded in
      let all = All-append (IsOfType p.types (Some k)) reached.0 more reached.1.own own in
      let after = there (fields_known t.0.fields) (fold_of p.types k (reached.0 ++ more)) (fold_fits p typed k t.0 t.1 (reached.0 ++ more) all) in
      (after.0, sym (fold_of_more p.types k reached.0 more state reached.1.folded) ∙ after.1)

  -- a call that sees what a state was reached by, and more
  pub answers_more : (o k : ℕ) (args : List Value) (state : Bindings) (more : List Effect) → IsAble p.types o args more → slice_get (op_kinds p.types) o ≡ Some k → (reached : IsReached p.types k state)
      → answer_of p.types o args (reached.0 ++ more) ≡ Some (answered_of p.types o args (reached.0 ++ more))
  answers_more o k args state more able kind reached =
      answers_all p typed o args (reached.0 ++ more) (record {
        within = able.within;
        fit = able.fit;
        own = All-append (IsOfType p.types (slice_get (op_kinds p.types) o)) reached.0 more (subst (λ r. All (IsOfType p.types r) reached.0) (sym kind) reached.1.own) able.own;
      })
