use Rattle.std.proofs.Common.{◌≡◌, ◌++◌, ℕ, true, List, Some, not, filter, slice_get, ap, ◌∙◌, sym, subst, inr}
use Rattle.std.proofs.lemmas.Result.{IfOk-weaker}
use Rattle.ql_base.specs.IdLists.{has_id}
use Rattle.ql_exec.specs.declared.effect.Effect.{Effect}
use Rattle.ql_exec.specs.Effects.{effect_at}
use Rattle.ql_exec.specs.Folding.{seen_in_order}
use Rattle.ql_eval.specs.Able.{IsAble, IsOfType}
use Rattle.ql_eval.specs.Folds.{answered_of}
use Rattle.ql_typing.specs.Operations.{op_kinds}
use Rattle.ql_summary.specs.Covering.{Covers}
use Rattle.ql_summary.proofs.KeptStates.{forms_agree}
use Rattle.ql_summary.proofs.OneFold.{comes, each_of, ids_there, others_in, owns, some_of, whole}
use Rattle.ql_summary.proofs.answering.answer_with.Goals as goal

pub answer_after-requires-clause-able : goal.answer_after-requires-clause-able
answer_after-requires-clause-able c =
    let types = c.args.t.now.program.types in
    let small = c.args.small.now in
    let seen = c.args.seen.now in
    let ids = c.on-one.result.now.ids in
    let is : c.in_ok-rest.rest ≡ filter (λ (a : ℕ). not (has_id ids a)) seen = c.in_ok-rest.ensures.those in
    let able : IsAble types c.args.op.0 c.args.args.now (seen_in_order small (filter (λ (a : ℕ). not (has_id ids a)) seen)) = record {
      within = c.requires.able.within;
      fit = c.requires.able.fit;
      own = some_of small (IsOfType types (slice_get (op_kinds types) c.args.op.0)) (filter (λ (a : ℕ). not (has_id ids a)) seen) seen (λ a has. (others_in ids seen a has).0) c.requires.able.own;
    } in
    subst (λ (rest : List ℕ). IsAble types c.args.op.0 c.args.args.now (seen_in_order small rest)) (sym is) able

pub answer_after-requires-clause-reached : goal.answer_after-requires-clause-reached
answer_after-requires-clause-reached c =
    let types = c.args.t.now.program.types in
    let kept = c.args.kept.now in
    let small = c.args.small.now in
    let seen = c.args.seen.now in
    let one = c.on-one.result.now in
    let k = c.kind_of.result.0 in
    let y = c.requires.stands.0 in
    let agree = forms_agree kept small y (inr (sym c.requires.stands.2)) in
    let there : slice_get kept c.args.o.0 ≡ Some one = c.on-one.ensures in
    let covers = subst (λ (ids : List ℕ). Covers small ids seen) (ids_there kept c.args.o one there) c.requires.covers in
    let typed : (a : ℕ) (e : Effect) → has_id one.ids a ≡ true → effect_at small a ≡ Some e → slice_get (op_kinds types) e.op.0 ≡ Some k =
    λ a e has at. (each_of small (IsOfType types (slice_get (op_kinds types) c.args.op.0)) seen c.requires.able.own a e (covers.all a has) at).type ∙ c.kind_of.ensures.kind in (
      k,
      c.kind_of.ensures.kind,
      (
        seen_in_order y one.ids,
        record {
          own = owns types kept small y agree c.requires.stands.1 c.args.o one there k typed;
          folded = c.in_ok-state.ensures.state (seen_in_order y one.ids) (comes types kept small y agree c.requires.stands.1 c.args.o one there k typed);
        },
      ),
    )

pub returns : goal.returns
returns c =
    let types = c.args.t.now.program.types in
    let kept = c.args.kept.now in
    let small = c.args.small.now in
    let seen = c.args.seen.now in
    let op = c.args.op.0 in
    let args = c.args.args.now in
    let one = c.on-one.result.now in
    let k = c.kind_of.result.0 in
    let there : slice_get kept c.args.o.0 ≡ Some one = c.on-one.ensures in
    let covers = subst (λ (ids : List ℕ). Covers small ids seen) (ids_there kept c.args.o one there) c.requires.covers in
    let typed : (a : ℕ) (e : Effect) → has_id one.ids a ≡ true → effect_at small a ≡ Some e → slice_get (op_kinds types) e.op.0 ≡ Some k =
    λ a e has at. (each_of small (IsOfType types (slice_get (op_kinds types) c.args.op.0)) seen c.requires.able.own a e (covers.all a has) at).type ∙ c.kind_of.ensures.kind in
    IfOk-weaker c.answer_after.result _ _
    (λ given answers. λ y stands slim.
    let agree = forms_agree kept small y (inr (sym slim)) in
    let all = whole types kept small y agree stands c.args.o one there k typed seen c.state_of.ensures.ascending c.others.ensures.ascending c.requires.on covers in
    answers k (seen_in_order y one.ids) c.kind_of.ensures.kind (c.in_ok-state.ensures.state (seen_in_order y one.ids) (comes types kept small y agree stands c.args.o one there k typed))
    ∙ ap (λ (rest : List ℕ). answered_of types op args (seen_in_order y one.ids ++ seen_in_order small rest)) c.in_ok-rest.ensures.those
    ∙ ap (λ (es : List Effect). answered_of types op args es) (sym all))
    c.answer_after.ensures
