use Rattle.std.proofs.Common.{◌≡◌, ◌++◌, Option, None, Some, ap, sym, subst, All, ◌∙◌}
use Rattle.std.proofs.lemmas.Option.{same_Some}
use Rattle.ql_exec.specs.Folding.{seen_in_order}
use Rattle.ql_typing.proofs.Parts.{none_indeed}
use Rattle.ql_eval.specs.Able.{IsOfType}
use Rattle.std.specs.Option.{option_map_or}
use Rattle.ql_value.specs.declared.value.Value.TheVariants.{Unit as NoValue}
use Rattle.ql_exec.specs.declared.effect.Payload.TheVariants.{Nothing as NoChange}
use Rattle.ql_exec.specs.declared.folder.Answered.{Answered}
use Rattle.ql_eval.specs.Folds.{answer_of, answered_of, fold_of}
use Rattle.ql_eval.specs.Resuming.{IsReached}
use Rattle.ql_eval.proofs.SplitFolds.{answer_is, answers_more}
use Rattle.ql_eval.proofs.resuming.answer_after.Goals as goal

pub fold_after-requires-clause-reached : goal.fold_after-requires-clause-reached
fold_after-requires-clause-reached c =
    let same = same_Some c.requires.reached.0 c.kind_of.result.0 (sym c.requires.reached.1 ∙ c.kind_of.ensures.kind) in
    subst (λ k. IsReached c.args.t.now.program.types k c.args.state) same c.requires.reached.2

pub fold_after-requires-clause-own : goal.fold_after-requires-clause-own
fold_after-requires-clause-own c = subst (λ r. All (IsOfType c.args.t.now.program.types r) (seen_in_order c.args.execution.now c.args.ids.now)) c.kind_of.ensures.kind c.requires.able.own

pub unreachable-requires : goal.unreachable-requires
unreachable-requires c =
    let t = c.args.t.now in
    let o = c.args.o.0 in
    let args = c.args.args.now in
    let more = seen_in_order c.args.execution.now c.args.ids.now in
    let k = c.requires.reached.0 in
    let reached = c.requires.reached.2 in
    let same = same_Some c.kind_of.result.0 k (sym c.kind_of.ensures.kind ∙ c.requires.reached.1) in
    let folded = c.in_ok-after.ensures reached.0 (subst (λ j. fold_of t.program.types j reached.0 ≡ Some c.args.state) (sym same) reached.1.folded) in
    let over = answer_is t.program.types o c.kind_of.result.0 args (reached.0 ++ more) c.op.result.now c.in_ok-after.after c.op.ensures c.kind_of.ensures.kind folded in
    let some = answers_more t.program (none_indeed _ t.well_typed) o k args c.args.state more c.requires.able c.requires.reached.1 reached in
    let no : None ≡ Some (answered_of t.program.types o args (reached.0 ++ more)) = sym c.in-None.is ∙ c.in_ok-answered.ensures ∙ sym over ∙ some in
    cc

pub returns : goal.returns
returns c = λ k before kind reached.
    let types = c.args.t.now.program.types in
    let o = c.args.o.0 in
    let args = c.args.args.now in
    let more = seen_in_order c.args.execution.now c.args.ids.now in
    let same = same_Some k c.kind_of.result.0 (sym kind ∙ c.kind_of.ensures.kind) in
    let folded = c.in_ok-after.ensures before (subst (λ j. fold_of types j before ≡ Some c.args.state) same reached) in
    let over = answer_is types o c.kind_of.result.0 args (before ++ more) c.op.result.now c.in_ok-after.after c.op.ensures c.kind_of.ensures.kind folded in
    let is : answer_of types o args (before ++ more) ≡ Some c.in-Some.answered = over ∙ sym c.in_ok-answered.ensures ∙ c.in-Some.is in
    let other : Answered = record { answer = NoValue; payload = NoChange } in
    sym (ap (λ (given : Option Answered). option_map_or (λ a. a) given other) is)
