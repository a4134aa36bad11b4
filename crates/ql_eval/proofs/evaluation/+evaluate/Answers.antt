use Rattle.std.proofs.lemmas.Result.{err_from_is_err_and}
use Rattle.std.proofs.Common.{◌≡◌, ◌<◌, ap, sym, refl, ◌∙◌, arith, length}
use Rattle.std.proofs.lemmas.Bool.Decides.{nat_tests}
use Rattle.ql_typing.specs.Functions.{function_named}
use Rattle.ql_eval.specs.Evaluation.{call_value}
use Rattle.ql_eval.proofs.CallValues.{call_again, empty_call, more_others, named_value, no_others, one_other, same_answer, two_others}
use Rattle.ql_eval.proofs.evaluation.+evaluate.Goals as goal

pub call-returns-then-is_empty : goal.call-returns-then-is_empty
call-returns-then-is_empty t c =
    let none : length c.items-items.result.now ≡ 0 = let h = sym c.is_empty.ensures ∙ c.if-is_empty.true in grind (arith, nat_tests) in
    empty_call c.args.scope.now c.args.name.now.word c.items-items.result.now none ∙ ap (λ args. call_value c.args.scope.now c.args.name.now.word args) c.items-items.ensures.operands

pub call-returns-in-Var : goal.call-returns-in-Var
call-returns-in-Var t c =
    let f = c.find_function-function.ensures ∙ ap function_named c.bytes.ensures.same in
    let some : 0 < length c.items-items.result.now = let h = sym c.is_empty.ensures ∙ c.if-is_empty.false in grind (arith, nat_tests) in
    let value = named_value c.args.scope.now c.index-items-0.result c.in-Var.name (ap (λ x. x.node) c.index-items-0.is ∙ c.in-Var.is) ∙ sym c.find.ensures in
    same_answer c.call_on.result _ _ (call_again c.args.scope.now c.args.name.now.word c.items-items.result.now c.index-items-0.result c.args.args.now c.find_function-function.result _ some c.index-items-0.is c.items-items.ensures.operands f value) c.call_on.ensures

pub call-returns : goal.call-returns
call-returns t c =
    let f = c.find_function-function.ensures ∙ ap function_named c.bytes.ensures.same in
    let some : 0 < length c.items-items.result.now = let h = sym c.is_empty.ensures ∙ c.if-is_empty.false in grind (arith, nat_tests) in
    let value = sym c.in_ok-first.ensures ∙ sym c.as_ref.ensures.value in
    same_answer c.call_on-2.result _ _ (call_again c.args.scope.now c.args.name.now.word c.items-items.result.now c.index-items-0-2.result c.args.args.now c.find_function-function.result _ some c.index-items-0-2.is c.items-items.ensures.operands f value) c.call_on-2.ensures

pub call_on-returns-then-args-le1 : goal.call_on-returns-then-args-le1
call_on-returns-then-args-le1 t c =
    c.with_one.ensures ∙ sym (rw (c.in-Some.is, no_others c.args.scope.now c.args.args.now c.if-args-le1.true) refl)

pub call_on-returns-in_ok-second : goal.call_on-returns-in_ok-second
call_on-returns-in_ok-second t c =
    same_answer c.with_two.result _ _ (sym (rw (c.in-Some.is, one_other c.args.scope.now c.args.args.now c.index-args-1.result c.in_ok-second.second c.if-args-eq2.true c.index-args-1.is c.in_ok-second.ensures) refl)) c.with_two.ensures

pub call_on-returns-in_ok-third : goal.call_on-returns-in_ok-third
call_on-returns-in_ok-third t c =
    same_answer c.with_three.result _ _ (sym (rw (c.in-Some.is, two_others c.args.scope.now c.args.args.now c.index-args-1-then-args-eq3.result c.index-args-2.result c.in_ok-second-2.second c.in_ok-third.third c.if-args-eq3.true c.index-args-1-then-args-eq3.is c.index-args-2.is c.in_ok-second-2.ensures c.in_ok-third.ensures) refl)) c.with_three.ensures

pub call_on-returns-else-args-eq3 : goal.call_on-returns-else-args-eq3
call_on-returns-else-args-eq3 t c =
    rw c.in-Some.is (sym (more_others c.args.scope.now c.args.function c.in-Some.first.now c.args.args.now (omega arith) c.if-args-eq2.false c.if-args-eq3.false))

pub call-returns-in_err-first : goal.call-returns-in_err-first
call-returns-in_err-first t c = let p = err_from_is_err_and c.from_residual.result c.from_residual.ensures.1 in rw p.1 tt

pub call_on-returns-in_err-second : goal.call_on-returns-in_err-second
call_on-returns-in_err-second t c = let p = err_from_is_err_and c.from_residual.result c.from_residual.ensures.1 in rw p.1 tt

pub call_on-returns-in_err-second-2 : goal.call_on-returns-in_err-second-2
call_on-returns-in_err-second-2 t c = let p = err_from_is_err_and c.from_residual-in_err-second-2.result c.from_residual-in_err-second-2.ensures.1 in rw p.1 tt

pub call_on-returns-in_err-third : goal.call_on-returns-in_err-third
call_on-returns-in_err-third t c = let p = err_from_is_err_and c.from_residual-in_err-third.result c.from_residual-in_err-third.ensures.1 in rw p.1 tt

pub evaluate-returns-in_err-evaluate-in-Neg : goal.evaluate-returns-in_err-evaluate-in-Neg
evaluate-returns-in_err-evaluate-in-Neg t c = let p = err_from_is_err_and c.from_residual-in_err-evaluate-in-Neg.result c.from_residual-in_err-evaluate-in-Neg.ensures.1 in rw p.1 tt

pub evaluate-returns-in_err-evaluate-in-Not : goal.evaluate-returns-in_err-evaluate-in-Not
evaluate-returns-in_err-evaluate-in-Not t c = let p = err_from_is_err_and c.from_residual-in_err-evaluate-in-Not.result c.from_residual-in_err-evaluate-in-Not.ensures.1 in rw p.1 tt

pub evaluate-returns-in_err-evaluate_truth-in-If : goal.evaluate-returns-in_err-evaluate_truth-in-If
evaluate-returns-in_err-evaluate_truth-in-If t c = let p = err_from_is_err_and c.from_residual-in_err-evaluate_truth-in-If.result c.from_residual-in_err-evaluate_truth-in-If.ensures.1 in rw p.1 tt

pub evaluate-returns-in_err-left-in-Binary : goal.evaluate-returns-in_err-left-in-Binary
evaluate-returns-in_err-left-in-Binary t c = let p = err_from_is_err_and c.from_residual-in_err-left-in-Binary.result c.from_residual-in_err-left-in-Binary.ensures.1 in rw p.1 tt

pub evaluate-returns-in_err-literal-in-Text : goal.evaluate-returns-in_err-literal-in-Text
evaluate-returns-in_err-literal-in-Text t c = let p = err_from_is_err_and c.from_residual.result c.from_residual.ensures.1 in rw p.1 tt

pub evaluate-returns-in_err-right-in-Binary : goal.evaluate-returns-in_err-right-in-Binary
evaluate-returns-in_err-right-in-Binary t c = let p = err_from_is_err_and c.from_residual-in_err-right-in-Binary.result c.from_residual-in_err-right-in-Binary.ensures.1 in rw p.1 tt

pub evaluate_truth-returns-in_err-value : goal.evaluate_truth-returns-in_err-value
evaluate_truth-returns-in_err-value t c = let p = err_from_is_err_and c.from_residual.result c.from_residual.ensures.1 in rw p.1 tt
