use Rattle.std.proofs.Common.{sym, ◌∙◌, ap, refl, ◌∷◌, arith}
use Rattle.std.proofs.lemmas.Result.{err_from_is_err_and}
use Rattle.ql_lang.specs.Expressions.{expression_of, node_of}
use Rattle.ql_grammar.specs.ExpressionGrammar.{Chosen}
use Rattle.ql_grammar.specs.Machine.{read}
use Rattle.ql_grammar.specs.Table.{Do, Then, Arguments, ExprAt, Called, MoreArguments, TheExprs, add_argument, to_arguments}
use Rattle.ql_grammar.proofs.Choices.{read-do}
use Rattle.ql_grammar.proofs.Rules.{read-as, then-on, then-past}
use Rattle.ql_grammar.proofs.ByToken.{unary-name, unary-group, unary-not, unary-minus, unary-constant, chosen-if, chosen-plain}
use Rattle.ql_parse.proofs.ArgumentLemmas.{called, map_more}
use Rattle.ql_parse.proofs.Lists.{begins, item_refused, read_all, read_mark}
use Rattle.ql_parse.specs.Precedences.{after_two, up_to}
use Rattle.ql_parse.proofs.PrecedenceLaws.{goes_on, goes_past, after_chain, read_part, ends, level_on, level_past, levels_done, if_ok, if_err, no_fault, on_ok}
use Rattle.ql_parse.proofs.reader.Reader.+expr.Goals as goal

pub named-returns-in_err-name-clause-refused : goal.named-returns-in_err-name-clause-refused
named-returns-in_err-name-clause-refused t c =
    let p = err_from_is_err_and c.from_residual.result c.from_residual.ensures.1 in
    rw (p.1, p.2) (λ f is below vs. unary-name c.args.self.now below vs c.requires ∙ c.in_err-name.ensures.refused f is _ _)

pub named-returns-in_err-args-clause-refused : goal.named-returns-in_err-args-clause-refused
named-returns-in_err-args-clause-refused t c =
    let p = err_from_is_err_and c.from_residual-in_err-args.result c.from_residual-in_err-args.ensures.1 in
    rw (p.1, p.2) (λ f is below vs. unary-name c.args.self.now below vs c.requires ∙ c.in_ok-name.ensures.gave _ _ ∙ read-do _ _ _ _ ∙ then-on _ Called below _ (sym c.sees.ensures ∙ c.if-sees.true) ∙ c.in_err-args.ensures.refused f is _ _)

pub named-returns-then-sees-clause-gave : goal.named-returns-then-sees-clause-gave
unfolding node_of
named-returns-then-sees-clause-gave t c = λ below vs. rw (← called c.of.result c.in_ok-args.args.items c.of.ensures) (unary-name c.args.self.now below vs c.requires ∙ c.in_ok-name.ensures.gave _ _ ∙ read-do _ _ _ _ ∙ then-on _ Called below _ (sym c.sees.ensures ∙ c.if-sees.true) ∙ c.in_ok-args.ensures.gave _ _ ∙ read-do _ _ _ _)

pub named-returns-clause-gave : goal.named-returns-clause-gave
unfolding node_of
named-returns-clause-gave t c = λ below vs. unary-name c.args.self.now below vs c.requires ∙ c.in_ok-name.ensures.gave _ _ ∙ read-do _ _ _ _ ∙ then-past _ Called below _ (sym c.sees.ensures ∙ c.if-sees.false)

pub bracketed-returns-in_err-take-clause-refused : goal.bracketed-returns-in_err-take-clause-refused
bracketed-returns-in_err-take-clause-refused t c =
    let p = err_from_is_err_and c.from_residual.result c.from_residual.ensures.1 in
    rw (p.1, p.2) (λ f is below vs. c.in_err-take.ensures.refused f is _ _)

pub bracketed-returns-in_err-args-clause-refused : goal.bracketed-returns-in_err-args-clause-refused
bracketed-returns-in_err-args-clause-refused t c =
    let p = err_from_is_err_and c.from_residual-in_err-args.result c.from_residual-in_err-args.ensures.1 in
    rw (p.1, p.2) (λ f is below vs. c.in_ok-take.ensures.took _ _ ∙ c.in_err-args.ensures.refused f is _ _)

pub bracketed-returns-clause-gave : goal.bracketed-returns-clause-gave
bracketed-returns-clause-gave t c = if_ok c.past.result c.past.ensures.took (λ x read below vs. rw read.0 (c.in_ok-take.ensures.took _ _ ∙ c.in_ok-args.ensures.gave _ _ ∙ read.1 _ _))

pub bracketed-returns-clause-refused : goal.bracketed-returns-clause-refused
bracketed-returns-clause-refused t c = if_err c.past.result c.past.ensures.refused (λ e refused f is below vs. c.in_ok-take.ensures.took _ _ ∙ c.in_ok-args.ensures.gave _ _ ∙ refused f is _ _)

pub arguments_of_call-more-init : goal.arguments_of_call-more-init
arguments_of_call-more-init t c = rw c.in_ok-found.ensures.items (begins to_arguments (λ below vs. read-as c.args.self.now Arguments (ExprAt Chosen) below (Do to_arguments ∷ Then MoreArguments ∷ below) vs refl) (λ x vs. refl) (omega arith))

pub arguments_of_call-returns-in_err-arg-clause-refused : goal.arguments_of_call-returns-in_err-arg-clause-refused
arguments_of_call-returns-in_err-arg-clause-refused t c =
    let p = err_from_is_err_and c.from_residual-in_err-arg.result c.from_residual-in_err-arg.ensures.1 in
    rw (p.1, p.2) (item_refused _ c.more.invariant c.in_err-arg.ensures.refused)

pub arguments_of_call-more-preserved : goal.arguments_of_call-more-preserved
arguments_of_call-more-preserved t c = rw c.in_ok-push.ensures.items (read_mark c.more.invariant c.whole_expression.new.self c.in_ok-arg.arg c.in_ok-arg.ensures.gave (c.passes.ensures.passed c.if-not-passes.false) add_argument (λ below. refl) (λ y xs vs. ap (λ es. TheExprs es ∷ vs) (sym (map_more expression_of xs y.expr))) c.in_ok-arg.ensures.shorter c.passes.ensures.within)

pub arguments_of_call-returns-then-not-passes-clause-gave : goal.arguments_of_call-returns-then-not-passes-clause-gave
arguments_of_call-returns-then-not-passes-clause-gave t c = λ below vs. rw c.in_ok-push.ensures.items (read_all c.more.invariant c.whole_expression.new.self c.in_ok-arg.arg c.in_ok-arg.ensures.gave (c.passes.ensures.missed c.if-not-passes.true) (λ under. refl) below vs)

pub group-returns-in_err-at-clause-refused : goal.group-returns-in_err-at-clause-refused
group-returns-in_err-at-clause-refused t c =
    let p = err_from_is_err_and c.from_residual.result c.from_residual.ensures.1 in
    rw (p.1, p.2) (λ f is below vs. unary-group c.args.self.now below vs c.requires ∙ c.in_err-at.ensures.refused_placed f is _ _)

pub group-returns-in_err-inside-clause-refused : goal.group-returns-in_err-inside-clause-refused
group-returns-in_err-inside-clause-refused t c =
    let p = err_from_is_err_and c.from_residual-in_err-inside.result c.from_residual-in_err-inside.ensures.1 in
    rw (p.1, p.2) (λ f is below vs. unary-group c.args.self.now below vs c.requires ∙ c.in_ok-at.ensures.gave _ _ ∙ c.in_err-inside.ensures.refused f is _ _)

pub group-returns-clause-gave : goal.group-returns-clause-gave
group-returns-clause-gave t c = if_ok c.past.result c.past.ensures.took (λ x read below vs. rw read.0 (unary-group c.args.self.now below vs c.requires ∙ c.in_ok-at.ensures.gave _ _ ∙ c.in_ok-inside.ensures.gave _ _ ∙ read.1 _ _ ∙ read-do _ _ _ _))

pub group-returns-clause-refused : goal.group-returns-clause-refused
group-returns-clause-refused t c = if_err c.past.result c.past.ensures.refused (λ e refused f is below vs. unary-group c.args.self.now below vs c.requires ∙ c.in_ok-at.ensures.gave _ _ ∙ c.in_ok-inside.ensures.gave _ _ ∙ refused f is _ _)

pub denial-returns-in_err-at-clause-refused : goal.denial-returns-in_err-at-clause-refused
denial-returns-in_err-at-clause-refused t c =
    let p = err_from_is_err_and c.from_residual.result c.from_residual.ensures.1 in
    rw (p.1, p.2) (λ f is below vs. unary-not c.args.self.now below vs c.requires ∙ c.in_err-at.ensures.refused_placed f is _ _)

pub denial-returns-in_err-denied-clause-refused : goal.denial-returns-in_err-denied-clause-refused
denial-returns-in_err-denied-clause-refused t c =
    let p = err_from_is_err_and c.from_residual-in_err-denied.result c.from_residual-in_err-denied.ensures.1 in
    rw (p.1, p.2) (λ f is below vs. unary-not c.args.self.now below vs c.requires ∙ c.in_ok-at.ensures.gave _ _ ∙ c.in_err-denied.ensures.refused f is _ _)

pub denial-returns-clause-gave : goal.denial-returns-clause-gave
unfolding node_of
denial-returns-clause-gave t c = λ below vs. rw (c.in_ok-new.ensures.ok) (unary-not c.args.self.now below vs c.requires ∙ c.in_ok-at.ensures.gave _ _ ∙ c.in_ok-denied.ensures.gave _ _ ∙ read-do _ _ _ _)

pub negation-returns-in_err-at-clause-refused : goal.negation-returns-in_err-at-clause-refused
negation-returns-in_err-at-clause-refused t c =
    let p = err_from_is_err_and c.from_residual.result c.from_residual.ensures.1 in
    rw (p.1, p.2) (λ f is below vs. unary-minus c.args.self.now below vs c.requires ∙ c.in_err-at.ensures.refused_placed f is _ _)

pub negation-returns-in_err-negated-clause-refused : goal.negation-returns-in_err-negated-clause-refused
negation-returns-in_err-negated-clause-refused t c =
    let p = err_from_is_err_and c.from_residual-in_err-negated.result c.from_residual-in_err-negated.ensures.1 in
    rw (p.1, p.2) (λ f is below vs. unary-minus c.args.self.now below vs c.requires ∙ c.in_ok-at.ensures.gave _ _ ∙ c.in_err-negated.ensures.refused f is _ _)

pub negation-returns-clause-gave : goal.negation-returns-clause-gave
unfolding node_of
negation-returns-clause-gave t c = λ below vs. rw (c.in_ok-new.ensures.ok) (unary-minus c.args.self.now below vs c.requires ∙ c.in_ok-at.ensures.gave _ _ ∙ c.in_ok-negated.ensures.gave _ _ ∙ read-do _ _ _ _)

pub unary-returns-clause-gave : goal.unary-returns-clause-gave
unary-returns-clause-gave t c = if_ok c.constant.result c.constant.ensures.gave (λ o gave below vs. unary-constant c.args.self.now below vs (sym c.sees.ensures ∙ c.if-sees.false) (sym c.sees-2.ensures ∙ c.if-sees-2.false) (sym c.sees-3.ensures ∙ c.if-sees-3.false) (sym c.sees-4.ensures ∙ c.if-sees-4.false) (sym c.sees-5.ensures ∙ c.if-sees-5.false) (sym c.sees-6.ensures ∙ c.if-sees-6.false) ∙ gave _ _)

pub unary-returns-clause-refused : goal.unary-returns-clause-refused
unary-returns-clause-refused t c = if_err c.constant.result c.constant.ensures.refused (λ e refused f is below vs. unary-constant c.args.self.now below vs (sym c.sees.ensures ∙ c.if-sees.false) (sym c.sees-2.ensures ∙ c.if-sees-2.false) (sym c.sees-3.ensures ∙ c.if-sees-3.false) (sym c.sees-4.ensures ∙ c.if-sees-4.false) (sym c.sees-5.ensures ∙ c.if-sees-5.false) (sym c.sees-6.ensures ∙ c.if-sees-6.false) ∙ refused f is _ _)

pub combined-returns-in_err-op-clause-refused : goal.combined-returns-in_err-op-clause-refused
combined-returns-in_err-op-clause-refused t c =
    let p = err_from_is_err_and c.from_residual.result c.from_residual.ensures.1 in
    rw (p.1, p.2) (λ f is below vs. goes_on c.args.self.now c.args.precedence below _ c.requires ∙ c.in_err-op.ensures.refused f is _ _)

pub combined-returns-in_err-left-clause-refused : goal.combined-returns-in_err-left-clause-refused
combined-returns-in_err-left-clause-refused t c =
    let p = err_from_is_err_and c.from_residual-in_err-left.result c.from_residual-in_err-left.ensures.1 in
    rw (p.1, p.2) (λ f is below vs. goes_on c.args.self.now c.args.precedence below _ c.requires ∙ c.in_ok-op.ensures.gave _ _ ∙ (rw c.in_err-left.ensures.refused at c.operand.ensures.refused) f is _ _)

pub combined-returns-clause-gave : goal.combined-returns-clause-gave
combined-returns-clause-gave t c = if_ok c.combination.result c.combination.ensures.tree (λ o tree below vs.
    goes_on c.args.self.now c.args.precedence below _ c.requires ∙ c.in_ok-op.ensures.gave _ _ ∙ (rw c.in_ok-left.ensures.parts.1 at c.operand.ensures.gave) _ _ ∙ read-do _ _ _ _ ∙ ap (λ v. read c.operand.new.self (after_two c.args.precedence below) (v ∷ vs)) (sym (rw c.in_ok-left.ensures.parts.0 at tree)))

pub combined-returns-clause-refused : goal.combined-returns-clause-refused
combined-returns-clause-refused t c = if_err c.combination.result c.combination.ensures.full (λ e full f is below vs. no_fault e f full is)

pub combined-returns-clause-shorter : goal.combined-returns-clause-shorter
combined-returns-clause-shorter t c =
    let behind = rw c.in_ok-left.ensures.parts.1 at c.operand.ensures.shorter in
    on_ok c.combination.result (omega (arith, c.in_ok-op.ensures.shorter, behind))

pub branch-returns-in_err-take-clause-refused : goal.branch-returns-in_err-take-clause-refused
branch-returns-in_err-take-clause-refused t c =
    let p = err_from_is_err_and c.from_residual.result c.from_residual.ensures.1 in
    rw (p.1, p.2) (λ f is below vs. c.in_err-take.ensures.refused f is _ _)

pub branch-returns-clause-gave : goal.branch-returns-clause-gave
branch-returns-clause-gave t c = if_ok c.whole_expression.result c.whole_expression.ensures.gave (λ o gave below vs. c.in_ok-take.ensures.took _ _ ∙ gave _ _)

pub branch-returns-clause-refused : goal.branch-returns-clause-refused
branch-returns-clause-refused t c = if_err c.whole_expression.result c.whole_expression.ensures.refused (λ e refused f is below vs. c.in_ok-take.ensures.took _ _ ∙ refused f is _ _)

pub branches-returns-in_err-then-clause-refused : goal.branches-returns-in_err-then-clause-refused
branches-returns-in_err-then-clause-refused t c =
    let p = err_from_is_err_and c.from_residual.result c.from_residual.ensures.1 in
    rw (p.1, p.2) (λ f is below vs. c.in_err-then.ensures.refused f is _ _)

pub branches-returns-clause-refused : goal.branches-returns-clause-refused
branches-returns-clause-refused t c = if_err c.both.result c.both.ensures.refused (λ e refused f is below vs. c.in_ok-then.ensures.gave _ _ ∙ (rw refused at c.branch-other.ensures.refused) f is _ _)

pub branches-returns-clause-gave : goal.branches-returns-clause-gave
branches-returns-clause-gave t c = if_ok c.both.result c.both.ensures.parts (λ x parts below vs. rw parts.0 (c.in_ok-then.ensures.gave _ _ ∙ (rw parts.1 at c.branch-other.ensures.gave) _ _))

pub branches-returns-clause-shorter : goal.branches-returns-clause-shorter
branches-returns-clause-shorter t c = if_ok c.both.result c.both.ensures.parts (λ x parts.
    let behind = rw parts.1 at c.branch-other.ensures.shorter in
    omega (arith, c.in_ok-then.ensures.shorter, behind))

pub choice-returns-in_err-at-clause-refused : goal.choice-returns-in_err-at-clause-refused
choice-returns-in_err-at-clause-refused t c =
    let p = err_from_is_err_and c.from_residual.result c.from_residual.ensures.1 in
    rw (p.1, p.2) (λ f is below vs. chosen-if c.args.self.now below vs c.requires ∙ c.in_err-at.ensures.refused_placed f is _ _)

pub choice-returns-in_err-test-clause-refused : goal.choice-returns-in_err-test-clause-refused
choice-returns-in_err-test-clause-refused t c =
    let p = err_from_is_err_and c.from_residual-in_err-test.result c.from_residual-in_err-test.ensures.1 in
    rw (p.1, p.2) (λ f is below vs. chosen-if c.args.self.now below vs c.requires ∙ c.in_ok-at.ensures.gave _ _ ∙ c.in_err-test.ensures.refused f is _ _)

pub choice-returns-in_err-test-2-clause-refused : goal.choice-returns-in_err-test-2-clause-refused
choice-returns-in_err-test-2-clause-refused t c =
    let p = err_from_is_err_and c.from_residual-in_err-test-2.result c.from_residual-in_err-test-2.ensures.1 in
    rw (p.1, p.2) (λ f is below vs. chosen-if c.args.self.now below vs c.requires ∙ c.in_ok-at.ensures.gave _ _ ∙ c.in_ok-test.ensures.gave _ _ ∙ (rw c.in_err-test-2.ensures.refused at c.branches.ensures.refused) f is _ _)

pub choice-returns-clause-gave : goal.choice-returns-clause-gave
choice-returns-clause-gave t c = if_ok c.conditional.result c.conditional.ensures.tree (λ o tree below vs.
    chosen-if c.args.self.now below vs c.requires ∙ c.in_ok-at.ensures.gave _ _ ∙ c.in_ok-test.ensures.gave _ _ ∙ (rw c.in_ok-test-2.ensures.parts.1 at c.branches.ensures.gave) _ _ ∙ read-do _ _ _ _ ∙ ap (λ v. read c.branches.new.self below (v ∷ vs)) (sym (rw c.in_ok-test-2.ensures.parts.0 at tree)))

pub choice-returns-clause-refused : goal.choice-returns-clause-refused
choice-returns-clause-refused t c = if_err c.conditional.result c.conditional.ensures.full (λ e full f is below vs. no_fault e f full is)

pub choice-returns-clause-shorter : goal.choice-returns-clause-shorter
choice-returns-clause-shorter t c =
    let behind = rw c.in_ok-test-2.ensures.parts.1 at c.branches.ensures.shorter in
    on_ok c.conditional.result (omega (arith, c.in_ok-at.ensures.shorter, c.in_ok-test.ensures.shorter, behind))

pub more_operands-returns-then-not-sees_operator-clause-gave : goal.more_operands-returns-then-not-sees_operator-clause-gave
more_operands-returns-then-not-sees_operator-clause-gave t c = λ below vs.
    c.in_ok-both.ensures.gave below vs ∙ after_chain c.combined.new.self c.args.precedence below _ (sym c.chains.ensures ∙ c.if-not-chains.false) ∙ goes_past c.combined.new.self c.args.precedence below _ (sym c.sees_operator.ensures ∙ c.if-not-sees_operator.true)

pub operands-returns-in_err-left-clause-refused : goal.operands-returns-in_err-left-clause-refused
operands-returns-in_err-left-clause-refused t c =
    let p = err_from_is_err_and c.from_residual.result c.from_residual.ensures.1 in
    rw (p.1, p.2) (λ f is below vs. read_part c.args.self.now c.args.precedence below vs ∙ c.in_err-left.ensures.refused f is _ _)

pub operands-returns-then-not-sees_any_operator-clause-gave : goal.operands-returns-then-not-sees_any_operator-clause-gave
operands-returns-then-not-sees_any_operator-clause-gave t c = λ below vs. read_part c.args.self.now c.args.precedence below vs ∙ c.in_ok-left.ensures.gave _ _ ∙ ends c.unary.new.self (up_to c.args.precedence) below _ (sym c.sees_any_operator.ensures ∙ c.if-not-sees_any_operator.true)

pub operands-loop-level-init : goal.operands-loop-level-init
operands-loop-level-init t c = rw c.up_to-level-items.ensures (record {
  so_far = λ below vs. read_part c.args.self.now c.args.precedence below vs ∙ c.in_ok-left.ensures.gave _ _;
  shorter = c.in_ok-left.ensures.shorter;
})

pub operands-loop-level-preserved-then-not-sees_operator : goal.operands-loop-level-preserved-then-not-sees_operator
operands-loop-level-preserved-then-not-sees_operator t c = record {
  so_far = λ below vs. c.loop-level.invariant.so_far below vs ∙ level_past c.loop-level.self c.up_to-level-items.result.now c.loop-level.level-index _ below _ c.loop-level-test.true (sym c.sees_operator.ensures ∙ c.if-not-sees_operator.true);
  shorter = c.loop-level.invariant.shorter;
}

pub operands-returns-in_err-left-2-clause-refused : goal.operands-returns-in_err-left-2-clause-refused
operands-returns-in_err-left-2-clause-refused t c =
    let p = err_from_is_err_and c.from_residual-in_err-left-2.result c.from_residual-in_err-left-2.ensures.1 in
    rw (p.1, p.2) (λ f is below vs. c.loop-level.invariant.so_far below vs ∙ level_on c.loop-level.self c.up_to-level-items.result.now c.loop-level.level-index _ below _ c.loop-level-test.true ∙ c.in_err-left-2.ensures.refused f is _ _)

pub operands-loop-level-preserved : goal.operands-loop-level-preserved
operands-loop-level-preserved t c = record {
  so_far = λ below vs. c.loop-level.invariant.so_far below vs ∙ level_on c.loop-level.self c.up_to-level-items.result.now c.loop-level.level-index _ below _ c.loop-level-test.true ∙ c.in_ok-left-2.ensures.gave _ _;
  shorter = omega (arith, c.loop-level.invariant.shorter, c.in_ok-left-2.ensures.shorter);
}

pub operands-returns-clause-gave : goal.operands-returns-clause-gave
operands-returns-clause-gave t c = λ below vs. c.loop-level.invariant.so_far below vs ∙ levels_done c.loop-level.self c.up_to-level-items.result.now c.loop-level.level-index below _ (omega (arith, c.loop-level-test.false))

pub whole_expression-returns-clause-gave : goal.whole_expression-returns-clause-gave
whole_expression-returns-clause-gave t c = if_ok c.operands.result c.operands.ensures.gave (λ o gave below vs. chosen-plain c.args.self.now below vs (sym c.sees.ensures ∙ c.if-sees.false) ∙ gave below vs)

pub whole_expression-returns-clause-refused : goal.whole_expression-returns-clause-refused
whole_expression-returns-clause-refused t c = if_err c.operands.result c.operands.ensures.refused (λ e refused f is below vs. chosen-plain c.args.self.now below vs (sym c.sees.ensures ∙ c.if-sees.false) ∙ refused f is below vs)

pub arguments_of_call-returns-in_err-arg-clause-gave : goal.arguments_of_call-returns-in_err-arg-clause-gave
arguments_of_call-returns-in_err-arg-clause-gave t c = let p = err_from_is_err_and c.from_residual-in_err-arg.result c.from_residual-in_err-arg.ensures.1 in rw p.1 tt

pub arguments_of_call-returns-in_err-arg-clause-shorter : goal.arguments_of_call-returns-in_err-arg-clause-shorter
arguments_of_call-returns-in_err-arg-clause-shorter t c = let p = err_from_is_err_and c.from_residual-in_err-arg.result c.from_residual-in_err-arg.ensures.1 in rw p.1 tt

pub arguments_of_call-returns-in_err-found-clause-gave : goal.arguments_of_call-returns-in_err-found-clause-gave
arguments_of_call-returns-in_err-found-clause-gave t c = let p = err_from_is_err_and c.from_residual.result c.from_residual.ensures.1 in rw p.1 tt

pub arguments_of_call-returns-in_err-found-clause-shorter : goal.arguments_of_call-returns-in_err-found-clause-shorter
arguments_of_call-returns-in_err-found-clause-shorter t c = let p = err_from_is_err_and c.from_residual.result c.from_residual.ensures.1 in rw p.1 tt

pub arguments_of_call-returns-in_err-push-clause-gave : goal.arguments_of_call-returns-in_err-push-clause-gave
arguments_of_call-returns-in_err-push-clause-gave t c = let p = err_from_is_err_and c.from_residual-in_err-push.result c.from_residual-in_err-push.ensures.1 in rw p.1 tt

pub arguments_of_call-returns-in_err-push-clause-shorter : goal.arguments_of_call-returns-in_err-push-clause-shorter
arguments_of_call-returns-in_err-push-clause-shorter t c = let p = err_from_is_err_and c.from_residual-in_err-push.result c.from_residual-in_err-push.ensures.1 in rw p.1 tt

pub bracketed-returns-in_err-args-clause-gave : goal.bracketed-returns-in_err-args-clause-gave
bracketed-returns-in_err-args-clause-gave t c = let p = err_from_is_err_and c.from_residual-in_err-args.result c.from_residual-in_err-args.ensures.1 in rw p.1 tt

pub bracketed-returns-in_err-args-clause-shorter : goal.bracketed-returns-in_err-args-clause-shorter
bracketed-returns-in_err-args-clause-shorter t c = let p = err_from_is_err_and c.from_residual-in_err-args.result c.from_residual-in_err-args.ensures.1 in rw p.1 tt

pub bracketed-returns-in_err-take-clause-gave : goal.bracketed-returns-in_err-take-clause-gave
bracketed-returns-in_err-take-clause-gave t c = let p = err_from_is_err_and c.from_residual.result c.from_residual.ensures.1 in rw p.1 tt

pub bracketed-returns-in_err-take-clause-shorter : goal.bracketed-returns-in_err-take-clause-shorter
bracketed-returns-in_err-take-clause-shorter t c = let p = err_from_is_err_and c.from_residual.result c.from_residual.ensures.1 in rw p.1 tt

pub branch-returns-in_err-take-clause-gave : goal.branch-returns-in_err-take-clause-gave
branch-returns-in_err-take-clause-gave t c = let p = err_from_is_err_and c.from_residual.result c.from_residual.ensures.1 in rw p.1 tt

pub branch-returns-in_err-take-clause-shorter : goal.branch-returns-in_err-take-clause-shorter
branch-returns-in_err-take-clause-shorter t c = let p = err_from_is_err_and c.from_residual.result c.from_residual.ensures.1 in rw p.1 tt

pub branches-returns-in_err-then-clause-gave : goal.branches-returns-in_err-then-clause-gave
branches-returns-in_err-then-clause-gave t c = let p = err_from_is_err_and c.from_residual.result c.from_residual.ensures.1 in rw p.1 tt

pub branches-returns-in_err-then-clause-shorter : goal.branches-returns-in_err-then-clause-shorter
branches-returns-in_err-then-clause-shorter t c = let p = err_from_is_err_and c.from_residual.result c.from_residual.ensures.1 in rw p.1 tt

pub choice-returns-in_err-at-clause-gave : goal.choice-returns-in_err-at-clause-gave
choice-returns-in_err-at-clause-gave t c = let p = err_from_is_err_and c.from_residual.result c.from_residual.ensures.1 in rw p.1 tt

pub choice-returns-in_err-at-clause-shorter : goal.choice-returns-in_err-at-clause-shorter
choice-returns-in_err-at-clause-shorter t c = let p = err_from_is_err_and c.from_residual.result c.from_residual.ensures.1 in rw p.1 tt

pub choice-returns-in_err-test-2-clause-gave : goal.choice-returns-in_err-test-2-clause-gave
choice-returns-in_err-test-2-clause-gave t c = let p = err_from_is_err_and c.from_residual-in_err-test-2.result c.from_residual-in_err-test-2.ensures.1 in rw p.1 tt

pub choice-returns-in_err-test-2-clause-shorter : goal.choice-returns-in_err-test-2-clause-shorter
choice-returns-in_err-test-2-clause-shorter t c = let p = err_from_is_err_and c.from_residual-in_err-test-2.result c.from_residual-in_err-test-2.ensures.1 in rw p.1 tt

pub choice-returns-in_err-test-clause-gave : goal.choice-returns-in_err-test-clause-gave
choice-returns-in_err-test-clause-gave t c = let p = err_from_is_err_and c.from_residual-in_err-test.result c.from_residual-in_err-test.ensures.1 in rw p.1 tt

pub choice-returns-in_err-test-clause-shorter : goal.choice-returns-in_err-test-clause-shorter
choice-returns-in_err-test-clause-shorter t c = let p = err_from_is_err_and c.from_residual-in_err-test.result c.from_residual-in_err-test.ensures.1 in rw p.1 tt

pub combined-returns-in_err-left-clause-gave : goal.combined-returns-in_err-left-clause-gave
combined-returns-in_err-left-clause-gave t c = let p = err_from_is_err_and c.from_residual-in_err-left.result c.from_residual-in_err-left.ensures.1 in rw p.1 tt

pub combined-returns-in_err-left-clause-shorter : goal.combined-returns-in_err-left-clause-shorter
combined-returns-in_err-left-clause-shorter t c = let p = err_from_is_err_and c.from_residual-in_err-left.result c.from_residual-in_err-left.ensures.1 in rw p.1 tt

pub combined-returns-in_err-op-clause-gave : goal.combined-returns-in_err-op-clause-gave
combined-returns-in_err-op-clause-gave t c = let p = err_from_is_err_and c.from_residual.result c.from_residual.ensures.1 in rw p.1 tt

pub combined-returns-in_err-op-clause-shorter : goal.combined-returns-in_err-op-clause-shorter
combined-returns-in_err-op-clause-shorter t c = let p = err_from_is_err_and c.from_residual.result c.from_residual.ensures.1 in rw p.1 tt

pub denial-returns-in_err-at-clause-gave : goal.denial-returns-in_err-at-clause-gave
denial-returns-in_err-at-clause-gave t c = let p = err_from_is_err_and c.from_residual.result c.from_residual.ensures.1 in rw p.1 tt

pub denial-returns-in_err-at-clause-shorter : goal.denial-returns-in_err-at-clause-shorter
denial-returns-in_err-at-clause-shorter t c = let p = err_from_is_err_and c.from_residual.result c.from_residual.ensures.1 in rw p.1 tt

pub denial-returns-in_err-denied-clause-gave : goal.denial-returns-in_err-denied-clause-gave
denial-returns-in_err-denied-clause-gave t c = let p = err_from_is_err_and c.from_residual-in_err-denied.result c.from_residual-in_err-denied.ensures.1 in rw p.1 tt

pub denial-returns-in_err-denied-clause-shorter : goal.denial-returns-in_err-denied-clause-shorter
denial-returns-in_err-denied-clause-shorter t c = let p = err_from_is_err_and c.from_residual-in_err-denied.result c.from_residual-in_err-denied.ensures.1 in rw p.1 tt

pub denial-returns-in_err-new-clause-gave : goal.denial-returns-in_err-new-clause-gave
denial-returns-in_err-new-clause-gave t c = let p = err_from_is_err_and c.from_residual-in_err-new.result c.from_residual-in_err-new.ensures.1 in rw p.1 tt

pub denial-returns-in_err-new-clause-shorter : goal.denial-returns-in_err-new-clause-shorter
denial-returns-in_err-new-clause-shorter t c = let p = err_from_is_err_and c.from_residual-in_err-new.result c.from_residual-in_err-new.ensures.1 in rw p.1 tt

pub group-returns-in_err-at-clause-gave : goal.group-returns-in_err-at-clause-gave
group-returns-in_err-at-clause-gave t c = let p = err_from_is_err_and c.from_residual.result c.from_residual.ensures.1 in rw p.1 tt

pub group-returns-in_err-at-clause-shorter : goal.group-returns-in_err-at-clause-shorter
group-returns-in_err-at-clause-shorter t c = let p = err_from_is_err_and c.from_residual.result c.from_residual.ensures.1 in rw p.1 tt

pub group-returns-in_err-inside-clause-gave : goal.group-returns-in_err-inside-clause-gave
group-returns-in_err-inside-clause-gave t c = let p = err_from_is_err_and c.from_residual-in_err-inside.result c.from_residual-in_err-inside.ensures.1 in rw p.1 tt

pub group-returns-in_err-inside-clause-shorter : goal.group-returns-in_err-inside-clause-shorter
group-returns-in_err-inside-clause-shorter t c = let p = err_from_is_err_and c.from_residual-in_err-inside.result c.from_residual-in_err-inside.ensures.1 in rw p.1 tt

pub more_operands-returns-in_err-both-clause-gave : goal.more_operands-returns-in_err-both-clause-gave
more_operands-returns-in_err-both-clause-gave t c = let p = err_from_is_err_and c.from_residual.result c.from_residual.ensures.1 in rw p.1 tt

pub more_operands-returns-in_err-both-clause-shorter : goal.more_operands-returns-in_err-both-clause-shorter
more_operands-returns-in_err-both-clause-shorter t c = let p = err_from_is_err_and c.from_residual.result c.from_residual.ensures.1 in rw p.1 tt

pub named-returns-in_err-args-clause-gave : goal.named-returns-in_err-args-clause-gave
named-returns-in_err-args-clause-gave t c = let p = err_from_is_err_and c.from_residual-in_err-args.result c.from_residual-in_err-args.ensures.1 in rw p.1 tt

pub named-returns-in_err-args-clause-shorter : goal.named-returns-in_err-args-clause-shorter
named-returns-in_err-args-clause-shorter t c = let p = err_from_is_err_and c.from_residual-in_err-args.result c.from_residual-in_err-args.ensures.1 in rw p.1 tt

pub named-returns-in_err-name-clause-gave : goal.named-returns-in_err-name-clause-gave
named-returns-in_err-name-clause-gave t c = let p = err_from_is_err_and c.from_residual.result c.from_residual.ensures.1 in rw p.1 tt

pub named-returns-in_err-name-clause-shorter : goal.named-returns-in_err-name-clause-shorter
named-returns-in_err-name-clause-shorter t c = let p = err_from_is_err_and c.from_residual.result c.from_residual.ensures.1 in rw p.1 tt

pub negation-returns-in_err-at-clause-gave : goal.negation-returns-in_err-at-clause-gave
negation-returns-in_err-at-clause-gave t c = let p = err_from_is_err_and c.from_residual.result c.from_residual.ensures.1 in rw p.1 tt

pub negation-returns-in_err-at-clause-shorter : goal.negation-returns-in_err-at-clause-shorter
negation-returns-in_err-at-clause-shorter t c = let p = err_from_is_err_and c.from_residual.result c.from_residual.ensures.1 in rw p.1 tt

pub negation-returns-in_err-negated-clause-gave : goal.negation-returns-in_err-negated-clause-gave
negation-returns-in_err-negated-clause-gave t c = let p = err_from_is_err_and c.from_residual-in_err-negated.result c.from_residual-in_err-negated.ensures.1 in rw p.1 tt

pub negation-returns-in_err-negated-clause-shorter : goal.negation-returns-in_err-negated-clause-shorter
negation-returns-in_err-negated-clause-shorter t c = let p = err_from_is_err_and c.from_residual-in_err-negated.result c.from_residual-in_err-negated.ensures.1 in rw p.1 tt

pub negation-returns-in_err-new-clause-gave : goal.negation-returns-in_err-new-clause-gave
negation-returns-in_err-new-clause-gave t c = let p = err_from_is_err_and c.from_residual-in_err-new.result c.from_residual-in_err-new.ensures.1 in rw p.1 tt

pub negation-returns-in_err-new-clause-shorter : goal.negation-returns-in_err-new-clause-shorter
negation-returns-in_err-new-clause-shorter t c = let p = err_from_is_err_and c.from_residual-in_err-new.result c.from_residual-in_err-new.ensures.1 in rw p.1 tt

pub operands-returns-in_err-left-2-clause-gave : goal.operands-returns-in_err-left-2-clause-gave
operands-returns-in_err-left-2-clause-gave t c = let p = err_from_is_err_and c.from_residual-in_err-left-2.result c.from_residual-in_err-left-2.ensures.1 in rw p.1 tt

pub operands-returns-in_err-left-2-clause-shorter : goal.operands-returns-in_err-left-2-clause-shorter
operands-returns-in_err-left-2-clause-shorter t c = let p = err_from_is_err_and c.from_residual-in_err-left-2.result c.from_residual-in_err-left-2.ensures.1 in rw p.1 tt

pub operands-returns-in_err-left-clause-gave : goal.operands-returns-in_err-left-clause-gave
operands-returns-in_err-left-clause-gave t c = let p = err_from_is_err_and c.from_residual.result c.from_residual.ensures.1 in rw p.1 tt

pub operands-returns-in_err-left-clause-shorter : goal.operands-returns-in_err-left-clause-shorter
operands-returns-in_err-left-clause-shorter t c = let p = err_from_is_err_and c.from_residual.result c.from_residual.ensures.1 in rw p.1 tt
