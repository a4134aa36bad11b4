use Rattle.std.proofs.lemmas.Result.{err_from_is_err_and}
use Rattle.std.proofs.Common.{List, sym, subst, ◌∙◌}
use Rattle.ql_eval.specs.Able.{IsAble}
use Rattle.ql_exec.specs.Folding.{seen_in_order}
use Rattle.ql_value.specs.declared.value.Value.{Value}
use Rattle.ql_slimming.proofs.Leaving.{are_on, is_able, is_covered}
use Rattle.ql_slimming.proofs.answers.push_line.Goals as goal

pub answer_with-requires-clause-covers : goal.answer_with-requires-clause-covers
answer_with-requires-clause-covers c =
    let l = c.args.left.now in
    is_covered l.t.now.program _ l.kinds.now l.replicas l.store.now.machine l.kept.now l.small.now c.requires.left c.args.o c.requires.object c.args.r c.requires.replica c.args.view.now c.requires.view

pub answer_with-requires-clause-on : goal.answer_with-requires-clause-on
answer_with-requires-clause-on c =
    let l = c.args.left.now in
    are_on l.t.now.program _ l.kinds.now l.replicas l.store.now.machine l.kept.now l.small.now c.requires.left c.args.o c.requires.object c.args.r c.requires.replica c.args.view.now c.requires.view

pub answer_with-requires-clause-able : goal.answer_with-requires-clause-able
answer_with-requires-clause-able c =
    let l = c.args.left.now in
    let types = l.t.now.program.types in
    subst (λ (args : List Value). IsAble types c.args.op.0 args (seen_in_order l.small.now c.args.view.now)) (sym (c.of-none.ensures ∙ c.new.ensures.items))
    (is_able l.t.now.program _ l.kinds.now l.replicas l.store.now.machine l.kept.now l.small.now c.requires.left c.args.o c.requires.object c.args.r c.requires.replica c.args.view.now c.requires.view c.args.op.0 c.requires.op c.requires.asked)

pub returns-in_err-given : goal.returns-in_err-given
returns-in_err-given c = let p = err_from_is_err_and c.from_residual.result c.from_residual.ensures.1 in rw p.1 tt
