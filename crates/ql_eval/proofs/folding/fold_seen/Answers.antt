use Rattle.std.proofs.Common.{map, ap, ◌∙◌}
use Rattle.std.proofs.lemmas.Result.{IfOk-weaker}
use Rattle.ql_exec.specs.Folding.{seen_in_order}
use Rattle.ql_typing.specs.Operations.{all_ops}
use Rattle.ql_eval.specs.Folds.{folded}
use Rattle.ql_eval.proofs.FoldSteps.{folded_emitting}
use Rattle.ql_eval.proofs.folding.fold_seen.Goals as goal

pub returns : goal.returns
returns c =
    let ops = all_ops c.args.t.now.program.types in
    let state = c.args.state in
    IfOk-weaker c.fold_all.result _ _
    (λ after is. is ∙ ap (λ es. folded ops state (map (λ e. e.now) es)) c.deref.ensures.value ∙ ap (folded ops state) c.in_ok-order.ensures ∙ folded_emitting ops state (seen_in_order c.args.execution.now c.args.seen.now))
    c.fold_all.ensures
