use Rattle.std.proofs.Common.{Some, ap, sym, ◌∙◌}
use Rattle.std.proofs.lemmas.Result.{IfOk-weaker}
use Rattle.ql_eval.specs.Folds.{begun}
use Rattle.ql_eval.proofs.SplitFolds.{fold_of_none}
use Rattle.ql_eval.proofs.resuming.first_state.Goals as goal

pub returns : goal.returns
returns c =
    IfOk-weaker c.begin.result _ _
    (λ state is. fold_of_none c.args.t.now.program.types c.args.kind.0 c.type_decl.result.now c.type_decl.ensures ∙ ap (λ fields. Some (begun fields)) (sym c.items.ensures) ∙ ap (λ s. Some s) (sym is))
    c.begin.ensures
