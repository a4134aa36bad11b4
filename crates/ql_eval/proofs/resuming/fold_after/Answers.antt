use Rattle.std.proofs.Common.{◌≡◌, None, Some, sym, ◌∙◌}
use Rattle.ql_exec.specs.Folding.{seen_in_order}
use Rattle.ql_typing.proofs.Parts.{none_indeed}
use Rattle.ql_eval.proofs.SplitFolds.{fold_of_more, goes_on}
use Rattle.ql_eval.proofs.resuming.fold_after.Goals as goal

pub unreachable-requires : goal.unreachable-requires
unreachable-requires c =
    let t = c.args.t.now in
    let on = goes_on t.program (none_indeed _ t.well_typed) c.args.kind.0 c.args.state (seen_in_order c.args.execution.now c.args.ids.now) c.requires.reached c.requires.own in
    let no : None ≡ Some on.0 = sym c.in-None.is ∙ c.in_ok-after.ensures ∙ on.1 in
    cc

pub returns : goal.returns
returns c = λ before reached.
    fold_of_more c.args.t.now.program.types c.args.kind.0 before (seen_in_order c.args.execution.now c.args.ids.now) c.args.state reached ∙ sym c.in_ok-after.ensures ∙ c.in-Some.is
