use Rattle.std.proofs.Common.{◌≡◌, ◌∙◌, None, Some, sym}
use Rattle.ql_exec.specs.Folding.{seen_in_order}
use Rattle.ql_typing.proofs.Parts.{none_indeed}
use Rattle.ql_eval.specs.Folds.{answered_of}
use Rattle.ql_eval.proofs.Answering.{answers_all}
use Rattle.ql_eval.proofs.folder.TypedFolderFolder.answer.Goals as goal

pub unreachable-requires : goal.unreachable-requires
unreachable-requires c =
    let p = c.args.self.now.typed.now.program in
    let effects = seen_in_order c.args.execution.now c.args.seen.now in
    let some = answers_all p (none_indeed _ c.args.self.now.typed.now.well_typed) c.args.op.0 c.args.args.now effects c.requires.able in
    let no : None ≡ Some (answered_of p.types c.args.op.0 c.args.args.now effects) = sym c.in-None.is ∙ c.in_ok-answered.ensures ∙ some in
    cc
