use Rattle.ql_typing.proofs.Parts.{none_indeed}
use Rattle.ql_eval.proofs.Answering.{answers_all, answers_fit}
use Rattle.ql_eval.proofs.folder.TypedFolder.new.Goals as goal

pub returns-clause-answers : goal.returns-clause-answers
returns-clause-answers c = answers_all c.args.typed.now.program (none_indeed _ c.args.typed.now.well_typed)

pub returns-clause-kinds : goal.returns-clause-kinds
returns-clause-kinds c = answers_fit c.args.typed.now.program (none_indeed _ c.args.typed.now.well_typed)
