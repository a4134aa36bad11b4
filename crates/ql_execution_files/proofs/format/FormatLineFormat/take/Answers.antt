use Rattle.std.proofs.Common.{Ok, sym, subst}
use Rattle.ql_execution_files.specs.declared.format.ExecutionReading.{ExecutionReading}
use Rattle.ql_execution_files.specs.ExecutionFile.{ExtendsExecution}
use Rattle.ql_execution_files.proofs.format.FormatLineFormat.take.Goals as goal

pub returns-in-Unbegun : goal.returns-in-Unbegun
returns-in-Unbegun c =
    let p = c.args.self.now.t.now.program in
    subst (λ (r : ExecutionReading). ExtendsExecution p r c.args.text.now (Ok c.any_line.result)) (sym c.in-Unbegun.is) (c.any_line.ensures p)
