use Rattle.ql_running.specs.declared.form.Form.TheVariants.{Json}
use Rattle.ql_claim.proofs.RunWritten.{writes-run}
use Rattle.ql_claim.proofs.written.json_runs_are_read_again.Goals as goal

pub returns : goal.returns
returns c = λ limits words held before after was is faults sums wrote name other source file start are name_held other_held begun.
    (let shown = writes-run limits words held before after was is faults sums wrote Json name other source file start are name_held other_held begun in
    (shown.0, shown.1, shown.2, shown.2.prints.printed.again))
