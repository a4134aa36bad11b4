use Rattle.ql_verdicts.proofs.Judgements.{run-judged}
use Rattle.ql_verdicts.proofs.law.printed_runs_hold.Goals as goal

pub returns : goal.returns
returns c = λ source schedule text said judged reported says.
    run-judged c.one_program_answer.ensures.tree c.printed_runs_are_read_again.ensures
    source schedule text said judged reported (c.runs_can_be_printed.ensures source schedule text reported) says
