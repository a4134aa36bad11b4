use Rattle.ql_commands.proofs.Faults.{denies}
use Rattle.ql_commands.proofs.source.faults_deny_sources.Goals as goal

pub returns : goal.returns
returns c = denies c.one_program_answer.ensures.tree c.one_program_answer.ensures.apart c.one_program_answer.ensures.no_lexical
