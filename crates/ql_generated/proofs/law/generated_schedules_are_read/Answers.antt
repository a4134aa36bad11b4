use Rattle.ql_gen.specs.Generated.{generated}
use Rattle.ql_generated.proofs.Rereading.{schedule-read}
use Rattle.ql_generated.proofs.law.generated_schedules_are_read.Goals as goal

pub returns-clause-read : goal.returns-clause-read
returns-clause-read c = schedule-read c.one_program_answer.ensures.tree c.printed_is_read_again.ensures

pub returns-clause-accepted : goal.returns-clause-accepted
returns-clause-accepted c = λ source text number events told few. (
  told.program,
  told.is_source,
  generated told.program number events,
  schedule-read c.one_program_answer.ensures.tree c.printed_is_read_again.ensures source text number events told.program told few told.is_source,
)
