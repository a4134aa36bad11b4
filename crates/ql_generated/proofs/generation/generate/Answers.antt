use Rattle.std.proofs.lemmas.Result.{err_from_is_err_and}
use Rattle.ql_commands.proofs.SourceReplies.{bad_said}
use Rattle.ql_generated.specs.Schedules.{GenSays}
use Rattle.ql_generated.proofs.generation.generate.Goals as goal

pub returns-in-Err : goal.returns-in-Err
returns-in-Err c =
    bad_said (GenSays c.args.source.now c.args.number c.args.events) c.bad_source.result c.args.source.now c.in-Err.fault (λ text bad. bad) c.in-Err.ensures.fault c.in-Err.ensures.none c.bad_source.ensures.status c.bad_source.ensures.text

pub returns-in_err-print_schedule : goal.returns-in_err-print_schedule
returns-in_err-print_schedule c = let p = err_from_is_err_and c.from_residual-in_err-print_schedule.result c.from_residual-in_err-print_schedule.ensures.1 in rw p.1 tt

pub returns-in_err-schedule : goal.returns-in_err-schedule
returns-in_err-schedule c = let p = err_from_is_err_and c.from_residual.result c.from_residual.ensures.1 in rw p.1 tt
