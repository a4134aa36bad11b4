use Rattle.std.proofs.lemmas.Result.{err_from_is_err_and}
use Rattle.std.proofs.Common.{inr, subst, sym}
use Rattle.ql_running.specs.Runs.{NoRunSays}
use Rattle.ql_running.proofs.Saying.{schedule_is_bad}
use Rattle.ql_running.proofs.input.read_run_input.Goals as goal

pub returns-in-Err-parse_schedule-clause-refused : goal.returns-in-Err-parse_schedule-clause-refused
returns-in-Err-parse_schedule-clause-refused c =
    let said = c.in_ok-bad_schedule-in-Err-parse_schedule.ensures in
    let reply = c.in_ok-bad_schedule-in-Err-parse_schedule.field-0 in
    subst (λ s. NoRunSays c.args.source.now c.args.schedule.now s reply.text.items) (sym said.status)
    (inr (schedule_is_bad c.one_program_answer.ensures.tree c.one_schedule.ensures.apart c.args.source.now c.args.schedule.now c.in-Ok.typed.program c.in-Err-parse_schedule.fault reply.text.items
    c.in-Ok.ensures.source c.in-Err-parse_schedule.ensures.read said.text))

pub returns-in_err-bad_schedule-in-Err-parse_schedule-clause-guarantees : goal.returns-in_err-bad_schedule-in-Err-parse_schedule-clause-guarantees
returns-in_err-bad_schedule-in-Err-parse_schedule-clause-guarantees c = let p = err_from_is_err_and c.from_residual-in_err-bad_schedule-in-Err-parse_schedule.result c.from_residual-in_err-bad_schedule-in-Err-parse_schedule.ensures.1 in rw p.1 tt

pub returns-in_err-bad_schedule-in-Err-parse_schedule-clause-levels : goal.returns-in_err-bad_schedule-in-Err-parse_schedule-clause-levels
returns-in_err-bad_schedule-in-Err-parse_schedule-clause-levels c = let p = err_from_is_err_and c.from_residual-in_err-bad_schedule-in-Err-parse_schedule.result c.from_residual-in_err-bad_schedule-in-Err-parse_schedule.ensures.1 in rw p.1 tt

pub returns-in_err-bad_schedule-in-Err-parse_schedule-clause-refused : goal.returns-in_err-bad_schedule-in-Err-parse_schedule-clause-refused
returns-in_err-bad_schedule-in-Err-parse_schedule-clause-refused c = let p = err_from_is_err_and c.from_residual-in_err-bad_schedule-in-Err-parse_schedule.result c.from_residual-in_err-bad_schedule-in-Err-parse_schedule.ensures.1 in rw p.1 tt

pub returns-in_err-bad_schedule-in-Err-parse_schedule-clause-schedule : goal.returns-in_err-bad_schedule-in-Err-parse_schedule-clause-schedule
returns-in_err-bad_schedule-in-Err-parse_schedule-clause-schedule c = let p = err_from_is_err_and c.from_residual-in_err-bad_schedule-in-Err-parse_schedule.result c.from_residual-in_err-bad_schedule-in-Err-parse_schedule.ensures.1 in rw p.1 tt

pub returns-in_err-bad_schedule-in-Err-parse_schedule-clause-source : goal.returns-in_err-bad_schedule-in-Err-parse_schedule-clause-source
returns-in_err-bad_schedule-in-Err-parse_schedule-clause-source c = let p = err_from_is_err_and c.from_residual-in_err-bad_schedule-in-Err-parse_schedule.result c.from_residual-in_err-bad_schedule-in-Err-parse_schedule.ensures.1 in rw p.1 tt

pub returns-in_err-bad_source-in-Err-clause-guarantees : goal.returns-in_err-bad_source-in-Err-clause-guarantees
returns-in_err-bad_source-in-Err-clause-guarantees c = let p = err_from_is_err_and c.from_residual.result c.from_residual.ensures.1 in rw p.1 tt

pub returns-in_err-bad_source-in-Err-clause-levels : goal.returns-in_err-bad_source-in-Err-clause-levels
returns-in_err-bad_source-in-Err-clause-levels c = let p = err_from_is_err_and c.from_residual.result c.from_residual.ensures.1 in rw p.1 tt

pub returns-in_err-bad_source-in-Err-clause-refused : goal.returns-in_err-bad_source-in-Err-clause-refused
returns-in_err-bad_source-in-Err-clause-refused c = let p = err_from_is_err_and c.from_residual.result c.from_residual.ensures.1 in rw p.1 tt

pub returns-in_err-bad_source-in-Err-clause-schedule : goal.returns-in_err-bad_source-in-Err-clause-schedule
returns-in_err-bad_source-in-Err-clause-schedule c = let p = err_from_is_err_and c.from_residual.result c.from_residual.ensures.1 in rw p.1 tt

pub returns-in_err-bad_source-in-Err-clause-source : goal.returns-in_err-bad_source-in-Err-clause-source
returns-in_err-bad_source-in-Err-clause-source c = let p = err_from_is_err_and c.from_residual.result c.from_residual.ensures.1 in rw p.1 tt

pub returns-in_err-levels-clause-guarantees : goal.returns-in_err-levels-clause-guarantees
returns-in_err-levels-clause-guarantees c = let p = err_from_is_err_and c.from_residual-in_err-levels.result c.from_residual-in_err-levels.ensures.1 in rw p.1 tt

pub returns-in_err-levels-clause-levels : goal.returns-in_err-levels-clause-levels
returns-in_err-levels-clause-levels c = let p = err_from_is_err_and c.from_residual-in_err-levels.result c.from_residual-in_err-levels.ensures.1 in rw p.1 tt

pub returns-in_err-levels-clause-refused : goal.returns-in_err-levels-clause-refused
returns-in_err-levels-clause-refused c = let p = err_from_is_err_and c.from_residual-in_err-levels.result c.from_residual-in_err-levels.ensures.1 in rw p.1 tt

pub returns-in_err-levels-clause-schedule : goal.returns-in_err-levels-clause-schedule
returns-in_err-levels-clause-schedule c = let p = err_from_is_err_and c.from_residual-in_err-levels.result c.from_residual-in_err-levels.ensures.1 in rw p.1 tt

pub returns-in_err-levels-clause-source : goal.returns-in_err-levels-clause-source
returns-in_err-levels-clause-source c = let p = err_from_is_err_and c.from_residual-in_err-levels.result c.from_residual-in_err-levels.ensures.1 in rw p.1 tt
