use Rattle.std.proofs.lemmas.Result.{err_from_is_err_and}
use Rattle.std.proofs.Common.{Err, ap, arith}
use Rattle.ql_app.proofs.OutcomeLaws.{one, one_unread}
use Rattle.ql_app.proofs.outcome.of_file.Goals as goal

pub returns-in_ok-answer_command-in-Ok-clause-says : goal.returns-in_ok-answer_command-in-Ok-clause-says
returns-in_ok-answer_command-in-Ok-clause-says g c =
    let reply = c.in_ok-answer_command-in-Ok.field-0 in
    one c.args.limits (g.S.Shelf.held c.args.shelf.now) (g.S.Shelf.faults c.args.shelf.now) (g.S.Shelf.faults c.read_whole.new.shelf)
    c.args.command c.args.name.now c.in-Ok.first.items reply.status reply.text.items c.in-Ok.ensures.whole (omega (arith, c.in-Ok.first.ok.0, c.in-Ok.ensures.in_limit)) (rw c.as_slice.ensures.value at c.in_ok-answer_command-in-Ok.ensures)

pub returns-in-Err-clause-says : goal.returns-in-Err-clause-says
returns-in-Err-clause-says g c =
    one_unread c.args.limits (g.S.Shelf.held c.args.shelf.now) (g.S.Shelf.faults c.args.shelf.now) (g.S.Shelf.faults c.read_whole.new.shelf)
    c.args.command c.args.name.now c.in-Err.error c.without_file.result c.without_file.ensures (λ is. c.in-Err.ensures.failed (ap Err is)) (λ is. c.in-Err.ensures.too_long (ap Err is))

pub returns-in_err-answer_command-in-Ok-clause-lacking : goal.returns-in_err-answer_command-in-Ok-clause-lacking
returns-in_err-answer_command-in-Ok-clause-lacking g c = let p = err_from_is_err_and c.from_residual.result c.from_residual.ensures.1 in rw p.1 tt

pub returns-in_err-answer_command-in-Ok-clause-says : goal.returns-in_err-answer_command-in-Ok-clause-says
returns-in_err-answer_command-in-Ok-clause-says g c = let p = err_from_is_err_and c.from_residual.result c.from_residual.ensures.1 in rw p.1 tt
