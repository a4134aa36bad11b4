use Rattle.std.proofs.Common.{Err, ap, inr, refl}
use Rattle.ql_draw.specs.Words.{picture_asked_of}
use Rattle.ql_draw.proofs.Report.{one_answer, one_unread}
use Rattle.ql_draw.proofs.outcome.with_schedule.Goals as goal

pub returns-in-Ok-clause-says : goal.returns-in-Ok-clause-says
returns-in-Ok-clause-says g c =
    one_answer (g.S.Shelf.held c.args.shelf.now) (g.S.Shelf.faults c.args.shelf.now) (g.S.Shelf.faults c.read_whole.new.shelf) (picture_asked_of c.args.request) c.answer.result c.answer.ensures

pub returns-in-Err-clause-says : goal.returns-in-Err-clause-says
returns-in-Err-clause-says g c =
    one_unread (g.S.Shelf.held c.args.shelf.now) (g.S.Shelf.faults c.args.shelf.now) (g.S.Shelf.faults c.read_whole.new.shelf) (picture_asked_of c.args.request)
    c.args.name.now 1048576 (inr c.requires) (inr (c.requires, refl)) c.in-Err.error c.unread.result c.unread.ensures (λ is. c.in-Err.ensures.failed (ap Err is)) (λ is. c.in-Err.ensures.too_long (ap Err is))
