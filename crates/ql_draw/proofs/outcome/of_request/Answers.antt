use Rattle.std.proofs.Common.{Err, ap, inl, refl}
use Rattle.ql_draw.specs.Words.{picture_asked_of}
use Rattle.ql_draw.proofs.Report.{one_unread, said_sooner}
use Rattle.ql_draw.proofs.outcome.of_request.Goals as goal

pub returns-in-Ok-clause-says : goal.returns-in-Ok-clause-says
returns-in-Ok-clause-says g c =
    said_sooner (g.S.Shelf.held c.args.shelf.now) (g.S.Shelf.held c.read_whole.new.shelf) (g.S.Shelf.faults c.args.shelf.now) (g.S.Shelf.faults c.read_whole.new.shelf)
    (g.S.Shelf.faults c.of_run.new.shelf) (picture_asked_of c.args.request) c.of_run.result c.in-Ok.ensures.same_contents c.in-Ok.ensures.counts_stay c.of_run.ensures.says

pub returns-in-Err-clause-says : goal.returns-in-Err-clause-says
returns-in-Err-clause-says g c =
    one_unread (g.S.Shelf.held c.args.shelf.now) (g.S.Shelf.faults c.args.shelf.now) (g.S.Shelf.faults c.read_whole.new.shelf) (picture_asked_of c.args.request)
    c.args.request.file.now 67108864 (inl refl) (inl (refl, refl)) c.in-Err.error c.unread.result c.unread.ensures (λ is. c.in-Err.ensures.failed (ap Err is)) (λ is. c.in-Err.ensures.too_long (ap Err is))
