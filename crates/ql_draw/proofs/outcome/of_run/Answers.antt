use Rattle.ql_draw.specs.Words.{picture_asked_of}
use Rattle.ql_draw.proofs.Report.{one_answer}
use Rattle.ql_draw.proofs.outcome.of_run.Goals as goal

pub returns-in-None-clause-says : goal.returns-in-None-clause-says
returns-in-None-clause-says g c =
    one_answer (g.S.Shelf.held c.args.shelf.now) (g.S.Shelf.faults c.args.shelf.now) (g.S.Shelf.faults c.args.shelf.now) (picture_asked_of c.args.request) c.answer.result c.answer.ensures
