use Rattle.std.proofs.Common.{Err, ap, arith, refl}
use Rattle.ql_explain.specs.Words.{Explained}
use Rattle.ql_explain.proofs.Report.{one_unread, source_said}
use Rattle.ql_explain.proofs.outcome.of_source.Goals as goal

pub returns-in_ok-answer-in-Ok-clause-says : goal.returns-in_ok-answer-in-Ok-clause-says
returns-in_ok-answer-in-Ok-clause-says g c =
    let reply = c.in_ok-answer-in-Ok.field-0 in
    source_said (g.S.Shelf.held c.args.shelf.now) (g.S.Shelf.faults c.args.shelf.now) (g.S.Shelf.faults c.read_whole.new.shelf) c.args.form c.args.name.now c.in-Ok.first.items c.deref.result.now
    c.deref.ensures.value c.in-Ok.ensures.whole (omega (arith, c.in-Ok.first.ok.0, c.in-Ok.ensures.in_limit)) reply.status reply.text.items c.in_ok-answer-in-Ok.ensures

pub returns-in-Err-clause-says : goal.returns-in-Err-clause-says
returns-in-Err-clause-says g c =
    one_unread (g.S.Shelf.held c.args.shelf.now) (g.S.Shelf.faults c.args.shelf.now) (g.S.Shelf.faults c.read_whole.new.shelf) (Explained c.args.form c.args.name.now) c.args.name.now refl
    c.in-Err.error c.without_file.result c.without_file.ensures (λ is. c.in-Err.ensures.failed (ap Err is)) (λ is. c.in-Err.ensures.too_long (ap Err is))
