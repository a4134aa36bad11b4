use Rattle.std.proofs.Common.{Err, ap, arith, inr, refl}
use Rattle.ql_explain.specs.Words.{Compared}
use Rattle.ql_explain.proofs.Report.{one_unread, pair_said}
use Rattle.ql_explain.proofs.outcome.with_baseline.Goals as goal

pub returns-in_ok-compare-in-Ok-clause-says : goal.returns-in_ok-compare-in-Ok-clause-says
returns-in_ok-compare-in-Ok-clause-says g c =
    let reply = c.in_ok-compare-in-Ok.field-0 in
    pair_said (g.S.Shelf.held c.args.shelf.now) (g.S.Shelf.faults c.args.shelf.now) (g.S.Shelf.faults c.read_whole.new.shelf) c.args.pair.baseline.now c.args.pair.source.now c.args.baseline.items c.in-Ok.source.items c.deref.result.now
    c.deref.ensures.value c.requires.held c.requires.short c.in-Ok.ensures.whole (omega (arith, c.in-Ok.source.ok.0, c.in-Ok.ensures.in_limit)) reply.status reply.text.items (rw c.deref-in-Ok.ensures.value at c.in_ok-compare-in-Ok.ensures)

pub returns-in-Err-clause-says : goal.returns-in-Err-clause-says
returns-in-Err-clause-says g c =
    one_unread (g.S.Shelf.held c.args.shelf.now) (g.S.Shelf.faults c.args.shelf.now) (g.S.Shelf.faults c.read_whole.new.shelf) (Compared c.args.pair.baseline.now c.args.pair.source.now) c.args.pair.source.now (inr refl)
    c.in-Err.error c.without_file.result c.without_file.ensures (λ is. c.in-Err.ensures.failed (ap Err is)) (λ is. c.in-Err.ensures.too_long (ap Err is))
