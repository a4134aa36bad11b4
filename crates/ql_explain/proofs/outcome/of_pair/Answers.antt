use Rattle.std.proofs.Common.{Err, ap, arith, inl, refl}
use Rattle.ql_explain.specs.Words.{Compared}
use Rattle.ql_explain.proofs.Report.{one_unread, said_sooner, still_whole}
use Rattle.ql_explain.proofs.outcome.of_pair.Goals as goal

pub with_baseline-requires-clause-held : goal.with_baseline-requires-clause-held
with_baseline-requires-clause-held g c =
    let file = c.args.pair.baseline.now in
    still_whole (g.S.Shelf.held c.args.shelf.now file) (g.S.Shelf.held c.read_whole.new.shelf file) c.in-Ok.baseline.items (c.in-Ok.ensures.same_contents file) c.in-Ok.ensures.whole

pub with_baseline-requires-clause-short : goal.with_baseline-requires-clause-short
with_baseline-requires-clause-short g c = omega (arith, c.in-Ok.baseline.ok.0, c.in-Ok.ensures.in_limit)

pub returns-in-Ok-clause-says : goal.returns-in-Ok-clause-says
returns-in-Ok-clause-says g c =
    said_sooner (g.S.Shelf.held c.args.shelf.now) (g.S.Shelf.held c.read_whole.new.shelf) (g.S.Shelf.faults c.args.shelf.now) (g.S.Shelf.faults c.read_whole.new.shelf)
    (g.S.Shelf.faults c.with_baseline.new.shelf) c.args.pair.baseline.now c.args.pair.source.now c.in-Ok.ensures.same_contents c.in-Ok.ensures.counts_stay c.with_baseline.result c.with_baseline.ensures.says

pub returns-in-Err-clause-says : goal.returns-in-Err-clause-says
returns-in-Err-clause-says g c =
    one_unread (g.S.Shelf.held c.args.shelf.now) (g.S.Shelf.faults c.args.shelf.now) (g.S.Shelf.faults c.read_whole.new.shelf) (Compared c.args.pair.baseline.now c.args.pair.source.now) c.args.pair.baseline.now (inl refl)
    c.in-Err.error c.without_file.result c.without_file.ensures (λ is. c.in-Err.ensures.failed (ap Err is)) (λ is. c.in-Err.ensures.too_long (ap Err is))
