use Rattle.std.proofs.lemmas.Result.{err_from_is_err_and}
use Rattle.ql_report.specs.Levels.{txn_line}
use Rattle.ql_report.proofs.Loops.{none_yet, one_more}
use Rattle.ql_report.proofs.levels.push_txns.Goals as goal

pub loop-d-init : goal.loop-d-init
loop-d-init c = none_yet c.args.out.now.items (txn_line c.args.t.now.program c.args.l.now)

pub loop-d-preserved : goal.loop-d-preserved
loop-d-preserved c = rw (c.in_ok-push_txn.ensures, c.loop-d.invariant) (one_more c.args.out.now.items c.loop-d.d (txn_line c.args.t.now.program c.args.l.now))

pub returns-in_err-push_txn : goal.returns-in_err-push_txn
returns-in_err-push_txn c = let p = err_from_is_err_and c.from_residual.result c.from_residual.ensures.1 in rw p.1 tt
