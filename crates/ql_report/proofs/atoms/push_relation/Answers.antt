use Rattle.std.proofs.lemmas.Result.{err_from_is_err_and}
use Rattle.ql_report.specs.Atoms.{row_text}
use Rattle.ql_report.specs.Report.{reported_of}
use Rattle.ql_report.proofs.Loops.{none_yet, one_more}
use Rattle.ql_report.proofs.atoms.push_relation.Goals as goal

pub loop-i-init : goal.loop-i-init
loop-i-init c = none_yet c.args.out.now.items (row_text (reported_of c.args.reported.now) c.args.kind)

pub loop-i-preserved : goal.loop-i-preserved
loop-i-preserved c = rw (c.in_ok-push_row.ensures, c.loop-i.invariant) (one_more c.args.out.now.items c.loop-i.i (row_text (reported_of c.args.reported.now) c.args.kind))

pub returns-in_err-push_row : goal.returns-in_err-push_row
returns-in_err-push_row c = let p = err_from_is_err_and c.from_residual.result c.from_residual.ensures.1 in rw p.1 tt
