use Rattle.ql_report.specs.Levels.{op_line}
use Rattle.ql_report.proofs.Loops.{none_yet, one_more}
use Rattle.ql_report.proofs.levels.push_ops.Goals as goal

pub loop-o-init : goal.loop-o-init
loop-o-init c = none_yet c.args.out.now.items (op_line c.args.t.now.program c.args.l.now)

pub loop-o-preserved : goal.loop-o-preserved
loop-o-preserved c = rw (c.in_ok-push_op.ensures, c.loop-o.invariant) (one_more c.args.out.now.items c.loop-o.o (op_line c.args.t.now.program c.args.l.now))
