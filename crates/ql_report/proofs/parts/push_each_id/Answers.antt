use Rattle.std.proofs.Common.{decimal}
use Rattle.ql_report.proofs.Printing.{more_behind, nothing_behind}
use Rattle.ql_report.proofs.parts.push_each_id.Goals as goal

pub loop-id-init : goal.loop-id-init
loop-id-init c = nothing_behind c.args.out.now.items

pub loop-id-preserved : goal.loop-id-preserved
loop-id-preserved c = rw (c.in_ok-push_decimal.ensures, c.loop-id.invariant) (more_behind decimal c.args.ids.now c.loop-id.id-index _ c.args.out.now.items c.loop-id-test.true)
