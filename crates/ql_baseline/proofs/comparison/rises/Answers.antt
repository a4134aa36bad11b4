use Rattle.ql_baseline.specs.Comparison.{rise_of}
use Rattle.ql_baseline.proofs.Joining.{one_more}
use Rattle.ql_baseline.proofs.comparison.rises.Goals as goal

pub loop-k-preserved : goal.loop-k-preserved
loop-k-preserved c =
    one_more (rise_of c.args.t.now.program c.args.stored.now) c.args.findings.now c.loop-k.k c.finding_at.result.now c.loop-k.text.items c.push_rise_of.new.out.items c.finding_at.ensures c.loop-k.invariant c.in_ok-push_rise_of.ensures
