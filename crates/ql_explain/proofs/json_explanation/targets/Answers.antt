use Rattle.std.proofs.Common.{arith}
use Rattle.ql_explain.proofs.Targets.{all_of_them, one_more}
use Rattle.ql_explain.proofs.json_explanation.targets.Goals as goal

pub target-requires-clause-finding : goal.target-requires-clause-finding
target-requires-clause-finding c = (c.loop-k.k, c.requires.each c.loop-k.k c.finding_at.result.now c.finding_at.ensures)

pub loop-k-preserved : goal.loop-k-preserved
loop-k-preserved c =
    one_more c.args.lexed.now c.args.t.now.program c.args.findings.now c.loop-k.k c.finding_at.result.now c.loop-k.list.items _ _ c.finding_at.ensures c.in_ok-push.ensures.items c.in_ok-target.ensures c.loop-k.invariant

pub returns : goal.returns
returns c = all_of_them c.args.lexed.now c.args.t.now.program c.args.findings.now c.loop-k.k c.loop-k.list.items (omega arith) c.loop-k.invariant
