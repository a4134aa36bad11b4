use Rattle.std.proofs.Common.{arith}
use Rattle.ql_explanation.proofs.StrongUses.{all_uses}
use Rattle.ql_explanation.proofs.uses.strong_uses.Goals as goal

pub returns : goal.returns
returns c = all_uses c.args.t.now.program c.args.d.0 c.loop-o.o c.loop-o.uses.items (omega arith) c.loop-o.invariant
