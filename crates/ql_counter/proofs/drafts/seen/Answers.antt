use Rattle.std.proofs.Common.{arith}
use Rattle.ql_counter.specs.Built.{sees}
use Rattle.ql_counter.specs.Coded.{said}
use Rattle.ql_counter.proofs.Made.{seen-more}
use Rattle.ql_counter.proofs.drafts.seen.Goals as goal

pub loop-k-preserved : goal.loop-k-preserved
loop-k-preserved c =
    let less = c.loop-k-test.true in
    seen-more (λ u. sees (said c.args.a.now c.args.s) u c.args.t) c.args.slots.now _ c.loop-k.k c.is_seen.result c.loop-k.ids c.put_if.new.ids (omega (arith, less)) c.is_seen.ensures c.loop-k.invariant c.in_ok-put_if.ensures
