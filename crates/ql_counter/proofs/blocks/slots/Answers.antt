use Rattle.std.proofs.Common.{ap, arith, length}
use Rattle.ql_base.specs.Ranges.{upto}
use Rattle.ql_counter.specs.Blocks.{ranked_slots}
use Rattle.ql_counter.specs.Coded.{said}
use Rattle.ql_counter.proofs.Arranging.{slots-short}
use Rattle.ql_counter.proofs.Growing.{upto_more}
use Rattle.ql_counter.proofs.Made.{slots-done, blocks-within}
use Rattle.ql_counter.proofs.blocks.slots.Goals as goal

pub loop-rank-preserved : goal.loop-rank-preserved
loop-rank-preserved c =
    upto_more (λ r. upto c.args.s.constants (ranked_slots (said c.args.a.now c.args.s) c.args.extra r)) c.loop-rank.slots.items c.push_ranked.new.slots.items c.loop-rank.rank
    c.loop-rank.invariant c.in_ok-push_ranked.ensures

pub returns-clause-slots : goal.returns-clause-slots
returns-clause-slots c = slots-done (said c.args.a.now c.args.s) c.args.extra c.loop-rank.slots.items c.loop-rank.rank (omega arith) c.loop-rank.invariant

pub returns-clause-blocks : goal.returns-clause-blocks
returns-clause-blocks c =
    blocks-within (said c.args.a.now c.args.s) c.args.extra c.loop-rank.slots.items (slots-done (said c.args.a.now c.args.s) c.args.extra c.loop-rank.slots.items c.loop-rank.rank (omega arith) c.loop-rank.invariant)

pub returns-clause-few : goal.returns-clause-few
returns-clause-few c =
    let same = ap length (slots-done (said c.args.a.now c.args.s) c.args.extra c.loop-rank.slots.items c.loop-rank.rank (omega arith) c.loop-rank.invariant) in
    let short = slots-short (said c.args.a.now c.args.s) c.args.extra in
    let few = c.args.s.few_constants in
    omega (arith, same, short, few)
