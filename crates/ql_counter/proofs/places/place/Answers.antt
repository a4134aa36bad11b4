use Rattle.std.proofs.Common.{sym, ◌∙◌, arith}
use Rattle.ql_counter.proofs.Made.{place-found, place-none}
use Rattle.ql_counter.proofs.places.place.Goals as goal

pub returns-then-is_own : goal.returns-then-is_own
returns-then-is_own c =
    let less = c.loop-k-test.true in
    place-found c.args.slots.now _ c.class-leader.result _ c.loop-k.k c.class-leader.ensures.value (omega (arith, less)) (sym c.is_own.ensures ∙ c.if-is_own.true) c.loop-k.invariant

pub returns : goal.returns
returns c =
    let less = c.loop-k-test.false in
    place-none c.args.slots.now c.class-leader.result _ c.loop-k.k c.class-leader.ensures.value (omega (arith, less)) c.loop-k.invariant
