use Rattle.std.proofs.lemmas.Result.{err_from_is_err_and}
use Rattle.std.proofs.Common.{ap, arith, length}
use Rattle.ql_counter.specs.Coded.{said}
use Rattle.ql_counter.proofs.Made.{places-few}
use Rattle.ql_counter.proofs.places.places.Goals as goal

pub of-requires : goal.of-requires
of-requires c =
    let few = c.requires.places in
    let long = places-few (said c.args.a.now c.args.s) c.args.slots.now c.loop-c.c c.loop-c.ids.items c.loop-c.invariant in
    let same = ap length c.deref.ensures.value in
    omega (arith, few, long, same)

pub returns-in_err-ids : goal.returns-in_err-ids
returns-in_err-ids c = let p = err_from_is_err_and c.from_residual.result c.from_residual.ensures.1 in rw p.1 tt

pub returns-in_err-push : goal.returns-in_err-push
returns-in_err-push c = let p = err_from_is_err_and c.from_residual-in_err-push.result c.from_residual-in_err-push.ensures.1 in rw p.1 tt
