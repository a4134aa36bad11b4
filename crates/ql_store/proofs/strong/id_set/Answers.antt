use Rattle.std.proofs.Common.{add-one}
use Rattle.ql_shim.proofs.JoinedLaws.{those-more}
use Rattle.ql_store.proofs.strong.id_set.Goals as goal

pub loop-id-preserved : goal.loop-id-preserved
loop-id-preserved c = rw (c.in_ok-insert.ensures.added, add-one) (those-more c.args.ids.now (λ a. Unit {0}) c.loop-id.id-index c.loop-id.set c.loop-id-test.true tt c.loop-id.invariant)
