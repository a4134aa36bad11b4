use Rattle.ql_base.proofs.IdLemmas.{IsAscending-union}
use Rattle.ql_base.proofs.id_set.IdSet.union.Goals as goal

pub invariant_of-result : goal.invariant_of-result
invariant_of-result c = rw c.in_ok-ids.ensures (IsAscending-union c.deref.result.now c.deref-2.result.now (rw c.deref-2.ensures.value c.other.invariant))
