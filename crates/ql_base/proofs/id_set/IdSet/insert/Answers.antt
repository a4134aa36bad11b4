use Rattle.ql_base.proofs.IdLemmas.{IsAscending-with_id}
use Rattle.ql_base.proofs.id_set.IdSet.insert.Goals as goal

pub invariant_of-self-in-Err : goal.invariant_of-self-in-Err
invariant_of-self-in-Err c =
    rw (c.in_ok-insert-in-Err.ensures.items, ← c.deref.ensures.value, ← c.in-Err.ensures.absent.2, c.deref.ensures.value)
    (IsAscending-with_id _ _ c.self.invariant)
