use Rattle.std.proofs.Common.{List, sym, subst}
use Rattle.ql_ranges.specs.Ranges.{ids_of}
use Rattle.ql_ranges.specs.declared.ranges.IdRange.{IdRange}
use Rattle.slab.specs.Slab.{get}
use Rattle.ql_replica.specs.Waiting.{FitsReplica, KeepsWaiting, Kept, held_by}
use Rattle.ql_replica.proofs.ReceiptLaws.{fits-among, keeps-among}
use Rattle.ql_replica.proofs.replica.ReplicaHolder.copy.Goals as goal

pub invariant_of-result : goal.invariant_of-result
invariant_of-result c =
    let received = c.self.inside.received in
    let applied = c.self.inside.applied in
    let same = c.in_ok-copy_waiting.ensures in
    subst (λ (l : List IdRange). KeepsWaiting (ids_of l) (ids_of c.in_ok-copy-2.field-0) (get c.in_ok-copy_waiting.field-0)) (sym c.in_ok-copy.ensures.same)
    (subst (λ (l : List IdRange). KeepsWaiting (ids_of received) (ids_of l) (get c.in_ok-copy_waiting.field-0)) (sym c.in_ok-copy-2.ensures.same)
    (keeps-among (ids_of received) (ids_of applied) (get c.self.inside.waiting) (get c.in_ok-copy_waiting.field-0) (same.1, same.0) c.self.invariant))

pub returns-clause-fits : goal.returns-clause-fits
returns-clause-fits c = λ x.
    let received = c.self.inside.received in
    let applied = c.self.inside.applied in
    let held = get c.self.inside.waiting in
    let copied = get c.in_ok-copy_waiting.field-0 in
    let same = c.in_ok-copy_waiting.ensures in (
      λ fits. subst (λ (s : Kept). FitsReplica (ids_of s.received) (ids_of s.applied) (held_by s.slots) x) c.self.view_is
          (fits-among (ids_of received) (ids_of applied) copied held x same
          (subst (λ (l : List IdRange). FitsReplica (ids_of l) (ids_of applied) copied x) c.in_ok-copy.ensures.same
          (subst (λ (l : List IdRange). FitsReplica (ids_of c.in_ok-copy.field-0) (ids_of l) copied x) c.in_ok-copy-2.ensures.same fits))),
      λ fits. subst (λ (l : List IdRange). FitsReplica (ids_of l) (ids_of c.in_ok-copy-2.field-0) copied x) (sym c.in_ok-copy.ensures.same)
          (subst (λ (l : List IdRange). FitsReplica (ids_of received) (ids_of l) copied x) (sym c.in_ok-copy-2.ensures.same)
          (fits-among (ids_of received) (ids_of applied) held copied x (same.1, same.0)
          (subst (λ (s : Kept). FitsReplica (ids_of s.received) (ids_of s.applied) (held_by s.slots) x) (sym c.self.view_is) fits))),
    )
