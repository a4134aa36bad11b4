use Rattle.std.proofs.Common.{ap, sym, subst, ◌∙◌}
use Rattle.ql_ranges.specs.Ranges.{ids_of}
use Rattle.slab.specs.Slab.{get}
use Rattle.ql_replica.specs.Waiting.{FitsReplica, Kept, held_by}
use Rattle.ql_replica.proofs.ReceiptLaws.{fits-moved, keeps-fitted}
use Rattle.ql_replica.proofs.replica.ReplicaHolder.receive.Goals as goal

pub receive_in-requires-clause-fits : goal.receive_in-requires-clause-fits
receive_in-requires-clause-fits c = subst (λ (s : Kept). FitsReplica (ids_of s.received) (ids_of s.applied) (held_by s.slots) c.args.x.now) (sym c.self.view_is) c.requires.fits

pub invariant_of-self : goal.invariant_of-self
invariant_of-self c = keeps-fitted (ids_of c.receive_in.new.received) (ids_of c.receive_in.new.applied) (get c.receive_in.new.waiting) c.args.x.now c.receive_in.ensures.fits

pub returns-clause-same : goal.returns-clause-same
returns-clause-same c = λ nothing.
    let old = c.self.inside in
    let new = c.receive_in.new in
    let received = c.receive_in.ensures.received nothing in
    let applied = c.receive_in.ensures.applied nothing in
    let waiting = c.receive_in.ensures.waiting nothing in (
      ap ids_of received ∙ ap (λ (s : Kept). ids_of s.received) c.self.view_is,
      λ y. (
        λ fits. fits-moved old.received old.applied new.received new.applied (get old.waiting) (get new.waiting) y received applied waiting
            (subst (λ (s : Kept). FitsReplica (ids_of s.received) (ids_of s.applied) (held_by s.slots) y) (sym c.self.view_is) fits),
        λ fits. subst (λ (s : Kept). FitsReplica (ids_of s.received) (ids_of s.applied) (held_by s.slots) y) c.self.view_is
            (fits-moved new.received new.applied old.received old.applied (get new.waiting) (get old.waiting) y (sym received) (sym applied) (λ key. sym (waiting key)) fits),
      ),
    )
