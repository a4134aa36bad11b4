use Rattle.std.proofs.Common.{◌≡◌, ap, sym, ◌∙◌}
use Rattle.ql_base.specs.IdLists.{has_id}
use Rattle.ql_ranges.specs.Ranges.{ids_of}
use Rattle.ql_replica.specs.Waiting.{Kept, held_by}
use Rattle.ql_replica.proofs.ReceiptLaws.{applied-exact}
use Rattle.ql_replica.proofs.replica.ReplicaHolder.applied.Goals as goal

pub returns : goal.returns
returns c = λ x fits.
    let e = c.args.e.0 in
    let now = c.args.self.now in
    let same : c.has.result ≡ has_id (ids_of now.applied) e = c.has.ensures ∙ ap (λ (s : Kept). has_id (ids_of s.applied) e) c.self.view_is in
    (λ is. fits.closed e (sym same ∙ is), λ closed. same ∙ applied-exact (ids_of now.received) (ids_of now.applied) (held_by now.slots) x fits e closed)
