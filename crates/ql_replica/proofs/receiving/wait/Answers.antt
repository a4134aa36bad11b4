use Rattle.std.proofs.Common.{ℕ, List, Some, ap, ◌∙◌}
use Rattle.slab.specs.Slab.{Slab, get}
use Rattle.ql_replica.specs.declared.waiting.Waiting.{Waiting}
use Rattle.ql_replica.specs.Progress.{moved}
use Rattle.ql_replica.proofs.ReceiptLaws.{wait-fits}
use Rattle.ql_replica.proofs.receiving.wait.Goals as goal

pub returns-clause-fits : goal.returns-clause-fits
returns-clause-fits c = λ x received after applied fits whole new ascending least.
    let pack = c.args.pack.now in
    let held = c.args.waiting.now in
    let slots = λ (k : ℕ). c.move_watches.ensures.slots k ∙ ap (λ (s : Slab Waiting). moved pack c.args.missing (get s k)) c.in_ok-reserve.ensures.rest_kept in
    wait-fits x received pack after applied (get held) (get c.move_watches.new.waiting) (get c.insert_reserved.new.self) c.args.missing c.insert_reserved.result fits whole new ascending least
    slots c.insert_reserved.ensures.was_vacant
    (c.insert_reserved.ensures.updates.changed ∙ ap (λ (p : List ℕ). Some (record { pack = p; watched = c.args.missing })) c.in_ok-copy.ensures) c.insert_reserved.ensures.updates.others
