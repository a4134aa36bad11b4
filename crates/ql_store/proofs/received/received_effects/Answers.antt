use Rattle.ql_store.proofs.ReceivedLaws.{one-more, no-more}
use Rattle.ql_store.proofs.received.received_effects.Goals as goal
use Rattle.ql_store.proofs.received.received_effects.Goals.{then-has+in_ok-insert, else-has}
use Rattle.std.proofs.Common.{sym, ◌∙◌}

pub loop-k-preserved : goal.loop-k-preserved
loop-k-preserved g c =
    elim c.if-has.branch [
      | then-has+in_ok-insert w ↦ rw w.ids-is (one-more (g.H.Holder.received c.args.holder.now) c.loop-k.k c.loop-k.ids w.insert.new.self (sym c.has.ensures ∙ w.if-has.true) w.in_ok-insert.ensures.added c.loop-k.invariant)
      | else-has w ↦ rw w.ids-is (no-more (g.H.Holder.received c.args.holder.now) c.loop-k.k c.loop-k.ids (sym c.has.ensures ∙ w.if-has.false) c.loop-k.invariant)
    ]
