use Rattle.std.proofs.Common.{Bool, refl, sym, ◌∙◌, add-one}
use Rattle.std.proofs.lemmas.Option.{slice_get_read}
use Rattle.ql_exec.specs.declared.effect.Effect.{Effect}
use Rattle.ql_machine.specs.State.{is_done, open_of}
use Rattle.ql_shim.specs.Transactions.{open_txns}
use Rattle.ql_store.proofs.CommittedLaws.{passing-more, passing-same}
use Rattle.ql_store.proofs.committed.committed_effects.Goals as goal
use Rattle.ql_store.proofs.committed.committed_effects.Goals.{then-is_committed+in_ok-insert, else-is_committed}

pub loop-k-preserved : goal.loop-k-preserved
loop-k-preserved c =
    let test : Effect → Bool = λ e. is_done (open_of (open_txns c.args.shim.now) e.session) e.member in
    let at = slice_get_read c.args.effects.now _ c.loop-k.k c.index-effects-k.result refl c.loop-k-test.true c.index-effects-k.is in
    elim c.if-is_committed.branch [
      | then-is_committed+in_ok-insert w ↦
          rw (w.ids-is, w.in_ok-insert.ensures.added, add-one)
          (passing-more c.args.effects.now test c.loop-k.k c.index-effects-k.result c.loop-k.ids at (sym c.is_committed.ensures ∙ w.if-is_committed.true) c.loop-k.invariant)
      | else-is_committed w ↦
          rw (w.ids-is, add-one)
          (passing-same c.args.effects.now test c.loop-k.k c.index-effects-k.result c.loop-k.ids at (sym c.is_committed.ensures ∙ w.if-is_committed.false) c.loop-k.invariant)
    ]
