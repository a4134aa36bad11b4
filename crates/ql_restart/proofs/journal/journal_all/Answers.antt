use Rattle.std.proofs.Common.{◌≡◌, true, false, get_or, sym, ◌∙◌}
use Rattle.std.proofs.lemmas.Bool.{eq-eqb, ne_eqb}
use Rattle.std.proofs.lemmas.Result.{err_from_is_err_and}
use Rattle.ql_restart.specs.Journaled.{is_first}
use Rattle.ql_restart.specs.Progress.{calls_left}
use Rattle.ql_restart.proofs.Firsts.{all_same, first_is}
use Rattle.ql_restart.proofs.Journals.{goes, is_new, passes, stops_unless}
use Rattle.ql_restart.proofs.journal.journal_all.Goals as goal
use Rattle.ql_restart.proofs.journal.journal_all.Goals.{then-get-id+in_ok-receive_new, else-get-id}

pub receive_new-requires-clause-new : goal.receive_new-requires-clause-new
receive_new-requires-clause-new g c =
    let x = c.args.x.now in
    let arrivals = c.args.arrivals.now in
    let a = get_or arrivals c.loop-id.id-index 0 in
    let ids = c.in_ok-pack.pack in
    let first : is_first x a ≡ true = sym (first_is x a ids c.in_ok-pack.ensures) ∙ eq-eqb (get_or ids 0 0) a (sym c.get.ensures ∙ c.if-get-id.true) in
    is_new g.H.Holder.received g.H.Holder.fits x arrivals c.loop-id.id-index (calls_left c.args.disk.now) c.loop-id-test.true c.loop-id.disk c.loop-id.station c.loop-id.invariant
    first ids (all_same x a ids c.in_ok-pack.ensures) c.requires.once.distinct

pub returns-in_err-receive_new : goal.returns-in_err-receive_new
returns-in_err-receive_new g c =
    let p = err_from_is_err_and c.from_residual-in_err-receive_new.result c.from_residual-in_err-receive_new.ensures.1 in
    let x = c.args.x.now in
    let arrivals = c.args.arrivals.now in
    let a = get_or arrivals c.loop-id.id-index 0 in
    let ids = c.in_ok-pack.pack in
    let first : is_first x a ≡ true = sym (first_is x a ids c.in_ok-pack.ensures) ∙ eq-eqb (get_or ids 0 0) a (sym c.get.ensures ∙ c.if-get-id.true) in
    rw (p.1, p.2)
    (stops_unless g.H.Holder.received g.H.Holder.fits x arrivals c.loop-id.id-index (calls_left c.args.disk.now) c.loop-id-test.true c.loop-id.disk c.loop-id.station c.loop-id.invariant
    first ids (all_same x a ids c.in_ok-pack.ensures) c.in_err-receive_new.field-0.0 c.receive_new.new.disk c.receive_new.new.station c.in_err-receive_new.ensures)

pub loop-id-preserved : goal.loop-id-preserved
loop-id-preserved g c =
    let x = c.args.x.now in
    let arrivals = c.args.arrivals.now in
    let a = get_or arrivals c.loop-id.id-index 0 in
    let ids = c.in_ok-pack.pack in
    let by = sym (first_is x a ids c.in_ok-pack.ensures) in
    elim c.if-get-id.branch [
      | then-get-id+in_ok-receive_new w ↦ rw (w.disk-is, w.station-is)
          (goes g.H.Holder.received g.H.Holder.fits x arrivals c.loop-id.id-index (calls_left c.args.disk.now) c.loop-id-test.true c.loop-id.disk c.loop-id.station c.loop-id.invariant
          (by ∙ eq-eqb (get_or ids 0 0) a (sym c.get.ensures ∙ w.if-get-id.true)) ids (all_same x a ids c.in_ok-pack.ensures) w.receive_new.new.disk w.receive_new.new.station w.in_ok-receive_new.ensures)
      | else-get-id w ↦ rw (w.disk-is, w.station-is)
          (passes g.H.Holder.received g.H.Holder.fits x arrivals c.loop-id.id-index (calls_left c.args.disk.now) c.loop-id-test.true c.loop-id.disk c.loop-id.station c.loop-id.invariant
          (by ∙ ne_eqb (get_or ids 0 0) a (λ same. w.if-get-id.false (c.get.ensures ∙ same))))
    ]
