use Rattle.std.proofs.lemmas.Result.{err_from_is_err_and}
use Rattle.std.proofs.Common.{◌+◌, ◌*◌, length, drop, ap, sym, subst, ◌∙◌, arith}
use Rattle.std.proofs.lemmas.Bool.{eqb-false}
use Rattle.std.proofs.lemmas.Option.{MatchOption-at_some}
use Rattle.ql_journal.proofs.ReadSoFar.{SoFar, body_inside, step, finish}
use Rattle.ql_journal.proofs.recovering.received_in.Goals as goal

pub split_at-requires : goal.split_at-requires
split_at-requires g c =
    let found = MatchOption-at_some _ _ c.in-Some-2.ids c.in-Some-2.is c.in_ok-ids.ensures in
    let inside = body_inside c.in-Some-2.ids c.in-Some.entry.now (4 + 4 * length c.in-Some-2.ids) found.1 in
    omega (arith, inside, c.len.ensures.length)

pub loop-entry-preserved : goal.loop-entry-preserved
loop-entry-preserved g c =
    let found = MatchOption-at_some _ _ c.in-Some-2.ids c.in-Some-2.is c.in_ok-ids.ensures in
    let known = c.is_known.ensures.0 c.if-not-is_known.false in
    let n = 4 + 4 * length c.in-Some-2.ids in
    let more = step g.H.Holder.received c.args.x.now c.args.committed.now c.args.bytes.now c.loop-entry.holder c.receive.new.self c.loop-entry.rest.now c.in-Some.entry.now
    c.in-Some-2.ids n c.in_ok-receive.field-0 c.loop-entry.invariant.reads c.in-Some.ensures found.0 found.1 known c.in_ok-receive.ensures.arrival in
    record {
      fits = c.receive.ensures.fits;
      reads = subst (λ l. SoFar g.H.Holder.received c.args.x.now c.args.committed.now c.args.bytes.now c.receive.new.self l)
          (sym (c.split_at.ensures.back ∙ ap (λ k. drop (4 + 4 * k) c.in-Some.entry.now) c.len.ensures.length)) more;
    }

pub returns-clause-recovers : goal.returns-clause-recovers
returns-clause-recovers g c =
    finish g.H.Holder.received c.args.x.now c.args.committed.now c.args.bytes.now c.loop-entry.holder c.loop-entry.rest.now c.loop-entry.invariant.reads c.in_default.ensures
    (eqb-false (length c.loop-entry.rest.now) 0 (sym c.is_empty.ensures ∙ c.if-is_empty.false))

pub returns-in_err-ids-clause-fits : goal.returns-in_err-ids-clause-fits
returns-in_err-ids-clause-fits g c = let p = err_from_is_err_and c.from_residual.result c.from_residual.ensures.1 in rw p.1 tt

pub returns-in_err-receive-clause-fits : goal.returns-in_err-receive-clause-fits
returns-in_err-receive-clause-fits g c = let p = err_from_is_err_and c.from_residual-in_err-receive.result c.from_residual-in_err-receive.ensures.1 in rw p.1 tt
