use Rattle.std.proofs.lemmas.Result.{err_from_is_err_and}
use Rattle.std.proofs.Common.{subst, ℕ, List}
use Rattle.ql_holder.specs.Closed.{Has}
use Rattle.ql_holder.specs.Arrivals.{Applied}
use Rattle.ql_shim.specs.Viewing.{IsFirstUnapplied}
use Rattle.ql_shim.proofs.ViewLaws.{seen-are, closed-kept, missing-is, those-others}
use Rattle.ql_shim.proofs.view.view_of.Goals as goal

pub returns-in_ok-with_own-in-Rc-clause-ids : goal.returns-in_ok-with_own-in-Rc-clause-ids
returns-in_ok-with_own-in-Rc-clause-ids g c = rw c.in-Rc.is (λ now o asked.
    let x = c.args.x.now in
    let on = c.args.on.now in
    let received = g.H.Holder.received c.args.holder.now in
    seen-are x now o on received c.args.running.now received c.in_ok-others-in-Rc.others c.in_ok-with_own-in-Rc.field-0
    c.with_own.ensures.execution asked asked.received_settled
    (those-others on c.in_ok-others-in-Rc.others (Applied x received) (c.in_ok-others-in-Rc.ensures x c.requires.fits))
    (c.in_ok-with_own-in-Rc.ensures.joined o asked.on_object (λ a has. asked.known.session a (asked.known.own.only a has))
    (λ a b is_own seen. asked.known.saw.all a (b, asked.known.own.only b is_own, seen))))

pub returns-in_ok-with_own-in-Mav-clause-ids : goal.returns-in_ok-with_own-in-Mav-clause-ids
returns-in_ok-with_own-in-Mav-clause-ids g c = rw c.in-Mav.is (λ now o asked.
    let x = c.args.x.now in
    let on = c.args.on.now in
    let received = g.H.Holder.received c.args.holder.now in
    seen-are x now o on received c.args.running.now received c.in_ok-others-in-Mav.others c.in_ok-with_own-in-Mav.field-0
    c.with_own-in-Mav.ensures.execution asked asked.received_settled
    (those-others on c.in_ok-others-in-Mav.others (Applied x received) (c.in_ok-others-in-Mav.ensures x c.requires.fits))
    (c.in_ok-with_own-in-Mav.ensures.joined o asked.on_object (λ a has. asked.known.session a (asked.known.own.only a has))
    (λ a b is_own seen. asked.known.saw.all a (b, asked.known.own.only b is_own, seen))))

pub returns-in_ok-with_own-in-Mav-clause-missing : goal.returns-in_ok-with_own-in-Mav-clause-missing
returns-in_ok-with_own-in-Mav-clause-missing g c = rw c.in-Mav.is (λ now o asked.
    let x = c.args.x.now in
    let received = g.H.Holder.received c.args.holder.now in
    missing-is x now o c.args.on.now received c.args.running.now c.first_unapplied.result asked
    (subst (λ (saw : List ℕ). IsFirstUnapplied x received saw c.args.running.now.own c.first_unapplied.result) c.items.ensures.same (c.first_unapplied.ensures x c.requires.fits)))

pub returns-in_ok-with_own-in-Rr-clause-ids : goal.returns-in_ok-with_own-in-Rr-clause-ids
returns-in_ok-with_own-in-Rr-clause-ids g c = rw c.in-Rr.is (λ now o asked.
    let x = c.args.x.now in
    let on = c.args.on.now in
    let snapshot = c.args.running.now.txn.snapshot in
    seen-are x now o on (g.H.Holder.received c.args.holder.now) c.args.running.now snapshot c.in_ok-others-in-Rr.others c.in_ok-with_own-in-Rr.field-0
    c.with_own-in-Rr.ensures.execution asked asked.snapshot_settled
    (λ a is_on.
    let kept = those-others on c.in_ok-others-in-Rr.others (Has snapshot) c.in_ok-others-in-Rr.ensures a is_on in
    let closed = closed-kept x now snapshot asked.snapshot_settled asked.snapshot_closed a in
    (λ has. closed.0 (kept.0 has), λ all. kept.1 (closed.1 all)))
    (c.in_ok-with_own-in-Rr.ensures.joined o asked.on_object (λ a has. asked.known.session a (asked.known.own.only a has))
    (λ a b is_own seen. asked.known.saw.all a (b, asked.known.own.only b is_own, seen))))

pub returns-in_err-others-in-Mav-clause-ids : goal.returns-in_err-others-in-Mav-clause-ids
returns-in_err-others-in-Mav-clause-ids g c = let p = err_from_is_err_and c.from_residual-in_err-others-in-Mav.result c.from_residual-in_err-others-in-Mav.ensures.1 in rw p.1 tt

pub returns-in_err-others-in-Mav-clause-missing : goal.returns-in_err-others-in-Mav-clause-missing
returns-in_err-others-in-Mav-clause-missing g c = let p = err_from_is_err_and c.from_residual-in_err-others-in-Mav.result c.from_residual-in_err-others-in-Mav.ensures.1 in rw p.1 tt

pub returns-in_err-others-in-Rc-clause-ids : goal.returns-in_err-others-in-Rc-clause-ids
returns-in_err-others-in-Rc-clause-ids g c = let p = err_from_is_err_and c.from_residual.result c.from_residual.ensures.1 in rw p.1 tt

pub returns-in_err-others-in-Rc-clause-missing : goal.returns-in_err-others-in-Rc-clause-missing
returns-in_err-others-in-Rc-clause-missing g c = let p = err_from_is_err_and c.from_residual.result c.from_residual.ensures.1 in rw p.1 tt

pub returns-in_err-others-in-Rr-clause-ids : goal.returns-in_err-others-in-Rr-clause-ids
returns-in_err-others-in-Rr-clause-ids g c = let p = err_from_is_err_and c.from_residual-in_err-others-in-Rr.result c.from_residual-in_err-others-in-Rr.ensures.1 in rw p.1 tt

pub returns-in_err-others-in-Rr-clause-missing : goal.returns-in_err-others-in-Rr-clause-missing
returns-in_err-others-in-Rr-clause-missing g c = let p = err_from_is_err_and c.from_residual-in_err-others-in-Rr.result c.from_residual-in_err-others-in-Rr.ensures.1 in rw p.1 tt

pub returns-in_err-with_own-in-Mav-clause-ids : goal.returns-in_err-with_own-in-Mav-clause-ids
returns-in_err-with_own-in-Mav-clause-ids g c = let p = err_from_is_err_and c.from_residual-in_err-with_own-in-Mav.result c.from_residual-in_err-with_own-in-Mav.ensures.1 in rw p.1 tt

pub returns-in_err-with_own-in-Mav-clause-missing : goal.returns-in_err-with_own-in-Mav-clause-missing
returns-in_err-with_own-in-Mav-clause-missing g c = let p = err_from_is_err_and c.from_residual-in_err-with_own-in-Mav.result c.from_residual-in_err-with_own-in-Mav.ensures.1 in rw p.1 tt

pub returns-in_err-with_own-in-Rc-clause-ids : goal.returns-in_err-with_own-in-Rc-clause-ids
returns-in_err-with_own-in-Rc-clause-ids g c = let p = err_from_is_err_and c.from_residual-in_err-with_own-in-Rc.result c.from_residual-in_err-with_own-in-Rc.ensures.1 in rw p.1 tt

pub returns-in_err-with_own-in-Rc-clause-missing : goal.returns-in_err-with_own-in-Rc-clause-missing
returns-in_err-with_own-in-Rc-clause-missing g c = let p = err_from_is_err_and c.from_residual-in_err-with_own-in-Rc.result c.from_residual-in_err-with_own-in-Rc.ensures.1 in rw p.1 tt

pub returns-in_err-with_own-in-Rr-clause-ids : goal.returns-in_err-with_own-in-Rr-clause-ids
returns-in_err-with_own-in-Rr-clause-ids g c = let p = err_from_is_err_and c.from_residual-in_err-with_own-in-Rr.result c.from_residual-in_err-with_own-in-Rr.ensures.1 in rw p.1 tt

pub returns-in_err-with_own-in-Rr-clause-missing : goal.returns-in_err-with_own-in-Rr-clause-missing
returns-in_err-with_own-in-Rr-clause-missing g c = let p = err_from_is_err_and c.from_residual-in_err-with_own-in-Rr.result c.from_residual-in_err-with_own-in-Rr.ensures.1 in rw p.1 tt
