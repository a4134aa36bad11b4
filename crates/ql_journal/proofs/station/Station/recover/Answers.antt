use Rattle.std.proofs.lemmas.Result.{err_from_is_err_and}
use Rattle.std.proofs.Common.{List, ℕ, Err, Ok, ◌∙◌, subst}
use Rattle.ql_journal.specs.Stations.{Received, Recovers}
use Rattle.ql_journal.proofs.EndLaws.{sound, damaged, stranger}
use Rattle.ql_journal.proofs.station.Station.recover.Goals as goal

abbrev Nothing : Unit {0} → Type 0
Nothing u = ⊥

pub returns-in-Err-clause-sound : goal.returns-in-Err-clause-sound
returns-in-Err-clause-sound g c = λ reported records known has.
    let x = c.args.x.now in
    let committed = c.args.committed.now in
    let file_is = c.deref.ensures.value ∙ c.in_ok-bytes.ensures.bytes reported in
    sound {T = Unit {0}} x committed (g.D.Disk.held c.args.disk.now).content Nothing records known has (Err c.in-Err.why)
    (subst (λ (f : List ℕ). Recovers {T = Unit {0}} Nothing x committed f (Err c.in-Err.why)) file_is c.in-Err.ensures.recovers)

pub returns-in-Err-clause-damaged : goal.returns-in-Err-clause-damaged
returns-in-Err-clause-damaged g c = λ reported at broken.
    let x = c.args.x.now in
    let committed = c.args.committed.now in
    let file_is = c.deref.ensures.value ∙ c.in_ok-bytes.ensures.bytes reported in
    damaged {T = Unit {0}} x committed (g.D.Disk.held c.args.disk.now).content Nothing (λ u never. absurd never) at broken (Err c.in-Err.why)
    (subst (λ (f : List ℕ). Recovers {T = Unit {0}} Nothing x committed f (Err c.in-Err.why)) file_is c.in-Err.ensures.recovers)

pub returns-in-Err-clause-strange : goal.returns-in-Err-clause-strange
returns-in-Err-clause-strange g c = λ reported at strange.
    let x = c.args.x.now in
    let committed = c.args.committed.now in
    let file_is = c.deref.ensures.value ∙ c.in_ok-bytes.ensures.bytes reported in
    stranger {T = Unit {0}} x committed (g.D.Disk.held c.args.disk.now).content Nothing (λ u never. absurd never) at strange (Err c.in-Err.why)
    (subst (λ (f : List ℕ). Recovers {T = Unit {0}} Nothing x committed f (Err c.in-Err.why)) file_is c.in-Err.ensures.recovers)

pub returns-clause-damaged : goal.returns-clause-damaged
returns-clause-damaged g c = λ reported at broken.
    let x = c.args.x.now in
    let committed = c.args.committed.now in
    let file_is = c.deref.ensures.value ∙ c.in_ok-bytes.ensures.bytes reported in
    let is = subst (λ (f : List ℕ). Received g.H.Holder.received x committed f c.in-Ok.holder c.in-Ok.end) file_is c.in-Ok.ensures.recovers in
    damaged {T = Unit {0}} x committed (g.D.Disk.held c.args.disk.now).content
    (λ u. Received g.H.Holder.received x committed (g.D.Disk.held c.args.disk.now).content c.in-Ok.holder c.in-Ok.end) (λ u r. (r.records, r.known, r.has)) at broken (Ok tt) is

pub returns-clause-strange : goal.returns-clause-strange
returns-clause-strange g c = λ reported at strange.
    let x = c.args.x.now in
    let committed = c.args.committed.now in
    let file_is = c.deref.ensures.value ∙ c.in_ok-bytes.ensures.bytes reported in
    let is = subst (λ (f : List ℕ). Received g.H.Holder.received x committed f c.in-Ok.holder c.in-Ok.end) file_is c.in-Ok.ensures.recovers in
    stranger {T = Unit {0}} x committed (g.D.Disk.held c.args.disk.now).content
    (λ u. Received g.H.Holder.received x committed (g.D.Disk.held c.args.disk.now).content c.in-Ok.holder c.in-Ok.end) (λ u r. (r.records, r.known, r.has)) at strange (Ok tt) is

pub returns-in_err-bytes-clause-fits : goal.returns-in_err-bytes-clause-fits
returns-in_err-bytes-clause-fits g c = let p = err_from_is_err_and c.from_residual.result c.from_residual.ensures.1 in rw p.1 tt

pub returns-in_err-bytes-clause-start : goal.returns-in_err-bytes-clause-start
returns-in_err-bytes-clause-start g c = let p = err_from_is_err_and c.from_residual.result c.from_residual.ensures.1 in rw p.1 tt
