use Rattle.std.proofs.lemmas.Result.{err_from_is_err_and}
use Rattle.std.proofs.Common.{◌≡◌, ℕ, ◌+◌, List, [], ◌∷◌, ◌++◌, length, refl, sym, ◌∙◌, ap, subst, inl, arith}
use Rattle.ql_journal.proofs.Stops.{started}
use Rattle.ql_holder.proofs.Packages.{package-in}
use Rattle.ql_journal.specs.Images.{IsBeforeOrAfter}
use Rattle.ql_holder.specs.Arrivals.{IsArrival}
use Rattle.ql_journal.specs.Records.{HasRecords, records_of}
use Rattle.ql_journal.specs.Sizes.{record_size}
use Rattle.ql_journal.proofs.AppendingLaws.{image_has}
use Rattle.ql_journal.proofs.StationLaws.{has-more}
use Rattle.ql_journal.proofs.ReceiptLaws.{package_some, package_lawful, appended_to, bytes_size, end_grown, new_records, new_end, foretold_ok, foretold_err}
use Rattle.ql_journal.proofs.station.Station.receive.Goals as goal

pub first_id-requires : goal.first_id-requires
first_id-requires g c = package_some c.args.x.now c.args.pack.now c.requires.package

pub returns-then-has-clause-arrival : goal.returns-then-has-clause-arrival
returns-then-has-clause-arrival g c =
    let holder = c.args.self.now.holder in
    let whole = g.met.H.Holder.fits_whole holder c.args.x.now c.requires.fits in
    (package-in c.args.x.now c.args.pack.now (g.H.Holder.received holder) c.requires.package whole c.first_id.result c.first_id.ensures.first (sym c.has.ensures ∙ c.if-has.true), refl)

pub returns-then-has-clause-acknowledged : goal.returns-then-has-clause-acknowledged
returns-then-has-clause-acknowledged g c = λ reported runs records has image is.
    image_has (g.D.Disk.held c.args.disk.now) records (c.requires.agrees reported runs).clean has image is

pub returns-then-has-clause-any_moment : goal.returns-then-has-clause-any_moment
returns-then-has-clause-any_moment g c = λ reported runs records has.
    let agrees = c.requires.agrees reported runs in
    let disk = c.args.disk.now in
    started g.D.Disk.moment g.D.Disk.left_since disk (IsBeforeOrAfter records c.args.pack.now)
    (λ image left. inl (image_has (g.D.Disk.held disk) records agrees.clean has image (g.met.D.Disk.only_now disk image reported left)))

pub returns-in_err-holder-clause-any_moment : goal.returns-in_err-holder-clause-any_moment
returns-in_err-holder-clause-any_moment g c = λ reported runs records has.
    let agrees = c.requires.agrees reported runs in
    let disk = c.args.disk.now in
    started g.D.Disk.moment g.D.Disk.left_since disk (IsBeforeOrAfter records c.args.pack.now)
    (λ image left. inl (image_has (g.D.Disk.held disk) records agrees.clean has image (g.met.D.Disk.only_now disk image reported left)))

pub returns-in_err-arrival-clause-any_moment : goal.returns-in_err-arrival-clause-any_moment
returns-in_err-arrival-clause-any_moment g c = λ reported runs records has.
    let agrees = c.requires.agrees reported runs in
    let disk = c.args.disk.now in
    started g.D.Disk.moment g.D.Disk.left_since disk (IsBeforeOrAfter records c.args.pack.now)
    (λ image left. inl (image_has (g.D.Disk.held disk) records agrees.clean has image (g.met.D.Disk.only_now disk image reported left)))

pub returns-in_err-body-clause-any_moment : goal.returns-in_err-body-clause-any_moment
returns-in_err-body-clause-any_moment g c = λ reported runs records has.
    let agrees = c.requires.agrees reported runs in
    let disk = c.args.disk.now in
    started g.D.Disk.moment g.D.Disk.left_since disk (IsBeforeOrAfter records c.args.pack.now)
    (λ image left. inl (image_has (g.D.Disk.held disk) records agrees.clean has image (g.met.D.Disk.only_now disk image reported left)))

pub append_record-requires-clause-ends : goal.append_record-requires-clause-ends
append_record-requires-clause-ends g c =
    let size = bytes_size c.args.pack.now c.deref.result.now (c.deref.ensures.value ∙ c.in_ok-body.ensures) in
    let room = c.requires.room in
    omega (arith, size, room)

pub returns-in-Err-clause-foretold : goal.returns-in-Err-clause-foretold
returns-in-Err-clause-foretold g c =
    let size = bytes_size c.args.pack.now c.deref.result.now (c.deref.ensures.value ∙ c.in_ok-body.ensures) in
    let gate = c.args.self.now.end in
    let same : (gate + 1) + length c.deref.result.now ≡ (gate + record_size (length c.args.pack.now)) + 1 = omega (arith, size) in
    foretold_err (g.D.Disk.forecast c.args.disk.now) (g.D.Disk.forecast c.append_record.new.disk) _ _ same c.in-Err.ensures.foretold

pub returns-in-Err-clause-any_moment : goal.returns-in-Err-clause-any_moment
returns-in-Err-clause-any_moment g c = λ reported runs records has.
    let agrees = c.requires.agrees reported runs in
    let lawful = package_lawful c.args.x.now c.args.pack.now c.requires.package c.first_id.ensures.ascending c.first_id.ensures.small c.requires.few in
    c.append_record.ensures.any_moment reported records c.args.pack.now
    (appended_to g.H.Holder.received (g.D.Disk.held c.args.disk.now) c.args.self.now c.args.pack.now c.deref.result.now agrees lawful (c.deref.ensures.value ∙ c.in_ok-body.ensures) records has)

pub returns-in-Err-clause-unacknowledged : goal.returns-in-Err-clause-unacknowledged
returns-in-Err-clause-unacknowledged g c = λ reported runs records has failed.
    let agrees = c.requires.agrees reported runs in
    let lawful = package_lawful c.args.x.now c.args.pack.now c.requires.package c.first_id.ensures.ascending c.first_id.ensures.small c.requires.few in
    c.in-Err.ensures.kept reported records c.args.pack.now
    (appended_to g.H.Holder.received (g.D.Disk.held c.args.disk.now) c.args.self.now c.args.pack.now c.deref.result.now agrees lawful (c.deref.ensures.value ∙ c.in_ok-body.ensures) records has)

pub returns-in-Ok-clause-end : goal.returns-in-Ok-clause-end
returns-in-Ok-clause-end g c =
    let came = subst (λ (l : List ℕ). IsArrival c.args.x.now l c.args.pack.now (g.H.Holder.received c.receive.new.self) c.in_ok-arrival.arrival) c.in_ok-holder.ensures.received c.in_ok-arrival.ensures.arrival in
    let absent = sym c.has.ensures ∙ c.if-has.false in
    ap (λ (n : ℕ). c.args.self.now.end + n) c.record_size.ensures
    ∙ sym (new_end c.args.x.now (g.H.Holder.received c.args.self.now.holder) c.args.pack.now (g.H.Holder.received c.receive.new.self) c.in_ok-arrival.arrival came c.first_id.result c.first_id.ensures.first absent
    c.args.self.now.end (length c.args.pack.now))

pub returns-in-Ok-clause-foretold : goal.returns-in-Ok-clause-foretold
returns-in-Ok-clause-foretold g c =
    let size = bytes_size c.args.pack.now c.deref.result.now (c.deref.ensures.value ∙ c.in_ok-body.ensures) in
    let gate = c.args.self.now.end in
    let same : (gate + 1) + length c.deref.result.now ≡ (gate + record_size (length c.args.pack.now)) + 1 = omega (arith, size) in
    foretold_ok (g.D.Disk.forecast c.args.disk.now) (g.D.Disk.forecast c.append_record.new.disk) _ _ c.in_ok-arrival.arrival same c.in-Ok.ensures.foretold

pub returns-in-Ok-clause-agrees : goal.returns-in-Ok-clause-agrees
returns-in-Ok-clause-agrees g c = λ reported runs.
    let came = subst (λ (l : List ℕ). IsArrival c.args.x.now l c.args.pack.now (g.H.Holder.received c.receive.new.self) c.in_ok-arrival.arrival) c.in_ok-holder.ensures.received c.in_ok-arrival.ensures.arrival in
    let agrees = c.requires.agrees reported runs in
    let lawful = package_lawful c.args.x.now c.args.pack.now c.requires.package c.first_id.ensures.ascending c.first_id.ensures.small c.requires.few in
    let is = appended_to g.H.Holder.received (g.D.Disk.held c.args.disk.now) c.args.self.now c.args.pack.now c.deref.result.now agrees lawful (c.deref.ensures.value ∙ c.in_ok-body.ensures) agrees.records agrees.has in
    record {
      records = agrees.records ++ c.args.pack.now ∷ [];
      has = c.in-Ok.ensures.appended reported agrees.records c.args.pack.now is;
      end =
          ap (λ (n : ℕ). n + c.record_size.result) agrees.end ∙ ap (λ (n : ℕ). length (records_of agrees.records) + n) c.record_size.ensures
          ∙ sym (end_grown agrees.records c.args.pack.now);
      ids = has-more c.args.x.now (g.H.Holder.received c.args.self.now.holder) c.args.pack.now (g.H.Holder.received c.receive.new.self) agrees.records c.in_ok-arrival.arrival agrees.ids came;
      clean = c.in-Ok.ensures.clean reported;
    }

pub returns-in-Ok-clause-any_moment : goal.returns-in-Ok-clause-any_moment
returns-in-Ok-clause-any_moment g c = λ reported runs records has.
    let agrees = c.requires.agrees reported runs in
    let lawful = package_lawful c.args.x.now c.args.pack.now c.requires.package c.first_id.ensures.ascending c.first_id.ensures.small c.requires.few in
    c.append_record.ensures.any_moment reported records c.args.pack.now
    (appended_to g.H.Holder.received (g.D.Disk.held c.args.disk.now) c.args.self.now c.args.pack.now c.deref.result.now agrees lawful (c.deref.ensures.value ∙ c.in_ok-body.ensures) records has)

pub returns-in-Ok-clause-acknowledged : goal.returns-in-Ok-clause-acknowledged
returns-in-Ok-clause-acknowledged g c = λ reported runs records has image left.
    let came = subst (λ (l : List ℕ). IsArrival c.args.x.now l c.args.pack.now (g.H.Holder.received c.receive.new.self) c.in_ok-arrival.arrival) c.in_ok-holder.ensures.received c.in_ok-arrival.ensures.arrival in
    let absent = sym c.has.ensures ∙ c.if-has.false in
    let agrees = c.requires.agrees reported runs in
    let lawful = package_lawful c.args.x.now c.args.pack.now c.requires.package c.first_id.ensures.ascending c.first_id.ensures.small c.requires.few in
    let is = appended_to g.H.Holder.received (g.D.Disk.held c.args.disk.now) c.args.self.now c.args.pack.now c.deref.result.now agrees lawful (c.deref.ensures.value ∙ c.in_ok-body.ensures) records has in
    let now = image_has (g.D.Disk.held c.append_record.new.disk) (records ++ c.args.pack.now ∷ []) (c.in-Ok.ensures.clean reported) (c.in-Ok.ensures.appended reported records c.args.pack.now is) image left in
    subst (λ (l : List (List ℕ)). HasRecords l image)
    (sym (new_records c.args.x.now (g.H.Holder.received c.args.self.now.holder) c.args.pack.now (g.H.Holder.received c.receive.new.self) c.in_ok-arrival.arrival came c.first_id.result c.first_id.ensures.first absent records)) now

pub returns-in_err-arrival-clause-arrival : goal.returns-in_err-arrival-clause-arrival
returns-in_err-arrival-clause-arrival g c = let p = err_from_is_err_and c.from_residual-in_err-arrival.result c.from_residual-in_err-arrival.ensures.1 in rw p.1 tt

pub returns-in_err-arrival-clause-end : goal.returns-in_err-arrival-clause-end
returns-in_err-arrival-clause-end g c = let p = err_from_is_err_and c.from_residual-in_err-arrival.result c.from_residual-in_err-arrival.ensures.1 in rw p.1 tt

pub returns-in_err-body-clause-arrival : goal.returns-in_err-body-clause-arrival
returns-in_err-body-clause-arrival g c = let p = err_from_is_err_and c.from_residual-in_err-body.result c.from_residual-in_err-body.ensures.1 in rw p.1 tt

pub returns-in_err-body-clause-end : goal.returns-in_err-body-clause-end
returns-in_err-body-clause-end g c = let p = err_from_is_err_and c.from_residual-in_err-body.result c.from_residual-in_err-body.ensures.1 in rw p.1 tt

pub returns-in_err-holder-clause-arrival : goal.returns-in_err-holder-clause-arrival
returns-in_err-holder-clause-arrival g c = let p = err_from_is_err_and c.from_residual.result c.from_residual.ensures.1 in rw p.1 tt

pub returns-in_err-holder-clause-end : goal.returns-in_err-holder-clause-end
returns-in_err-holder-clause-end g c = let p = err_from_is_err_and c.from_residual.result c.from_residual.ensures.1 in rw p.1 tt
