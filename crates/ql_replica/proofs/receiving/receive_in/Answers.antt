use Rattle.std.proofs.lemmas.Result.{err_from_is_err_and}
use Rattle.std.proofs.Common.{ℕ, List, Some, refl, subst}
use Rattle.ql_holder.proofs.Packages.{package-whole}
use Rattle.ql_ranges.specs.Ranges.{ids_of}
use Rattle.slab.specs.Slab.{get}
use Rattle.ql_replica.proofs.ReceiptLaws.{fits-same, known-begin, known-fitted, least-missing, may-watch}
use Rattle.ql_replica.proofs.receiving.receive_in.Goals as goal
use Rattle.ql_holder.specs.Missing.{IsFirstMissing}
use Rattle.ql_holder.proofs.Receipts.{again-from, first-has, new-from}

pub get-requires : goal.get-requires
get-requires c = (first-has c.args.x.now c.args.pack.now c.requires.package).0

pub returns-then-has-clause-arrival : goal.returns-then-has-clause-arrival
returns-then-has-clause-arrival c = (
  again-from c.args.x.now (ids_of c.args.received.now) c.args.pack.now c.get.result c.requires.package c.requires.fits.whole c.get.ensures c.if-has.ensures,
  refl,
)

pub reach-requires-clause-asked : goal.reach-requires-clause-asked
reach-requires-clause-asked c = package-whole c.args.x.now c.args.pack.now c.requires.package

pub reach-requires-clause-known : goal.reach-requires-clause-known
reach-requires-clause-known c =
    (known-fitted (ids_of c.args.received.now) (ids_of c.args.applied.now) (get c.args.waiting.now) c.args.x.now c.requires.fits).whole

pub returns-in_err-wait-in-Some-clause-fits : goal.returns-in_err-wait-in-Some-clause-fits
returns-in_err-wait-in-Some-clause-fits c =
    fits-same (ids_of c.args.received.now) (ids_of c.args.applied.now) (get c.args.waiting.now) (get c.wait.new.waiting) c.args.x.now c.in_err-wait-in-Some.ensures.err c.requires.fits

pub apply-requires-clause-known : goal.apply-requires-clause-known
apply-requires-clause-known c =
    known-begin c.args.x.now (ids_of c.args.received.now) (ids_of c.args.applied.now) (get c.args.waiting.now) c.args.pack.now (ids_of c.in_ok-after.after) c.requires.fits c.in_ok-after.ensures.united

pub apply-requires-clause-held : goal.apply-requires-clause-held
apply-requires-clause-held c = λ key w at.
    may-watch c.args.x.now (ids_of c.args.received.now) c.args.pack.now (ids_of c.in_ok-after.after) w (c.requires.fits.watches key w at) c.in_ok-after.ensures.united

pub returns-in_ok-wait-in-Some-clause-arrival : goal.returns-in_ok-wait-in-Some-clause-arrival
returns-in_ok-wait-in-Some-clause-arrival c =
    let x = c.args.x.now in
    let received = ids_of c.args.received.now in
    let after = ids_of c.in_ok-after.after in (
      new-from x received c.args.pack.now after c.get.result c.requires.package c.requires.fits.whole c.get.ensures c.if-has.ensures c.in_ok-after.ensures.united,
      least-missing x after c.args.pack.now (ids_of c.args.applied.now) c.in_ok-found.found c.in-Some.missing
          (known-begin x received (ids_of c.args.applied.now) (get c.args.waiting.now) c.args.pack.now after c.requires.fits c.in_ok-after.ensures.united) c.in_ok-found.ensures
          (subst (λ (l : List ℕ). IsFirstMissing l after (Some c.in-Some.missing)) c.items.ensures.same c.in-Some.ensures),
    )

pub returns-in_ok-wait-in-Some-clause-fits : goal.returns-in_ok-wait-in-Some-clause-fits
returns-in_ok-wait-in-Some-clause-fits c =
    let x = c.args.x.now in
    let received = ids_of c.args.received.now in
    let applied = ids_of c.args.applied.now in
    let after = ids_of c.in_ok-after.after in
    c.in_ok-wait-in-Some.ensures.fits x received after applied c.requires.fits c.requires.package
    (new-from x received c.args.pack.now after c.get.result c.requires.package c.requires.fits.whole c.get.ensures c.if-has.ensures c.in_ok-after.ensures.united)
    c.in_ok-after.ensures.ascending
    (least-missing x after c.args.pack.now applied c.in_ok-found.found c.in-Some.missing
    (known-begin x received applied (get c.args.waiting.now) c.args.pack.now after c.requires.fits c.in_ok-after.ensures.united) c.in_ok-found.ensures
    (subst (λ (l : List ℕ). IsFirstMissing l after (Some c.in-Some.missing)) c.items.ensures.same c.in-Some.ensures))

pub returns-in_ok-gain-in-None-clause-arrival : goal.returns-in_ok-gain-in-None-clause-arrival
returns-in_ok-gain-in-None-clause-arrival c =
    let received = ids_of c.args.received.now in
    let after = ids_of c.in_ok-after.after in
    let new = new-from c.args.x.now received c.args.pack.now after c.get.result c.requires.package c.requires.fits.whole c.get.ensures c.if-has.ensures c.in_ok-after.ensures.united in
    let done = c.in_ok-gain-in-None.ensures.ok received c.requires.fits new c.in_ok-after.ensures.ascending in
    (new, λ a is. done.0.closed a (done.1 a is), done.2)

pub returns-in_ok-gain-in-None-clause-fits : goal.returns-in_ok-gain-in-None-clause-fits
returns-in_ok-gain-in-None-clause-fits c =
    let received = ids_of c.args.received.now in
    let after = ids_of c.in_ok-after.after in
    (c.in_ok-gain-in-None.ensures.ok received c.requires.fits
    (new-from c.args.x.now received c.args.pack.now after c.get.result c.requires.package c.requires.fits.whole c.get.ensures c.if-has.ensures c.in_ok-after.ensures.united) c.in_ok-after.ensures.ascending).0

pub returns-in_err-after-clause-arrival : goal.returns-in_err-after-clause-arrival
returns-in_err-after-clause-arrival c = let p = err_from_is_err_and c.from_residual.result c.from_residual.ensures.1 in rw p.1 tt

pub returns-in_err-found-clause-arrival : goal.returns-in_err-found-clause-arrival
returns-in_err-found-clause-arrival c = let p = err_from_is_err_and c.from_residual-in_err-found.result c.from_residual-in_err-found.ensures.1 in rw p.1 tt

pub returns-in_err-gain-in-None-clause-arrival : goal.returns-in_err-gain-in-None-clause-arrival
returns-in_err-gain-in-None-clause-arrival c = let p = err_from_is_err_and c.from_residual-in_err-gain-in-None.result c.from_residual-in_err-gain-in-None.ensures.1 in rw p.1 tt

pub returns-in_err-wait-in-Some-clause-arrival : goal.returns-in_err-wait-in-Some-clause-arrival
returns-in_err-wait-in-Some-clause-arrival c = let p = err_from_is_err_and c.from_residual-in_err-wait-in-Some.result c.from_residual-in_err-wait-in-Some.ensures.1 in rw p.1 tt
