use Rattle.std.proofs.Common.{◌&&◌, not, ℕ, List, [], Option, refl, ap, sym, subst, ◌∙◌}
use Rattle.ql_holder.specs.Needs.{AreWhole}
use Rattle.ql_holder.proofs.Packages.{package-whole, whole-union}
use Rattle.ql_ranges.specs.Ranges.{ids_of}
use Rattle.ql_ranges.specs.declared.ranges.IdRange.{IdRange}
use Rattle.ql_base.specs.IdLists.{has_id}
use Rattle.ql_holder.specs.Missing.{IsFirstMissing}
use Rattle.ql_ranges.specs.Reach.{IsReach}
use Rattle.ql_plain_holder.proofs.PlainReceipts.{fits-after, least-missing, pack-closed, gain-exact}
use Rattle.ql_plain_holder.proofs.plain_holder.receive_in.Goals as goal
use Rattle.ql_holder.proofs.Receipts.{again-from, first-has, new-from}

pub get-requires : goal.get-requires
get-requires c = (first-has c.args.x.now c.args.pack.now c.requires.package).0

pub returns-then-has-clause-arrival : goal.returns-then-has-clause-arrival
returns-then-has-clause-arrival c = (again-from c.args.x.now c.args.received.now c.args.pack.now c.get.result c.requires.package c.requires.fits.whole c.get.ensures c.if-has.ensures, refl)

pub closed_part-requires-clause-whole : goal.closed_part-requires-clause-whole
closed_part-requires-clause-whole c = subst (AreWhole c.args.x.now) (sym c.in_ok-after.ensures) (whole-union c.args.x.now c.args.received.now c.args.pack.now c.requires.fits.whole c.requires.package)

pub reach-requires-clause-asked : goal.reach-requires-clause-asked
reach-requires-clause-asked c = package-whole c.args.x.now c.args.pack.now c.requires.package

pub returns-in-Some-clause-arrival : goal.returns-in-Some-clause-arrival
returns-in-Some-clause-arrival c =
    let x = c.args.x.now in
    let received = c.args.received.now in
    let pack = c.args.pack.now in
    let after = c.in_ok-after.after in
    let found = c.in_ok-found.found in
    let reach : IsReach x pack [] found = subst (λ (l : List IdRange). IsReach x pack (ids_of l) found) c.new.ensures c.in_ok-found.ensures in
    let first = subst (λ (o : Option ℕ). IsFirstMissing found after o) c.in-Some.is (subst (λ (l : List ℕ). IsFirstMissing l after c.first_missing-missing.result) c.items-3.ensures.same c.first_missing-missing.ensures) in (
      new-from x received pack after c.get.result c.requires.package c.requires.fits.whole c.get.ensures c.if-has.ensures c.in_ok-after.ensures,
      least-missing x after pack found c.in-Some.id reach first,
    )

pub returns-in-Some-clause-fits : goal.returns-in-Some-clause-fits
returns-in-Some-clause-fits c =
    fits-after c.args.x.now c.args.received.now c.args.pack.now c.in_ok-after.after c.args.applied.now c.in_ok-now.now c.requires.fits c.requires.package c.in_ok-after.ensures c.items.ensures.ascending c.in_ok-now.ensures

pub returns-in-None-clause-arrival : goal.returns-in-None-clause-arrival
returns-in-None-clause-arrival c =
    let x = c.args.x.now in
    let received = c.args.received.now in
    let applied = c.args.applied.now in
    let pack = c.args.pack.now in
    let after = c.in_ok-after.after in
    let now = c.in_ok-now.now in
    let found = c.in_ok-found.found in
    let reach : IsReach x pack [] found = subst (λ (l : List IdRange). IsReach x pack (ids_of l) found) c.new.ensures c.in_ok-found.ensures in
    let within = subst (λ (o : Option ℕ). IsFirstMissing found after o) c.in-None.is (subst (λ (l : List ℕ). IsFirstMissing l after c.first_missing-missing.result) c.items-3.ensures.same c.first_missing-missing.ensures) in (
      new-from x received pack after c.get.result c.requires.package c.requires.fits.whole c.get.ensures c.if-has.ensures c.in_ok-after.ensures,
      pack-closed x after pack found c.requires.package reach within,
      gain-exact x received after applied now c.in_ok-gain.gain c.requires.fits c.in_ok-now.ensures
          (λ a. c.in_ok-gain.ensures.lacks a ∙ ap (λ (l : List ℕ). has_id l a && not (has_id applied a)) c.items-2.ensures.same) c.in_ok-gain.ensures.ascending,
    )

pub returns-in-None-clause-fits : goal.returns-in-None-clause-fits
returns-in-None-clause-fits c =
    fits-after c.args.x.now c.args.received.now c.args.pack.now c.in_ok-after.after c.args.applied.now c.in_ok-now.now c.requires.fits c.requires.package c.in_ok-after.ensures c.items.ensures.ascending c.in_ok-now.ensures
