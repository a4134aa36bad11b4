use Rattle.std.proofs.Common.{ℕ, List, [], Some, refl, subst}
use Rattle.std.proofs.lemmas.Bool.{false≢true}
use Rattle.ql_holder.specs.Closed.{Has}
use Rattle.ql_holder.proofs.Packages.{package-whole}
use Rattle.ql_ranges.specs.Ranges.{ids_of}
use Rattle.ql_ranges.specs.declared.ranges.IdRange.{IdRange}
use Rattle.ql_ranges.specs.Reach.{IsReach}
use Rattle.ql_holder.specs.Missing.{IsFirstMissing}
use Rattle.ql_plain_holder.proofs.PlainReceipts.{closed-exactly, open-exactly}
use Rattle.ql_plain_holder.proofs.closing.is_closed.Goals as goal

pub reach-requires-clause-asked : goal.reach-requires-clause-asked
reach-requires-clause-asked c = package-whole c.args.x.now c.in_ok-pack.pack c.in_ok-pack.ensures.package

pub returns-in-Some : goal.returns-in-Some
returns-in-Some c =
    let x = c.args.x.now in
    let pack = c.in_ok-pack.pack in
    let found = c.in_ok-found.found in
    let after = c.args.after.now in
    let reach : IsReach x pack [] found = subst (λ (l : List IdRange). IsReach x pack (ids_of l) found) c.new.ensures c.in_ok-found.ensures in
    let first = subst (λ (l : List ℕ). IsFirstMissing l after (Some c.in-Some._missing)) c.items.ensures.same c.in-Some.ensures in
    (λ never. absurd (false≢true never), λ closed. absurd (open-exactly x after pack found c.args.id c.in-Some._missing c.in_ok-pack.ensures.package c.in_ok-pack.ensures.has reach first.0 first.1 closed))

pub returns : goal.returns
returns c =
    let x = c.args.x.now in
    let pack = c.in_ok-pack.pack in
    let found = c.in_ok-found.found in
    let after = c.args.after.now in
    let reach : IsReach x pack [] found = subst (λ (l : List IdRange). IsReach x pack (ids_of l) found) c.new.ensures c.in_ok-found.ensures in
    let within = subst (λ (l : List ℕ). (a : ℕ) → Has l a → Has after a) c.items.ensures.same c.in-None.ensures in
    (λ is. closed-exactly x after pack found c.args.id c.in_ok-pack.ensures.package c.in_ok-pack.ensures.has reach within, λ closed. refl)
