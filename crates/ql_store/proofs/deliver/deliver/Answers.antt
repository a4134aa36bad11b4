use Rattle.std.proofs.lemmas.Result.{err_from_is_err_and}
use Rattle.std.proofs.Common.{ℕ, map, sym, subst}
use Rattle.std.proofs.lemmas.List.{length-map}
use Rattle.ql_holder.specs.Needs.{IsPackage}
use Rattle.ql_machine.specs.Deliveries.{cut, gone}
use Rattle.ql_machine.specs.Kept.{IsParcel}
use Rattle.ql_machine.proofs.Lists.{each-at}
use Rattle.ql_store.specs.State.{GoWithin}
use Rattle.ql_store.proofs.ReceiptLaws.{delivered}
use Rattle.ql_store.proofs.deliver.deliver.Goals as goal

pub receive_at-requires-clause-package : goal.receive_at-requires-clause-package
receive_at-requires-clause-package g c =
    let flight = c.in-Ready.ensures in
    subst (IsPackage c.args.x.now) (sym (c.package.ensures flight.0 flight.1.0))
    (each-at (IsParcel c.args.x.now) c.args.net.now.messages c.args.m.0 flight.0 c.requires.whole.carried flight.1.0).package_of

pub returns-in-Gone-clause-delivered : goal.returns-in-Gone-clause-delivered
returns-in-Gone-clause-delivered g c = λ promises n shim keeps. gone c.in-Gone.ensures

pub returns-in-Cut-clause-delivered : goal.returns-in-Cut-clause-delivered
returns-in-Cut-clause-delivered g c = λ promises n shim keeps. (let flight = c.in-Cut.ensures in cut flight.0 flight.1 flight.2)

pub returns-in_ok-arrival-in-Ready-clause-delivered : goal.returns-in_ok-arrival-in-Ready-clause-delivered
returns-in_ok-arrival-in-Ready-clause-delivered g c = λ promises n shim keeps.
    let holders = c.args.holders.now.items in
    delivered promises n c.args.x.now shim (map g.H.Holder.received holders) (map g.H.Holder.received c.receive_at.new.holders.items) c.args.net.now c.spend.new.self
    c.args.m.0 c.in-Ready.field-0 c.in-Ready.receiver c.package.result.now c.in_ok-arrival-in-Ready.arrival c.reply_of.result
    keeps c.in-Ready.ensures c.spend.ensures c.package.ensures
    (subst (λ (n : ℕ). GoWithin n c.args.net.now.messages) (sym (length-map holders g.H.Holder.received)) c.requires.receivers)
    c.in_ok-arrival-in-Ready.ensures.receipt c.reply_of.ensures

pub returns-in_err-arrival-in-Ready-clause-delivered : goal.returns-in_err-arrival-in-Ready-clause-delivered
returns-in_err-arrival-in-Ready-clause-delivered g c = let p = err_from_is_err_and c.from_residual.result c.from_residual.ensures.1 in rw p.1 tt
