use Rattle.std.proofs.lemmas.Result.{err_from_is_err_and}
use Rattle.std.proofs.Common.{map}
use Rattle.ql_store.proofs.ReceiptLaws.{receipt-new}
use Rattle.ql_store.proofs.spread.spread.Goals as goal

pub returns-clause-received : goal.returns-clause-received
returns-clause-received g c =
    receipt-new c.args.x.now (map g.H.Holder.received c.args.holders.now.items) c.args.r.0 c.args.pack.now (map g.H.Holder.received c.receive_at.new.holders.items)
    c.in-Ok.field-0 c.requires.package c.requires.new c.in-Ok.ensures.receipt

pub returns-in_err-send_to_others-clause-received : goal.returns-in_err-send_to_others-clause-received
returns-in_err-send_to_others-clause-received g c = let p = err_from_is_err_and c.from_residual.result c.from_residual.ensures.1 in rw p.1 tt

pub returns-in_err-send_to_others-clause-sent : goal.returns-in_err-send_to_others-clause-sent
returns-in_err-send_to_others-clause-sent g c = let p = err_from_is_err_and c.from_residual.result c.from_residual.ensures.1 in rw p.1 tt
