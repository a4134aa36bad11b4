use Rattle.std.proofs.lemmas.Bool.{both_ways}
use Rattle.ql_plain_holder.proofs.PlainReceipts.{close-one, close-none, on-ok}
use Rattle.ql_plain_holder.proofs.closing.close.Goals as goal

pub returns-then-is_closed : goal.returns-then-is_closed
returns-then-is_closed c =
    on-ok c.insert_id.result
    (close-one c.args.x.now c.args.after.now c.args.closed.now c.insert_id.new.ids c.args.id (c.in_ok-is_closed.ensures.0 c.if-is_closed.true)) c.insert_id.ensures

pub returns-else-is_closed : goal.returns-else-is_closed
returns-else-is_closed c =
    close-none c.args.x.now c.args.after.now c.args.closed.now c.args.id (λ closed. both_ways c.in_ok-is_closed.is_closed c.if-is_closed.false (c.in_ok-is_closed.ensures.1 closed))
