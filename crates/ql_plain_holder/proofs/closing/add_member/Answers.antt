use Rattle.std.proofs.Common.{nat_eq, sym}
use Rattle.ql_base.specs.IdLists.{has_id}
use Rattle.ql_exec.specs.Relations.{sametxn}
use Rattle.ql_plain_holder.proofs.PlainReceipts.{member-added, member-left, on-ok}
use Rattle.ql_plain_holder.proofs.closing.add_member.Goals as goal

pub returns-then-is_same_txn : goal.returns-then-is_same_txn
returns-then-is_same_txn c =
    on-ok c.insert_id.result
    (λ added a. member-added (has_id c.args.pack.now a) (has_id c.insert_id.new.ids a) (nat_eq c.args.other a) (sametxn c.args.x.now c.args.id c.args.other) (sym c.if-is_same_txn.ensures) (added a)) c.insert_id.ensures

pub returns-else-is_same_txn : goal.returns-else-is_same_txn
returns-else-is_same_txn c = λ a. member-left (has_id c.args.pack.now a) (nat_eq c.args.other a) (sametxn c.args.x.now c.args.id c.args.other) (sym c.if-is_same_txn.ensures)
