use Rattle.ql_lang.specs.Programs.{transaction_of}
use Rattle.ql_lang.specs.ProgramSpelling.{transaction_text}
use Rattle.ql_lang.proofs.Appending.{none_left, one_fewer}
use Rattle.ql_lang.proofs.print_programs.push_transactions.Goals as goal

pub loop-txn-preserved : goal.loop-txn-preserved
loop-txn-preserved c =
    one_fewer transaction_text transaction_of c.args.txns.now c.loop-txn.txn-index c.txn-item.result c.loop-txn.out.items c.push_transaction.new.out.items _ c.loop-txn-test.true c.txn-item.is c.loop-txn.invariant c.in_ok-push_transaction.ensures

pub returns : goal.returns
returns c = none_left transaction_text transaction_of _ c.loop-txn.txn-index c.loop-txn.out.items _ c.loop-txn-test.false c.loop-txn.invariant
