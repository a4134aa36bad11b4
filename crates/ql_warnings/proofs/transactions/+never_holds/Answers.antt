use Rattle.ql_warnings.proofs.Torn.{torn}
use Rattle.ql_warnings.proofs.transactions.+never_holds.Goals as goal

pub returns-in-Txn : goal.returns-in-Txn
returns-in-Txn t c = λ is. rw (c.in-Txn.is, ← c.items.ensures, ← c.items-in-Txn.ensures)
    (torn c.items.result.now c.items-in-Txn.result.now (c.share_a_term.ensures is))
