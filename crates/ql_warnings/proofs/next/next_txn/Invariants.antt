use Rattle.ql_lang.specs.declared.program.TxnDecl.{TxnDecl}
use Rattle.ql_warnings.specs.Kept.{IsLeastBetween}
use Rattle.ql_warnings.proofs.Following.{IsAmong}
use Rattle.ql_warnings.proofs.next.next_txn.Given as goal

abbrev pub invariant-loop-d : goal.invariant-loop-d
invariant-loop-d l = IsLeastBetween (IsAmong (λ (d : TxnDecl). d.name.at) l.t.program.txns l.d) l.at l.end l.next
