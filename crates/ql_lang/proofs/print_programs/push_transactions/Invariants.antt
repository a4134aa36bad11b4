use Rattle.std.proofs.Common.{◌≡◌, ◌++◌, map, drop}
use Rattle.std.specs.List.{concat}
use Rattle.ql_lang.specs.Programs.{transaction_of}
use Rattle.ql_lang.specs.ProgramSpelling.{transaction_text}
use Rattle.ql_lang.proofs.print_programs.push_transactions.Given as goal

abbrev pub invariant-loop-txn : goal.invariant-loop-txn
invariant-loop-txn l = l.out.items ++ concat (map transaction_text (map transaction_of (drop l.txn-index l.txns))) ≡ l.fn.out.items ++ concat (map transaction_text (map transaction_of l.txns))
