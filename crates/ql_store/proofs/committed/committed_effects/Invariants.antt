use Rattle.std.proofs.Common.{◌≡◌, true, take}
use Rattle.ql_machine.specs.Sets.{AreThose}
use Rattle.ql_machine.specs.State.{committed}
use Rattle.ql_shim.specs.Transactions.{open_txns}
use Rattle.ql_store.proofs.committed.committed_effects.Given as goal

abbrev pub invariant-loop-k : goal.invariant-loop-k
invariant-loop-k l = AreThose (λ a. committed (take l.k l.effects) (open_txns l.shim) a ≡ true) l.ids
