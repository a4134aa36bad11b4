use Rattle.std.proofs.Common.{ℕ, take}
use Rattle.ql_base.specs.declared.ids.ObjId.{ObjId}
use Rattle.ql_exec.specs.Effects.{effect_at}
use Rattle.ql_exec.specs.Execution.{IsOn}
use Rattle.ql_holder.specs.Closed.{Has}
use Rattle.ql_machine.specs.Blocking.{IsOf}
use Rattle.ql_machine.specs.Sets.{AreThose}
use Rattle.ql_shim.proofs.NextLaws.{IsUnderWay}
use Rattle.ql_shim.proofs.scope.one_by_one.Given as goal

abbrev pub invariant-loop-a : goal.invariant-loop-a
invariant-loop-a l =
    (o : ObjId) → AreThose (λ a. IsOn o (effect_at l.x a)) l.on → ((a : ℕ) → Has l.running.own a → IsOf l.running.txn.session (effect_at l.x a))
    → IsUnderWay l.x l.running.txn.session l.running.own l.others (take l.a-index l.on) l.gathered.ids l.gathered.whole
