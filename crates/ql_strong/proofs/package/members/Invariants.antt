use Rattle.std.proofs.Common.{◌≡◌, true, take}
use Rattle.ql_exec.specs.Relations.{inside}
use Rattle.ql_machine.specs.Sets.{AreThose}
use Rattle.ql_strong.proofs.package.members.Given as goal

abbrev pub invariant-loop-k : goal.invariant-loop-k
invariant-loop-k l = AreThose (λ a. inside (take l.k l.effects) l.run.0 a ≡ true) l.ids
