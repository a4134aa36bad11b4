use Rattle.std.proofs.Common.{◌≡◌, true, take}
use Rattle.ql_exec.specs.Effects.{effect_at, one}
use Rattle.ql_machine.specs.Sets.{AreThose}
use Rattle.ql_store.specs.Joining.{is_strong}
use Rattle.ql_store.specs.Levels.{promises_of}
use Rattle.ql_store.proofs.join.strong_effects.Given as goal

abbrev pub invariant-loop-k : goal.invariant-loop-k
invariant-loop-k l = AreThose (λ a. one (λ e. is_strong ((promises_of l.levels).level e.op)) (effect_at (take l.k l.effects) a) ≡ true) l.ids
