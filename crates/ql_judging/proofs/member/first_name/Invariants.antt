use Rattle.std.proofs.Common.{◌≡◌, drop}
use Rattle.ql_judging.specs.Members.{first_name}
use Rattle.ql_judging.proofs.member.first_name.Given as goal

abbrev pub invariant-loop-effect : goal.invariant-loop-effect
invariant-loop-effect l = first_name l.run.0 l.effects ≡ first_name l.run.0 (drop l.effect-index l.effects)
