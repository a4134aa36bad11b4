use Rattle.std.proofs.Common.{◌≡◌, map, take}
use Rattle.ql_typing.specs.Resolved.{choice_of}
use Rattle.ql_typing.proofs.build.build_choices.Given as goal

abbrev pub invariant-loop-var : goal.invariant-loop-var
invariant-loop-var l = l.choices.items ≡ map (λ v. choice_of l.ops v.ops) (take l.var-index l.vars)
