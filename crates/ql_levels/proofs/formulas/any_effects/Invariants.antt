use Rattle.std.proofs.Common.{◌≡◌, replicate}
use Rattle.ql_lang.specs.declared.formula.OpChoice.TheVariants.{Any}
use Rattle.ql_levels.proofs.formulas.any_effects.Given as goal

abbrev pub invariant-loop : goal.invariant-loop
invariant-loop l = l.choices.items ≡ replicate l.counter Any
