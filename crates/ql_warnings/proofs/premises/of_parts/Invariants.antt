use Rattle.std.specs.Prelude.{List}
use Rattle.std.specs.List.{All}
use Rattle.ql_lang.specs.Formulas.{Statement}
use Rattle.ql_lang.specs.declared.formula.OpChoice.{OpChoice}
use Rattle.ql_lang.specs.declared.program.Program.{Program}
use Rattle.ql_ground.specs.declared.goal.Goal.{Goal}
use Rattle.ql_warnings.specs.Known.{IsPartOf}
use Rattle.ql_warnings.specs.Warnings.{IsOfPremise}
use Rattle.ql_warnings.proofs.premises.of_parts.Given as goal

abbrev pub invariant-loop-k : goal.invariant-loop-k
invariant-loop-k l = (p : Program) (g : Goal) (vars : List OpChoice) (premise : Statement) → All (IsPartOf premise) l.known → All (IsOfPremise l.source p g vars premise) l.found.items
