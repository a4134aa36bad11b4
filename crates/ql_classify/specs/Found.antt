-- What the solver's result shows about a goal, and the search through the goals of a target.
use Rattle.std.specs.Prelude.{List}
use Rattle.ql_ground.specs.declared.goal.Goal.{Goal}
use Rattle.ql_lang.specs.declared.program.Program.{Program}
use Rattle.ql_sat.specs.declared.decided.Decided.{Decided}
use Rattle.ql_sat.specs.declared.decided.Decided.TheVariants.{Model, Refuted}
use Rattle.ql_counter.specs.Countermodels.{IsSatisfiedBy}
use Rattle.ql_classify.specs.Goals.{IsEnough, IsFirstRefuted, IsLastSatisfied}
use Rattle.ql_classify.specs.declared.evidence.Search.{Search}
use Rattle.ql_classify.specs.declared.evidence.Search.TheVariants as search

abbrev pub IsAnswer : Program → Goal → Decided → Type 0
IsAnswer p g (Model a) = IsSatisfiedBy p g a
IsAnswer p g (Refuted r) = IsEnough p g r.lines

abbrev pub IsSearch : Program → List Goal → Search → Type 0
IsSearch p goals (search.Refuted e) = IsFirstRefuted p goals e.lower.items e.refutation.lines
IsSearch p goals (search.Satisfied a) = IsLastSatisfied p goals a
