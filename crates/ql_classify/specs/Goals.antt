-- What the solver's result shows about a goal, and what a search through goals finds.
use Rattle.std.specs.Prelude.{◌≡◌, Bool, List, [], ◌∷◌}
use Rattle.ql_cnf.specs.Satisfaction.{ClauseList}
use Rattle.ql_counter.specs.Countermodels.{IsSatisfiedBy}
use Rattle.ql_ground.specs.declared.goal.Goal.{Goal}
use Rattle.ql_ground.specs.OfPrograms.{IsProblemOf}
use Rattle.ql_implication.specs.OfPrograms.{GivesContract}
use Rattle.ql_lang.specs.declared.program.Program.{Program}
use Rattle.ql_refute.specs.Verdict.{verdict}
use Rattle.ql_refute.specs.declared.refutation.Line.{Line}
use Rattle.ql_refute.specs.declared.verdict.Verdict.TheVariants.{Accepted}
use Rattle.ql_sat.specs.Answer.{AreNumbered}

-- the checker accepts the lines as a refutation of the goal's problem
abbrev pub IsRefutedBy : Program → Goal → List Line → Type 0
IsRefutedBy p g lines = (c : ClauseList) × IsProblemOf p g c × (verdict c lines ≡ Accepted)

-- the goal's level is enough: its problem is refuted, by lines whose hints count from 1, and in every execution the
-- level implies the contract
abbrev pub IsEnough : Program → Goal → List Line → Type 0
IsEnough p g lines = IsRefutedBy p g lines × AreNumbered lines × GivesContract p g

-- The assignments satisfy the first goals' problems, one each in order, and the lines refute that of the next.
abbrev pub IsFirstRefuted : Program → List Goal → List (List Bool) → List Line → Type 0
IsFirstRefuted p [] lower lines = ⊥
IsFirstRefuted p (g ∷ goals) [] lines = IsEnough p g lines
IsFirstRefuted p (g ∷ goals) (a ∷ lower) lines = IsSatisfiedBy p g a × IsFirstRefuted p goals lower lines

-- the assignment satisfies the last goal's problem
abbrev pub IsLastSatisfied : Program → List Goal → List Bool → Type 0
IsLastSatisfied p [] a = ⊥
IsLastSatisfied p (g ∷ []) a = IsSatisfiedBy p g a
IsLastSatisfied p (g ∷ next ∷ goals) a = IsLastSatisfied p (next ∷ goals) a
