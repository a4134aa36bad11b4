-- What is known where the sections of a certificate are checked.
use Rattle.std.specs.Prelude.{◌≡◌, ℕ, suc, List, [], ◌∷◌, Some, slice_get}
use Rattle.ql_cert.specs.declared.cert.Section.{Section}
use Rattle.ql_cnf.specs.Satisfaction.{ClauseList}
use Rattle.ql_ground.specs.OfPrograms.{IsProblemOf}
use Rattle.ql_ground.specs.declared.goal.Goal.{Goal}
use Rattle.ql_implication.specs.OfPrograms.{GivesContract}
use Rattle.ql_lang.specs.declared.program.Program.{Program}
use Rattle.ql_refute.specs.Verdict.{verdict}
use Rattle.ql_refute.specs.declared.refutation.Line.{Line}
use Rattle.ql_refute.specs.declared.verdict.Verdict.{Verdict}
use Rattle.ql_refute.specs.declared.verdict.Verdict.TheVariants.{Accepted}
use Rattle.ql_commands.specs.Check.{target_of, expected_targets}

-- the sections from an index on are those that are expected
abbrev pub AreExpectedFrom : Program → ℕ → List Section → Type 0
AreExpectedFrom p place [] = Unit {0}
AreExpectedFrom p place (s ∷ ss) = (slice_get (expected_targets p) place ≡ Some (target_of s)) × AreExpectedFrom p (suc place) ss

-- the verdict on the lines as a refutation of the goal's ground problem; where it is accepted, the level guarantees the contract
pub record IsVerdictOn (p : Program) (g : Goal) (lines : List Line) (v : Verdict) : Type 0 where
  pub clauses : ClauseList
  pub problem : IsProblemOf p g clauses
  pub verdict_is : verdict clauses lines ≡ v
  pub gives : v ≡ Accepted → GivesContract p g
