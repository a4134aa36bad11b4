-- A goal whose ground problem is known gives its contract where it is implied.
use Rattle.ql_cnf.specs.Satisfaction.{ClauseList}
use Rattle.ql_ground.specs.OfPrograms as ground
use Rattle.ql_ground.specs.declared.goal.Goal.{Goal}
use Rattle.ql_ground.specs.declared.goal.Goal.TheVariants.{OpAt, TxnAt}
use Rattle.ql_lang.specs.declared.program.Program.{Program}
use Rattle.ql_typing.specs.Operations.{op_kinds}
use Rattle.ql_implication.specs.OfPrograms.{GivesContract}
use Rattle.ql_implication.proofs.Same.{op_implied, txn_implied}

pub problem_gives : (p : Program) (g : Goal) (c : ClauseList) → ground.IsProblemOf p g c → ground.IsImplied p g → GivesContract p g
problem_gives p (OpAt o level) c problem h = (problem.0, problem.1, op_implied (op_kinds p.types) o.0 level problem.0 (h problem.0 problem.1))
problem_gives p (TxnAt d level) c problem h = (problem.0, problem.1, txn_implied (op_kinds p.types) level problem.0 (h problem.0 problem.1))
