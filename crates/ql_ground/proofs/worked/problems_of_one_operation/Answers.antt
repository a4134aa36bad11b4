use Rattle.std.proofs.Common.{refl}
use Rattle.ql_ground.specs.Ground.{chosen}
use Rattle.ql_ground.proofs.worked.problems_of_one_operation.Goals as goal

pub returns-clause-eventual : goal.returns-clause-eventual
unfolding chosen
returns-clause-eventual c = refl

pub returns-clause-causal : goal.returns-clause-causal
unfolding chosen
returns-clause-causal c = refl

pub returns-clause-wide : goal.returns-clause-wide
unfolding chosen
returns-clause-wide c = refl

pub returns-clause-strong : goal.returns-clause-strong
unfolding chosen
returns-clause-strong c = refl
