use Rattle.ql_machine.proofs.Alone.{applied-same, others-same, own-same, reaches-same}
use Rattle.ql_machine.proofs.packages.replicas_judge_alone.Goals as goal

pub returns-clause-reached : goal.returns-clause-reached
returns-clause-reached c = reaches-same

pub returns-clause-applied : goal.returns-clause-applied
returns-clause-applied c = applied-same

pub returns-clause-others : goal.returns-clause-others
returns-clause-others c = others-same

pub returns-clause-own : goal.returns-clause-own
returns-clause-own c = own-same
