use Rattle.ql_lang.specs.Expressions.{expression_of}
use Rattle.ql_eval.proofs.Accepted.{accepted}
use Rattle.ql_eval.proofs.NeverStuck.{never_stuck}
use Rattle.ql_eval.proofs.evaluation.eval.Goals as goal

pub returns-clause-never_stuck : goal.returns-clause-never_stuck
returns-clause-never_stuck c = never_stuck (expression_of c.args.e.now)

pub returns-in_err-value-clause-never_stuck : goal.returns-in_err-value-clause-never_stuck
returns-in_err-value-clause-never_stuck c = never_stuck (expression_of c.args.e.now)

pub returns-clause-accepted : goal.returns-clause-accepted
returns-clause-accepted c = accepted (expression_of c.args.e.now)

pub returns-in_err-value-clause-accepted : goal.returns-in_err-value-clause-accepted
returns-in_err-value-clause-accepted c = accepted (expression_of c.args.e.now)
