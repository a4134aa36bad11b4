use Rattle.ql_verdicts.proofs.Distinct.{distinct, each_use, only_uses}
use Rattle.ql_verdicts.proofs.uses.uses_are_operations.Goals as goal

pub returns-clause-distinct : goal.returns-clause-distinct
returns-clause-distinct c = distinct

pub returns-clause-each : goal.returns-clause-each
returns-clause-each c = each_use

pub returns-clause-only : goal.returns-clause-only
returns-clause-only c = only_uses
