use Rattle.ql_holder.proofs.IdSets.{has_id-with, has_id-union, same_ids}
use Rattle.ql_holder.proofs.laws.lists_as_sets.Goals as goal

pub returns-clause-inserted : goal.returns-clause-inserted
returns-clause-inserted c = has_id-with

pub returns-clause-union : goal.returns-clause-union
returns-clause-union c = has_id-union

pub returns-clause-same : goal.returns-clause-same
returns-clause-same c = same_ids
