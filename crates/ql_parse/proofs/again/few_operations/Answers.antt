use Rattle.ql_parse.proofs.FewOperations.{few_operations as within}
use Rattle.ql_parse.proofs.again.few_operations.Goals as goal

pub returns : goal.returns
returns c = within
