use Rattle.ql_holder.proofs.NeedsLaws.{closed-grown}
use Rattle.ql_holder.proofs.laws.closed_part_stays.Goals as goal

pub returns : goal.returns
returns c = closed-grown
