use Rattle.ql_holder.specs.Closed.{Has}
use Rattle.ql_holder.specs.Needs.{Needs}
use Rattle.ql_holder.proofs.ClosedLaws.{closed-member, closed-need, closed-from, closed-larger}
use Rattle.ql_holder.proofs.laws.closed_parts.Goals as goal

pub returns-clause-member : goal.returns-clause-member
returns-clause-member c = λ x ids a closed. closed-member (Needs x) (Has ids) a closed

pub returns-clause-needed : goal.returns-clause-needed
returns-clause-needed c = λ x ids a b closed need. closed-need (Needs x) (Has ids) a b closed need

pub returns-clause-greatest : goal.returns-clause-greatest
returns-clause-greatest c = λ x ids part within each a is. closed-from (Needs x) (Has ids) (Has part) within each a is

pub returns-clause-larger : goal.returns-clause-larger
returns-clause-larger c = λ x ids more within a closed. closed-larger (Needs x) (Has ids) (Has more) within a closed
