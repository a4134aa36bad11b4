use Rattle.std.proofs.Common.{arith}
use Rattle.std.proofs.lemmas.Bool.Decides.{nat_tests}
use Rattle.ql_base.proofs.IdLemmas.{has_id-there}
use Rattle.ql_shim.proofs.lookup.is_at.Goals as goal

pub returns-then-at-ids-clause-found : goal.returns-then-at-ids-clause-found
returns-then-at-ids-clause-found c = λ is. has_id-there c.args.ids.now c.args.id c.args.at c.if-at-ids.true (grind (arith, nat_tests, is))
