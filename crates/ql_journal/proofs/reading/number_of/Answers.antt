use Rattle.std.proofs.Common.{arith, rules}
use Rattle.std.proofs.lemmas.Nat.{be_bytes_4}
use Rattle.ql_journal.proofs.reading.number_of.Goals as goal

pub returns : goal.returns
returns c = be_bytes_4 c.args.bytes.now c.from_be_bytes.result c.requires (λ i. let byte = c.type_inv.bytes i in omega (arith, byte)) (search rules)
