use Rattle.std.proofs.Common.{arith, w64}
use Rattle.std.proofs.lemmas.Int.{to_z_pos}
use Rattle.ql_value.proofs.NumberText.{plain_some, plain_none}
use Rattle.ql_value.proofs.reading_scalar.plain.Goals as goal

pub returns-in-Some : goal.returns-in-Some
returns-in-Some c = (c.digits_end-to.ensures.within, rw (to_z_pos w64 c.in-Some.n (omega (arith, c.in-Some.ensures.bounded))) (plain_some c.args.bytes.now c.args.at c.digits_end-to.result c.digits_end-to.ensures.end c.in-Some.n c.in-Some.ensures))

pub returns-in-None : goal.returns-in-None
returns-in-None c = (c.requires, plain_none c.args.bytes.now c.args.at c.digits_end-to.result c.digits_end-to.ensures.end c.in-None.ensures)
