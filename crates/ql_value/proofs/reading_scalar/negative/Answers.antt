use Rattle.std.proofs.Common.{arith, w64, rules}
use mir.Val.{SFits}
use Rattle.std.proofs.lemmas.Int.{to_z-of_z}
use Rattle.ql_value.proofs.NumberText.{no_digit, negative_some, negative_zero, negative_none}
use Rattle.ql_value.proofs.reading_scalar.negative.Goals as goal

pub returns-then-to-first : goal.returns-then-to-first
returns-then-to-first c = (omega arith, no_digit c.args.bytes.now c.args.at c.digits_end-to.result c.digits_end-to.ensures.end c.if-to-first.true)

pub returns-then-n-eq0 : goal.returns-then-n-eq0
returns-then-n-eq0 c = (omega arith, negative_zero c.args.bytes.now c.args.at c.digits_end-to.result c.digits_end-to.ensures.end c.if-to-first.false (rw c.if-n-eq0.true at c.in-Some.ensures))

pub returns-else-n-eq0 : goal.returns-else-n-eq0
returns-else-n-eq0 c = let fits : SFits w64 c.negated.result = search rules in (c.digits_end-to.ensures.within, rw (to_z-of_z w64 c.negated.result fits, c.negated.ensures) (negative_some c.args.bytes.now c.args.at c.digits_end-to.result c.digits_end-to.ensures.end c.if-to-first.false c.in-Some.n c.if-n-eq0.false c.in-Some.ensures))

pub returns-in-None : goal.returns-in-None
returns-in-None c = (omega arith, negative_none c.args.bytes.now c.args.at c.digits_end-to.result c.digits_end-to.ensures.end c.if-to-first.false c.in-None.ensures)
