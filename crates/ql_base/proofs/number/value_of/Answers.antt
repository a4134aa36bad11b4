use Rattle.std.proofs.Common.{◌+◌, arith}
use Rattle.std.proofs.lemmas.Str.Parse.{digits_value-take-le}
use Rattle.ql_base.proofs.Numerals.{value_more, digit_range}
use Rattle.ql_base.proofs.number.value_of.Goals as goal

pub overflow_sub-next : goal.overflow_sub-next
overflow_sub-next c = (digit_range _ (c.requires c.loop-b.b-index 0 c.loop-b-test.true)).0

pub returns-then-next-most : goal.returns-then-next-most
returns-then-next-most c = omega (arith, value_more c.args.digits.now c.loop-b.b-index c.requires c.loop-b-test.true, digits_value-take-le 10 c.args.digits.now (c.loop-b.b-index + 1) (omega arith))

pub loop-b-preserved : goal.loop-b-preserved
loop-b-preserved c = let e = value_more c.args.digits.now c.loop-b.b-index c.requires c.loop-b-test.true in (omega arith, omega arith)
