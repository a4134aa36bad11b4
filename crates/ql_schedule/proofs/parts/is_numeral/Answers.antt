use Rattle.std.proofs.Common.{arith}
use Rattle.std.proofs.lemmas.Bool.Decides.{nat_tests}
use Rattle.ql_base.specs.Bytes.{is_digit}
use Rattle.ql_base.proofs.Fronts.{front_all, all_front}
use Rattle.ql_schedule.proofs.parts.is_numeral.Goals as goal

pub returns-then-text-gt1 : goal.returns-then-text-gt1
returns-then-text-gt1 c = (
  λ t. record {
    digits = all_front is_digit c.args.text.now cc;
    some = omega arith;
    first = λ z. grind (arith, nat_tests);
  },
  λ numeral. let first = numeral.first in grind (arith, nat_tests),
)

pub returns-else-digit_bytes-text : goal.returns-else-digit_bytes-text
returns-else-digit_bytes-text c = (
  λ t. absurd (grind (arith, nat_tests)),
  λ numeral. let e = front_all is_digit c.args.text.now numeral.digits in grind (arith, nat_tests),
)
