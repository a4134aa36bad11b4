use Rattle.ql_schedule.proofs.ArgumentLaws.{matched}
use Rattle.ql_schedule.proofs.argument.is_scalar.Goals as goal

pub returns-in-Int : goal.returns-in-Int
returns-in-Int c = matched c.args.value.now c.in-Int.is

pub returns-in-Int-2 : goal.returns-in-Int-2
returns-in-Int-2 c = matched c.args.value.now c.in-Int.is

pub returns-in-Int-3 : goal.returns-in-Int-3
returns-in-Int-3 c = matched c.args.value.now c.in-Int.is
