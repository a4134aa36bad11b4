use Rattle.std.proofs.Common.{◌≡◌, take}
use Rattle.ql_schedule.proofs.making.groups.Given as goal

abbrev pub invariant-loop-number : goal.invariant-loop-number
invariant-loop-number l = l.groups.items ≡ take l.number-index l.numbers
