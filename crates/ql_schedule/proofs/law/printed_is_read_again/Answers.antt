use Rattle.ql_schedule.proofs.FileAgain.{printed_is_read}
use Rattle.ql_schedule.proofs.law.printed_is_read_again.Goals as goal

pub returns : goal.returns
returns c = printed_is_read
