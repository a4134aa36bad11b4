use Rattle.ql_strong.proofs.SyncLaws.{received-twice}
use Rattle.ql_strong.proofs.law.received_at_once.Goals as goal

pub returns : goal.returns
returns c = received-twice
