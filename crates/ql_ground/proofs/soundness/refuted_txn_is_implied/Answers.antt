use Rattle.ql_ground.proofs.Refuted.{txn_sound}
use Rattle.ql_ground.proofs.soundness.refuted_txn_is_implied.Goals as goal

pub returns : goal.returns
returns c = txn_sound
