use Rattle.ql_ground.proofs.Refuted.{op_sound}
use Rattle.ql_ground.proofs.soundness.refuted_op_is_implied.Goals as goal

pub returns : goal.returns
returns c = op_sound
