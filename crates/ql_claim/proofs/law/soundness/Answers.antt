use Rattle.ql_claim.proofs.SoundClaims.{all-sound}
use Rattle.ql_claim.proofs.law.soundness.Goals as goal

pub returns : goal.returns
returns c = all-sound c.accepted_lines_give_contracts.ensures.yes c.accepted_lines_give_contracts.ensures.no
