use Rattle.ql_machine.proofs.Growth.{answers-hold, effects-pass}
use Rattle.ql_machine.proofs.effects.calls_make_effects.Goals as goal

pub returns-clause-asked : goal.returns-clause-asked
returns-clause-asked c = effects-pass

pub returns-clause-answered : goal.returns-clause-answered
returns-clause-answered c = answers-hold
