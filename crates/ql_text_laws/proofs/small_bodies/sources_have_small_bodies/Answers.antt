use Rattle.ql_text_laws.proofs.SmallBodies.{program_few}
use Rattle.ql_text_laws.proofs.small_bodies.sources_have_small_bodies.Goals as goal

pub returns : goal.returns
returns c = λ bytes p source. program_few p (c.source_printed_again.ensures.few bytes _ source.0)
