use Rattle.ql_base.proofs.Numbered.{word_eq}
use Rattle.ql_base.proofs.numbering.Names.len.Goals as goal

pub returns-clause-distinct : goal.returns-clause-distinct
returns-clause-distinct c = rw (← c.self.view_is, ← word_eq) c.len.ensures.unique
