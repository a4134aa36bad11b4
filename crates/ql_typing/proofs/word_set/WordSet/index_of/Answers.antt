use Rattle.ql_typing.proofs.WordEq.{word_eq}
use Rattle.ql_typing.proofs.word_set.WordSet.index_of.Goals as goal

pub returns-clause-place : goal.returns-clause-place
returns-clause-place c = rw (← c.self.view_is, ← word_eq) c.get_index_of.ensures.index
