use Rattle.ql_typing.proofs.WordEq.{word_eq}
use Rattle.ql_typing.proofs.word_set.WordSet.has.Goals as goal

pub returns : goal.returns
returns c = rw (← c.self.view_is, ← word_eq) c.contains.ensures
