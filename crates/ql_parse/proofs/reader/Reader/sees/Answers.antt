use Rattle.std.proofs.Common.{sym, ◌∙◌}
use Rattle.ql_parse.proofs.ReaderLemmas.{sees_some, sees_none}
use Rattle.ql_parse.proofs.reader.Reader.sees.Goals as goal

pub returns-in-Some : goal.returns-in-Some
returns-in-Some c = rw (← c.self.view_is, c.is_same.ensures) (sees_some _ _ _ (sym c.in-Some.is ∙ c.self.invariant.ahead_is))

pub returns-in-None : goal.returns-in-None
returns-in-None c = rw (← c.self.view_is) (sees_none _ _ (sym c.in-None.is ∙ c.self.invariant.ahead_is))
