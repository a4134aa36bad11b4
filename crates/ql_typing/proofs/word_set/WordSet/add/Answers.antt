use Rattle.std.proofs.Common.{◌≡◌, Bool, true, false, not, sym, ap}
use Rattle.ql_typing.proofs.WordEq.{word_eq}
use Rattle.ql_typing.proofs.word_set.WordSet.add.Goals as goal

other_way : (known new : Bool) → new ≡ not known → known ≡ not new
other_way true new h = sym (ap not h)
other_way false new h = sym (ap not h)

pub returns-clause-words : goal.returns-clause-words
returns-clause-words c = rw (← c.self.view_is, ← word_eq) c.in_ok-insert.ensures.keys

pub returns-clause-known : goal.returns-clause-known
returns-clause-known c = rw (← c.self.view_is, ← word_eq) (other_way _ _ c.in_ok-insert.ensures.added)
