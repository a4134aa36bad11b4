use Rattle.std.proofs.Common.{sym}
use Rattle.ql_replica.proofs.walking.new_watch.Goals as goal

pub walk_held-requires-clause-held : goal.walk_held-requires-clause-held
walk_held-requires-clause-held c = c.requires.held c.in-Some.held.now (sym c.in-Some.ensures)
