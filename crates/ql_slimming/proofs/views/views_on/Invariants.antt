use Rattle.ql_slimming.proofs.Prefixes.{AreFirstViews}
use Rattle.ql_slimming.proofs.views.views_on.Given as goal

abbrev pub invariant-loop-r : goal.invariant-loop-r
invariant-loop-r l = AreFirstViews l.store.machine l.object l.r l.views.items
