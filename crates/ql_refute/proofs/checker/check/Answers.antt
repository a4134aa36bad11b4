use Rattle.std.proofs.Common.{sym, ◌∙◌}
use Rattle.ql_refute.proofs.Soundness.{accepted_is_unsatisfiable}
use Rattle.ql_refute.proofs.checker.check.Goals as goal

pub returns-clause-unsatisfiable : goal.returns-clause-unsatisfiable
returns-clause-unsatisfiable c = λ accepted. accepted_is_unsatisfiable c.args.c.now c.args.r.now.lines (rw c.items.ensures at (sym c.judge.ensures ∙ accepted))
