use Rattle.std.proofs.Common.{None}
use Rattle.ql_sat.proofs.Searching.{number_step, searching_push}
use Rattle.ql_sat.proofs.trail.decide_on.Goals as goal

pub returns-clause-searching : goal.returns-clause-searching
returns-clause-searching c =
    λ d lines h. rw (c.in_ok-push.ensures.steps, c.in_ok-push.ensures.marks) (searching_push d lines c.args.trail.now.steps.items c.args.trail.now.marks.items (record { lit = c.args.lit; reason = None }) h c.requires.in_range c.requires.unset)

pub returns-clause-number : goal.returns-clause-number
returns-clause-number c =
    λ d lines h. rw c.in_ok-push.ensures.steps (number_step d lines c.args.trail.now.steps.items c.args.trail.now.marks.items (record { lit = c.args.lit; reason = None }) h c.requires.in_range c.requires.unset)
