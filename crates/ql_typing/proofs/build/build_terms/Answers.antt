use Rattle.std.proofs.Common.{[], ◌∙◌}
use Rattle.ql_typing.specs.Resolved.{term_of}
use Rattle.ql_typing.proofs.Mapped.{mapped_step, mapped_end}
use Rattle.ql_typing.proofs.build.build_terms.Goals as goal

pub loop-point-init : goal.loop-point-init
loop-point-init c = c.in_ok-terms.ensures.items

pub loop-point-preserved : goal.loop-point-preserved
loop-point-preserved c =
    rw (c.in_ok-push.ensures.items, c.build_term.ensures)
    (mapped_step (term_of c.args.vars.now) c.args.points.now c.loop-point.point-index [] c.loop-point.terms.items c.point-item.result c.loop-point-test.true c.point-item.is c.loop-point.invariant)

pub returns : goal.returns
returns c = c.of.ensures ∙ mapped_end (term_of c.args.vars.now) c.args.points.now c.loop-point.point-index [] c.loop-point.terms.items c.loop-point-test.false c.loop-point.invariant
