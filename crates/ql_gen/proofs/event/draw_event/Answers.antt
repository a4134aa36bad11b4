use Rattle.std.proofs.Common.{◌≡◌, IfOk, subst}
use Rattle.ql_machine.specs.declared.event.Event.{Event}
use Rattle.ql_gen.proofs.EventLaws.{is_begin, is_call, is_commit, is_delivery, is_network}
use Rattle.ql_gen.proofs.event.draw_event.Goals as goal

pub returns-then-kind-lt6-clause-event : goal.returns-then-kind-lt6-clause-event
returns-then-kind-lt6-clause-event c = subst (λ (e : Event). IfOk c.draw_call.result (λ event. event ≡ e))
    (is_call c.args.t.now.program c.args.number c.args.draws.now c.below-kind.result c.below-kind.new.self c.below-kind.ensures.drawn c.below-kind.ensures.state c.if-kind-lt6.true)
    c.draw_call.ensures.event

pub returns-then-kind-lt9-clause-event : goal.returns-then-kind-lt9-clause-event
returns-then-kind-lt9-clause-event c =
    is_delivery c.args.t.now.program c.args.number c.args.draws.now c.below-kind.result c.below-kind.new.self c.below-kind.ensures.drawn c.below-kind.ensures.state
    c.if-kind-lt6.false c.draw_message.result c.if-kind-lt9.true c.draw_message.ensures.message

pub returns-then-kind-eq9-clause-event : goal.returns-then-kind-eq9-clause-event
returns-then-kind-eq9-clause-event c = subst (λ (e : Event). IfOk c.draw_network.result (λ event. event ≡ e))
    (is_network c.args.t.now.program c.args.number c.args.draws.now c.below-kind.result c.below-kind.new.self c.below-kind.ensures.drawn c.below-kind.ensures.state
    c.if-kind-lt6.false c.if-kind-lt9.false c.if-kind-eq9.true)
    c.draw_network.ensures.event

pub returns-then-kind-eq10-clause-event : goal.returns-then-kind-eq10-clause-event
returns-then-kind-eq10-clause-event c = subst (λ (e : Event). IfOk c.draw_begin.result (λ event. event ≡ e))
    (is_begin c.args.t.now.program c.args.number c.args.draws.now c.below-kind.result c.below-kind.new.self c.below-kind.ensures.drawn c.below-kind.ensures.state
    c.if-kind-lt6.false c.if-kind-lt9.false c.if-kind-eq9.false c.if-kind-eq10.true)
    c.draw_begin.ensures.event

pub returns-else-kind-eq10-clause-event : goal.returns-else-kind-eq10-clause-event
returns-else-kind-eq10-clause-event c =
    is_commit c.args.t.now.program c.args.number c.args.draws.now c.below-kind.result c.below-kind.new.self c.below-kind.ensures.drawn c.below-kind.ensures.state
    c.if-kind-lt6.false c.if-kind-lt9.false c.if-kind-eq9.false c.draw_caller.result.0 c.draw_caller.result.1 c.if-kind-eq10.false c.draw_caller.ensures.session c.draw_caller.ensures.replica
