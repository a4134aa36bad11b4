use Rattle.std.proofs.Common.{map, refl, sym, subst}
use Rattle.ql_machine.specs.declared.event.Event.TheVariants as event
use Rattle.ql_machine.specs.declared.reply.Reply.TheVariants as reply
use Rattle.ql_machine.specs.Rules.{Rules}
use Rattle.ql_machine.specs.Steps.{IsStep, none_to_lose}
use Rattle.ql_net.specs.Network.{Network}
use Rattle.ql_store.specs.Levels.{promises_of}
use Rattle.ql_store.specs.State.{StoreState, machine_of}
use Rattle.ql_store.proofs.KeptLaws.{kept-step, some_rules}
use Rattle.ql_store.proofs.NetLaws.{step-loses}
use Rattle.ql_store.proofs.store.Store.lose.Goals as goal

pub returns-then-not-lose-clause-step : goal.returns-then-not-lose-clause-step
returns-then-not-lose-clause-step g c =
    let fields = c.self.inside in
    let received = map g.H.Holder.received fields.holders.items in
    let none = c.if-not-lose.ensures.gone in
    subst (λ (s : StoreState). (rules : Rules) → IsStep rules s.machine (event.Lose c.args.m) (machine_of fields.execution received c.lose.new.self fields.shim) reply.Gone) c.self.view_is
    (subst (λ (net : Network). (rules : Rules) → IsStep rules (machine_of fields.execution received fields.net fields.shim) (event.Lose c.args.m) (machine_of fields.execution received net fields.shim) reply.Gone) (sym none.1)
    (λ rules. none_to_lose c.args.m none.0))

pub invariant_of-self-2 : goal.invariant_of-self-2
invariant_of-self-2 g c =
    let fields = c.self.inside in
    let received = map g.H.Holder.received fields.holders.items in
    let rules = some_rules (promises_of fields.levels) in
    let start = machine_of fields.execution received fields.net fields.shim in
    let end = machine_of fields.execution received c.lose.new.self fields.shim in
    let kept = c.self.invariant.0 in (
      kept-step fields.levels rules start end fields.sessions fields.sessions fields.shim fields.shim (event.Lose c.args.m) reply.Lost refl kept
          (step-loses rules fields.execution received fields.shim fields.net c.lose.new.self c.args.m c.if-not-lose.ensures.lost) tt kept.noted kept.known,
      c.self.invariant.1,
    )

pub returns-clause-step : goal.returns-clause-step
returns-clause-step g c =
    let fields = c.self.inside in
    let received = map g.H.Holder.received fields.holders.items in
    subst (λ (s : StoreState). (rules : Rules) → IsStep rules s.machine (event.Lose c.args.m) (machine_of fields.execution received c.lose.new.self fields.shim) reply.Lost) c.self.view_is
    (λ rules. step-loses rules fields.execution received fields.shim fields.net c.lose.new.self c.args.m c.if-not-lose.ensures.lost)
