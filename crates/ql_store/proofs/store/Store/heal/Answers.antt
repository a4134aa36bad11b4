use Rattle.std.proofs.Common.{map, refl, subst}
use Rattle.ql_machine.specs.declared.event.Event.TheVariants as event
use Rattle.ql_machine.specs.declared.reply.Reply.TheVariants as reply
use Rattle.ql_machine.specs.Rules.{Rules}
use Rattle.ql_machine.specs.Steps.{IsStep}
use Rattle.ql_store.specs.Levels.{promises_of}
use Rattle.ql_store.specs.State.{StoreState, machine_of}
use Rattle.ql_store.proofs.KeptLaws.{kept-step, some_rules}
use Rattle.ql_store.proofs.NetLaws.{step-heals}
use Rattle.ql_store.proofs.store.Store.heal.Goals as goal

pub invariant_of-self : goal.invariant_of-self
invariant_of-self g c =
    let fields = c.self.inside in
    let received = map g.H.Holder.received fields.holders.items in
    let rules = some_rules (promises_of fields.levels) in
    let start = machine_of fields.execution received fields.net fields.shim in
    let end = machine_of fields.execution received c.heal.new.self fields.shim in
    let kept = c.self.invariant.0 in (
      kept-step fields.levels rules start end fields.sessions fields.sessions fields.shim fields.shim event.Heal reply.Healed refl kept
          (step-heals rules fields.execution received fields.shim fields.net c.heal.new.self kept.grouped c.heal.ensures) tt kept.noted kept.known,
      c.self.invariant.1,
    )

pub returns-clause-step : goal.returns-clause-step
returns-clause-step g c =
    let fields = c.self.inside in
    let received = map g.H.Holder.received fields.holders.items in
    subst (λ (s : StoreState). (rules : Rules) → IsStep rules s.machine event.Heal (machine_of fields.execution received c.heal.new.self fields.shim) reply.Healed) c.self.view_is
    (λ rules. step-heals rules fields.execution received fields.shim fields.net c.heal.new.self c.self.invariant.0.grouped c.heal.ensures)
