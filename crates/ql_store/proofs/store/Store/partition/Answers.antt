use Rattle.std.proofs.Common.{◌≡◌, length, map, refl, sym, subst}
use Rattle.ql_machine.specs.declared.event.Event.TheVariants as event
use Rattle.ql_machine.specs.declared.reply.Reply.TheVariants as reply
use Rattle.ql_machine.specs.Rules.{Rules}
use Rattle.ql_machine.specs.Steps.{IsStep}
use Rattle.ql_store.specs.Levels.{promises_of}
use Rattle.ql_store.specs.State.{StoreState, machine_of}
use Rattle.ql_store.proofs.KeptLaws.{kept-step, some_rules}
use Rattle.ql_store.proofs.NetLaws.{step-splits}
use Rattle.ql_store.proofs.store.Store.partition.Goals as goal

pub invariant_of-self : goal.invariant_of-self
invariant_of-self g c =
    let fields = c.self.inside in
    let received = map g.H.Holder.received fields.holders.items in
    let rules = some_rules (promises_of fields.levels) in
    let start = machine_of fields.execution received fields.net fields.shim in
    let end = machine_of fields.execution received c.partition.new.self fields.shim in
    let kept = c.self.invariant.0 in
    let inside : length c.args.groups ≡ length received = subst (λ (s : StoreState). length c.args.groups ≡ length s.machine.received) (sym c.self.view_is) c.requires in (
      kept-step fields.levels rules start end fields.sessions fields.sessions fields.shim fields.shim (event.Partition c.args.groups) reply.Split refl kept
          (step-splits rules fields.execution received fields.shim fields.net c.partition.new.self c.args.groups c.partition.ensures) inside kept.noted kept.known,
      c.self.invariant.1,
    )

pub returns-clause-step : goal.returns-clause-step
returns-clause-step g c =
    let fields = c.self.inside in
    let received = map g.H.Holder.received fields.holders.items in
    subst (λ (s : StoreState). (rules : Rules) → IsStep rules s.machine (event.Partition c.args.groups) (machine_of fields.execution received c.partition.new.self fields.shim) reply.Split) c.self.view_is
    (λ rules. step-splits rules fields.execution received fields.shim fields.net c.partition.new.self c.args.groups c.partition.ensures)
