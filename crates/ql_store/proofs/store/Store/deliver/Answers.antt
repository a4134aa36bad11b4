use Rattle.std.proofs.Common.{◌≡◌, map, refl, sym, subst}
use Rattle.ql_machine.specs.declared.event.Event.TheVariants as event
use Rattle.ql_machine.specs.Rules.{Rules}
use Rattle.ql_machine.specs.State.{Machine}
use Rattle.ql_machine.specs.Steps.{IsStep, delivers}
use Rattle.ql_store.specs.Levels.{promises_of}
use Rattle.ql_store.specs.State.{IsKept, StoreState, machine_of}
use Rattle.std.proofs.lemmas.Result.{MatchResult-weaker}
use Rattle.ql_store.proofs.KeptLaws.{both-failed, by-result, kept-step, machine-same, some_rules}
use Rattle.ql_store.proofs.store.Store.deliver.Goals as goal

pub invariant_of-self : goal.invariant_of-self
invariant_of-self g c =
    let fields = c.self.inside in
    let received = map g.H.Holder.received fields.holders.items in
    let after = map g.H.Holder.received c.deliver.new.holders.items in
    let kept = c.self.invariant.0 in
    let rules = some_rules (promises_of fields.levels) in
    let start = machine_of fields.execution received fields.net fields.shim in
    let end = machine_of fields.execution after c.deliver.new.net fields.shim in (
      by-result c.deliver.result _ (end ≡ start) (IsKept fields.levels end fields.sessions fields.shim) c.deliver.ensures.delivered
          (both-failed c.deliver.result (after ≡ received) (c.deliver.new.net ≡ fields.net) (end ≡ start) c.deliver.ensures.same c.deliver.ensures.net
          (machine-same fields.execution received after fields.net c.deliver.new.net fields.shim))
          (λ r is. kept-step fields.levels rules start end fields.sessions fields.sessions fields.shim fields.shim (event.Deliver c.args.m) r refl kept
          (delivers c.args.m end r (is (promises_of fields.levels) _ fields.shim kept.keeps)) tt kept.noted kept.known)
          (λ same. subst (λ (s : Machine). IsKept fields.levels s fields.sessions fields.shim) (sym same) kept),
      c.deliver.ensures.fit,
    )

pub returns-clause-step : goal.returns-clause-step
returns-clause-step g c =
    let fields = c.self.inside in
    let received = map g.H.Holder.received fields.holders.items in
    let after = map g.H.Holder.received c.deliver.new.holders.items in
    let start = machine_of fields.execution received fields.net fields.shim in
    let end = machine_of fields.execution after c.deliver.new.net fields.shim in
    MatchResult-weaker c.deliver.result c.deliver.ensures.delivered
    (λ r is. subst (λ (s : StoreState). (rules : Rules) → IsStep rules s.machine (event.Deliver c.args.m) end r) c.self.view_is
    (λ rules. delivers c.args.m end r (is (promises_of fields.levels) _ fields.shim c.self.invariant.0.keeps)))
    (λ e is. is)
