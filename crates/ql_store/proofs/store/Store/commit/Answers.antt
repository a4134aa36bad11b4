use Rattle.std.proofs.Common.{◌≡◌, ◌<◌, length, map, refl, sym, subst}
use Rattle.std.specs.Prelude.{IfOk}
use Rattle.ql_machine.specs.declared.event.Event.TheVariants as event
use Rattle.ql_machine.specs.Rules.{Rules}
use Rattle.ql_machine.specs.Steps.{IsStep}
use Rattle.ql_store.specs.Levels.{promises_of}
use Rattle.ql_store.specs.State.{StoreState, machine_of}
use Rattle.ql_store.proofs.KeptLaws.{all-failed, kept-either, some_rules}
use Rattle.ql_store.proofs.store.Store.commit.Goals as goal

pub commit-requires-clause-state : goal.commit-requires-clause-state
commit-requires-clause-state g c = (c.self.inside.levels, c.self.inside.sessions, c.self.invariant.0)

pub invariant_of-self : goal.invariant_of-self
invariant_of-self g c =
    let fields = c.self.inside in
    let received = map g.H.Holder.received fields.holders.items in
    let after = map g.H.Holder.received c.commit.new.holders.items in
    let kept = c.self.invariant.0 in
    let replica : c.args.replica.0 < length received = subst (λ (v : StoreState). c.args.replica.0 < length v.machine.received) (sym c.self.view_is) c.requires.replica in
    let start = machine_of fields.execution received fields.net fields.shim in
    let end = machine_of fields.execution after c.commit.new.net c.commit.new.shim in
    let rules = some_rules (promises_of fields.levels) in (
      kept-either fields.levels start end fields.sessions fields.sessions fields.shim c.commit.new.shim (event.Commit c.args.session c.args.replica) c.commit.result _ kept c.commit.ensures.step
          (all-failed c.commit.result (after ≡ received) (c.commit.new.net ≡ fields.net) (c.commit.new.shim ≡ fields.shim) (end ≡ start) c.commit.ensures.same c.commit.ensures.net c.commit.ensures.shim
          (λ one two three. λ i. machine_of fields.execution (one i) (two i) (three i)))
          (λ r step. (rules, refl, step rules)) replica kept.noted c.commit.ensures.known,
      c.commit.ensures.fit,
    )

pub returns-clause-step : goal.returns-clause-step
returns-clause-step g c =
    let fields = c.self.inside in
    let after = map g.H.Holder.received c.commit.new.holders.items in
    let end = machine_of fields.execution after c.commit.new.net c.commit.new.shim in
    subst (λ (s : StoreState). IfOk c.commit.result (λ r. (rules : Rules) → IsStep rules s.machine (event.Commit c.args.session c.args.replica) end r)) c.self.view_is c.commit.ensures.step
