use Rattle.std.proofs.Common.{◌<◌, length, map, refl, sym, subst, ap, arith}
use Rattle.std.proofs.lemmas.List.{length-map}
use Rattle.std.proofs.lemmas.Result.{MatchResult-weaker, on_err_weaker}
use Rattle.ql_machine.specs.declared.event.Event.TheVariants as event
use Rattle.ql_machine.specs.Rules.{Rules}
use Rattle.ql_machine.specs.Steps.{IsStep}
use Rattle.ql_store.specs.Levels.{promises_of}
use Rattle.ql_store.specs.State.{IsState, StoreState, machine_of}
use Rattle.ql_store.proofs.KeptLaws.{kept-either, some_rules}
use Rattle.ql_store.proofs.ReceiptLaws.{held-at}
use Rattle.ql_store.proofs.store.Store.begin.Goals as goal

pub begin-requires-clause-fits : goal.begin-requires-clause-fits
begin-requires-clause-fits g c =
    let fields = c.self.inside in
    let replica : c.args.replica.0 < length (map g.H.Holder.received fields.holders.items) = subst (λ (v : StoreState). c.args.replica.0 < length v.machine.received) (sym c.self.view_is) c.requires.replica in
    let within : c.args.replica.0 < length fields.holders.items = (let same = length-map fields.holders.items g.H.Holder.received in omega (arith, replica, same)) in
    subst (λ (h : g.row.H.Denot). g.H.Holder.fits h fields.execution) (sym c.index-holder.ensures) (c.self.invariant.1 c.args.replica.0 c.index-holder.result.now within)

pub invariant_of-self : goal.invariant_of-self
invariant_of-self g c =
    let fields = c.self.inside in
    let received = map g.H.Holder.received fields.holders.items in
    let kept = c.self.invariant.0 in
    let replica : c.args.replica.0 < length received = subst (λ (v : StoreState). c.args.replica.0 < length v.machine.received) (sym c.self.view_is) c.requires.replica in
    let decl : c.args.decl.0 < length fields.levels.txns = subst (λ (v : StoreState). c.args.decl.0 < length v.levels.txns) (sym c.self.view_is) c.requires.decl in
    let within : c.args.replica.0 < length fields.holders.items = (let same = length-map fields.holders.items g.H.Holder.received in omega (arith, replica, same)) in
    let state : IsState fields.execution received fields.net fields.shim = (fields.levels, fields.sessions, kept) in
    let start = machine_of fields.execution received fields.net fields.shim in
    let end = machine_of fields.execution received fields.net c.begin.new.shim in
    let rules = some_rules (promises_of fields.levels) in (
      kept-either fields.levels start end fields.sessions fields.sessions fields.shim c.begin.new.shim (event.Begin c.args.session c.args.replica c.args.decl c.args.objects) c.begin.result _ kept c.begin.ensures.step
          (on_err_weaker c.begin.result (λ same. ap (machine_of fields.execution received fields.net) same) c.begin.ensures.err)
          (λ r step. (
            rules,
            refl,
            step rules received fields.net c.args.replica state replica
                (held-at g.H.Holder.received fields.holders.items c.args.replica.0 c.index-holder.result.now within c.index-holder.ensures),
          ))
          (replica, decl) kept.noted (c.begin.ensures.known received fields.net state),
      c.self.invariant.1,
    )

pub returns-clause-step : goal.returns-clause-step
returns-clause-step g c =
    let fields = c.self.inside in
    let received = map g.H.Holder.received fields.holders.items in
    let replica : c.args.replica.0 < length received = subst (λ (v : StoreState). c.args.replica.0 < length v.machine.received) (sym c.self.view_is) c.requires.replica in
    let within : c.args.replica.0 < length fields.holders.items = (let same = length-map fields.holders.items g.H.Holder.received in omega (arith, replica, same)) in
    let end = machine_of fields.execution received fields.net c.begin.new.shim in
    let state : IsState fields.execution received fields.net fields.shim = (fields.levels, fields.sessions, c.self.invariant.0) in
    MatchResult-weaker c.begin.result c.begin.ensures.step
    (λ r step. subst (λ (s : StoreState). (rules : Rules) → IsStep rules s.machine (event.Begin c.args.session c.args.replica c.args.decl c.args.objects) end r) c.self.view_is
    (λ rules. step rules received fields.net c.args.replica state replica
    (held-at g.H.Holder.received fields.holders.items c.args.replica.0 c.index-holder.result.now within c.index-holder.ensures)))
    (λ e is. is)
