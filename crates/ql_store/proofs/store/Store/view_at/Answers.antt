use Rattle.std.proofs.Common.{◌<◌, ℕ, List, length, map, ap, sym, subst, ◌∙◌, arith}
use Rattle.std.proofs.lemmas.List.{length-map}
use Rattle.std.proofs.lemmas.Result.{IfOk-weaker}
use Rattle.ql_exec.specs.Effects.{effect_at}
use Rattle.ql_exec.specs.Execution.{IsOn}
use Rattle.ql_holder.specs.Arrivals as held
use Rattle.ql_machine.specs.Sets.{AreThose}
use Rattle.ql_machine.specs.State.{received_at}
use Rattle.ql_machine.proofs.Alone.{applied-same}
use Rattle.ql_holder.specs.Closed.{Has}
use Rattle.ql_session.specs.declared.note.Note.{Note}
use Rattle.ql_session.specs.Notes.{effects_on}
use Rattle.ql_store.specs.Levels.{promises_of}
use Rattle.ql_store.specs.State.{StoreState, machine_of}
use Rattle.ql_store.specs.Viewing.{IsAppliedOn}
use Rattle.ql_store.proofs.NoteSets.{on-those}
use Rattle.ql_store.proofs.ReceiptLaws.{held-at}
use Rattle.ql_store.proofs.store.Store.view_at.Goals as goal

pub returns : goal.returns
returns g c =
    let fields = c.self.inside in
    let x = fields.execution in
    let received = map g.H.Holder.received fields.holders.items in
    let s = machine_of x received fields.net fields.shim in
    let r = c.args.replica.0 in
    let one = c.index-holder.result.now in
    let within : r < length fields.holders.items =
    (let less = subst (λ (v : StoreState). r < length v.machine.received) (sym c.self.view_is) c.requires in let same = length-map fields.holders.items g.H.Holder.received in omega (arith, less, same)) in
    let fits : g.H.Holder.fits one x = subst (λ (h : g.row.H.Denot). g.H.Holder.fits h x) (sym c.index-holder.ensures) (c.self.invariant.1 r one within) in
    let on : AreThose (λ a. IsOn c.args.object (effect_at x a)) c.on.result.now =
    subst (AreThose (λ (a : ℕ). IsOn c.args.object (effect_at x a))) (sym (c.on.ensures ∙ ap (λ (notes : List Note). effects_on notes c.args.object) c.self.invariant.0.noted)) (on-those x c.args.object) in
    let lists = held-at g.H.Holder.received fields.holders.items r one within c.index-holder.ensures in
    IfOk-weaker c.applied_among.result _ _
    (λ ids found.
    let applied : AreThose (λ a. Has c.on.result.now a × held.Applied x (received_at received r) a) ids =
    subst (λ (ls : List ℕ). AreThose (λ a. Has c.on.result.now a × held.Applied x ls a) ids) (sym lists) (found x fits) in
    let same = applied-same (promises_of fields.levels) c.self.invariant.0.start s c.self.invariant.0.keeps r in
    let those : AreThose (IsAppliedOn s c.args.replica c.args.object) ids = record {
      ascending = applied.ascending;
      all = λ a is. applied.all a (on.all a is.0, (same a).0 is.1);
      only = λ a has. (let is = applied.only a has in (on.only a is.0, (same a).1 is.1));
    } in
    subst (λ (v : StoreState). AreThose (IsAppliedOn v.machine c.args.replica c.args.object) ids) c.self.view_is those)
    c.applied_among.ensures
