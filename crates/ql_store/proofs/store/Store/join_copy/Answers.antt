use Rattle.std.proofs.lemmas.Result.{err_from_is_err_and}
use Rattle.std.proofs.Common.{◌≡◌, ◌∷◌, ◌++◌, [], ◌<◌, length, map, true, sym, subst, ap, ◌∙◌, arith}
use Rattle.std.proofs.lemmas.List.{length-map}
use Rattle.ql_machine.specs.declared.event.Event.TheVariants as event
use Rattle.ql_machine.specs.Rules.{Rules}
use Rattle.ql_machine.specs.State.{received_at}
use Rattle.ql_machine.specs.Steps.{IsStep}
use Rattle.ql_store.specs.Levels.{promises_of}
use Rattle.ql_store.specs.State.{StoreState, machine_of}
use Rattle.ql_store.proofs.JoinLaws.{fits-joined, joined-ok, kept-joined, step-copies}
use Rattle.ql_store.proofs.KeptLaws.{some_rules}
use Rattle.ql_store.proofs.ReceiptLaws.{held-at}
use Rattle.ql_store.proofs.store.Store.join_copy.Goals as goal

pub invariant_of-self : goal.invariant_of-self
invariant_of-self g c =
    let fields = c.self.inside in
    let x = fields.execution in
    let got = g.H.Holder.received in
    let holders = fields.holders.items in
    let more = c.add.new.holders.items in
    let joining = c.in_ok-joining.joining in
    let near = c.args.near in
    let net = fields.net in
    let later = c.add.new.net in
    let r = c.add.result in
    let is = c.add.ensures in
    let kept = c.self.invariant.0 in
    let inside : near.0 < length (map got holders) = subst (λ (v : StoreState). near.0 < length v.machine.received) (sym c.self.view_is) c.requires.near in
    let few : length (map got holders) < 16 = subst (λ (v : StoreState). length v.machine.received < 16) (sym c.self.view_is) c.requires.few in
    let within : near.0 < length holders = (let same = length-map holders got in omega (arith, inside, same)) in
    let same : got joining ≡ received_at (map got holders) near.0 = c.in_ok-joining.ensures.received ∙ sym (held-at got holders near.0 c.index-holder.result.now within c.index-holder.ensures) in
    let rules = some_rules (promises_of fields.levels) in
    let steps = joined-ok got fields.levels x fields.sessions fields.shim holders more joining net later r is.reply is.received near true is.group
    (λ k. IsStep rules (machine_of x (map got holders) net fields.shim) (event.Join near true) (machine_of x (map got more) later fields.shim) k)
    (λ k number lists group. step-copies rules x (map got holders) (map got more) net later fields.shim near kept.grouped inside group k number (lists ∙ ap (λ ids. map got holders ++ ids ∷ []) same)) in
    let fits = subst (λ (h : g.row.H.Denot). g.H.Holder.fits h x) (sym c.index-holder.ensures) (c.self.invariant.1 near.0 c.index-holder.result.now within) in (
      kept-joined got fields.levels x fields.sessions fields.shim holders more joining net later r is.reply is.received near true is.group is.same is.same_net kept inside few steps,
      fits-joined got fields.levels x fields.sessions fields.shim holders more joining net later r is.reply is.received (λ h. g.H.Holder.fits h x) is.same c.self.invariant.1 ((c.in_ok-joining.ensures.fits x).1 fits),
    )

pub returns-clause-step : goal.returns-clause-step
returns-clause-step g c =
    let fields = c.self.inside in
    let x = fields.execution in
    let got = g.H.Holder.received in
    let holders = fields.holders.items in
    let more = c.add.new.holders.items in
    let joining = c.in_ok-joining.joining in
    let near = c.args.near in
    let net = fields.net in
    let later = c.add.new.net in
    let is = c.add.ensures in
    let inside : near.0 < length (map got holders) = subst (λ (v : StoreState). near.0 < length v.machine.received) (sym c.self.view_is) c.requires.near in
    let within : near.0 < length holders = (let same = length-map holders got in omega (arith, inside, same)) in
    let same : got joining ≡ received_at (map got holders) near.0 = c.in_ok-joining.ensures.received ∙ sym (held-at got holders near.0 c.index-holder.result.now within c.index-holder.ensures) in
    joined-ok got fields.levels x fields.sessions fields.shim holders more joining net later c.add.result is.reply is.received near true is.group
    (λ k. (rules : Rules) → IsStep rules c.args.self.now.machine (event.Join near true) (machine_of x (map got more) later fields.shim) k)
    (λ k number lists group. subst (λ (v : StoreState). (rules : Rules) → IsStep rules v.machine (event.Join near true) (machine_of x (map got more) later fields.shim) k) c.self.view_is
    (λ rules. step-copies rules x (map got holders) (map got more) net later fields.shim near c.self.invariant.0.grouped inside group k number (lists ∙ ap (λ ids. map got holders ++ ids ∷ []) same)))

pub returns-in_err-joining-clause-step : goal.returns-in_err-joining-clause-step
returns-in_err-joining-clause-step g c = let p = err_from_is_err_and c.from_residual.result c.from_residual.ensures.1 in rw p.1 tt
