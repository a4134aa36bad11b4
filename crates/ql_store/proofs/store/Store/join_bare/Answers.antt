use Rattle.std.proofs.lemmas.Result.{err_from_is_err_and}
use Rattle.std.proofs.Common.{◌≡◌, ◌<◌, length, map, false, sym, subst}
use Rattle.ql_machine.specs.declared.event.Event.TheVariants as event
use Rattle.ql_machine.specs.Rules.{Promises, Rules}
use Rattle.ql_machine.specs.Sets.{AreThose}
use Rattle.ql_machine.specs.Steps.{IsStep, IsUnderStrong}
use Rattle.ql_machine.specs.Kept.{Keeps}
use Rattle.ql_store.specs.Joining.{IsNeededByStrong}
use Rattle.ql_store.specs.Levels.{promises_of}
use Rattle.ql_store.specs.State.{StoreState, machine_of}
use Rattle.ql_store.proofs.JoinLaws.{fits-joined, joined-ok, kept-joined, step-bare, under-strong}
use Rattle.ql_store.proofs.KeptLaws.{some_rules}
use Rattle.ql_store.proofs.store.Store.join_bare.Goals as goal

pub bare_holder-requires-clause-ops : goal.bare_holder-requires-clause-ops
bare_holder-requires-clause-ops g c = c.self.invariant.0.ops

pub bare_holder-requires-clause-alone : goal.bare_holder-requires-clause-alone
bare_holder-requires-clause-alone g c = λ a e at is. c.self.invariant.0.keeps.strong.alone a e (at, is)

pub invariant_of-self : goal.invariant_of-self
invariant_of-self g c =
    let fields = c.self.inside in
    let x = fields.execution in
    let got = g.H.Holder.received in
    let holders = fields.holders.items in
    let more = c.add.new.holders.items in
    let joining = c.in_ok-joining.joining in
    let near = c.args.near in
    let net = fields.net in
    let later = c.add.new.net in
    let r = c.add.result in
    let is = c.add.ensures in
    let kept = c.self.invariant.0 in
    let s = machine_of x (map got holders) net fields.shim in
    let inside : near.0 < length (map got holders) = subst (λ (v : StoreState). near.0 < length v.machine.received) (sym c.self.view_is) c.requires.near in
    let few : length (map got holders) < 16 = subst (λ (v : StoreState). length v.machine.received < 16) (sym c.self.view_is) c.requires.few in
    let rules = some_rules (promises_of fields.levels) in
    let those = under-strong rules kept.start s kept.keeps near inside (got joining) c.in_ok-joining.ensures.received in
    let steps = joined-ok got fields.levels x fields.sessions fields.shim holders more joining net later r is.reply is.received near false is.group
    (λ k. IsStep rules s (event.Join near false) (machine_of x (map got more) later fields.shim) k)
    (λ k number lists group. step-bare rules x (map got holders) (map got more) net later fields.shim near kept.grouped inside group k number (got joining) lists those) in (
      kept-joined got fields.levels x fields.sessions fields.shim holders more joining net later r is.reply is.received near false is.group is.same is.same_net kept inside few steps,
      fits-joined got fields.levels x fields.sessions fields.shim holders more joining net later r is.reply is.received (λ h. g.H.Holder.fits h x) is.same c.self.invariant.1 c.in_ok-joining.ensures.fits,
    )

pub returns-clause-step : goal.returns-clause-step
returns-clause-step g c =
    let fields = c.self.inside in
    let x = fields.execution in
    let got = g.H.Holder.received in
    let holders = fields.holders.items in
    let more = c.add.new.holders.items in
    let joining = c.in_ok-joining.joining in
    let near = c.args.near in
    let net = fields.net in
    let later = c.add.new.net in
    let is = c.add.ensures in
    let kept = c.self.invariant.0 in
    let s = machine_of x (map got holders) net fields.shim in
    let inside : near.0 < length (map got holders) = subst (λ (v : StoreState). near.0 < length v.machine.received) (sym c.self.view_is) c.requires.near in
    let those : (rules : Rules) → rules.promises ≡ promises_of fields.levels → AreThose (IsUnderStrong rules s) (got joining) = λ rules promises.
    under-strong rules kept.start s (subst (λ (p : Promises). Keeps p kept.start s) (sym promises) kept.keeps) near inside (got joining)
    (subst (λ (p : Promises). AreThose (IsNeededByStrong p.level x) (got joining)) (sym promises) c.in_ok-joining.ensures.received) in
    joined-ok got fields.levels x fields.sessions fields.shim holders more joining net later c.add.result is.reply is.received near false is.group
    (λ k. (rules : Rules) → rules.promises ≡ promises_of c.args.self.now.levels → IsStep rules c.args.self.now.machine (event.Join near false) (machine_of x (map got more) later fields.shim) k)
    (λ k number lists group. subst (λ (v : StoreState). (rules : Rules) → rules.promises ≡ promises_of v.levels → IsStep rules v.machine (event.Join near false) (machine_of x (map got more) later fields.shim) k) c.self.view_is
    (λ rules promises. step-bare rules x (map got holders) (map got more) net later fields.shim near kept.grouped inside group k number (got joining) lists (those rules promises)))

pub returns-in_err-joining-clause-step : goal.returns-in_err-joining-clause-step
returns-in_err-joining-clause-step g c = let p = err_from_is_err_and c.from_residual.result c.from_residual.ensures.1 in rw p.1 tt
