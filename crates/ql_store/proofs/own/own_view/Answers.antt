use Rattle.std.proofs.Common.{ℕ, List, ap, sym, subst, ◌∙◌}
use Rattle.ql_exec.specs.Effects.{effect_at}
use Rattle.ql_exec.specs.Execution.{IsOn}
use Rattle.ql_levels.specs.declared.level.Level.{Level}
use Rattle.ql_levels.specs.declared.level.TxnLevel.{TxnLevel}
use Rattle.ql_machine.specs.Sets.{AreThose}
use Rattle.ql_machine.specs.State.{received_at}
use Rattle.ql_session.specs.declared.note.Note.{Note}
use Rattle.ql_session.specs.Notes.{effects_on}
use Rattle.ql_shim.specs.Transactions.{open_txns}
use Rattle.ql_shim.specs.Viewing.{IsAsked, IsLeastUnapplied, IsSeen, state_of}
use Rattle.ql_store.specs.Asking.{call_of}
use Rattle.ql_store.specs.State.{machine_of}
use Rattle.ql_store.specs.Viewing.{IsLeastLacking}
use Rattle.ql_store.proofs.NoteSets.{on-there, on-those}
use Rattle.ql_store.proofs.OwnLaws.{known-asked, own-view}
use Rattle.ql_store.proofs.own.own_view.Goals as goal

pub view_rule-requires-clause-there : goal.view_rule-requires-clause-there
view_rule-requires-clause-there g c = on-there c.args.x.now c.args.sessions.now c.args.asked.now.object c.on-on.result.now c.requires.noted c.on-on.ensures

pub returns : goal.returns
returns g c = λ rules received net t state held now op_level txn_level.
    let x = c.args.x.now in
    let asked = c.args.asked.now in
    let opened = open_txns c.args.shim.now in
    let list = received_at received asked.replica.0 in
    let own = g.H.Holder.received c.args.holder.now in
    let call = call_of asked in
    let on : AreThose (λ a. IsOn asked.object (effect_at x a)) c.on-on.result.now =
    subst (AreThose (λ (a : ℕ). IsOn asked.object (effect_at x a))) (sym (c.on-on.ensures ∙ ap (λ (notes : List Note). effects_on notes asked.object) c.requires.noted)) (on-those x asked.object) in
    let known : IsAsked c.args.shim.now x asked.session asked.object c.on-on.result.now own t =
    subst (λ (ids : List ℕ). IsAsked c.args.shim.now x asked.session asked.object c.on-on.result.now ids t) held
    (known-asked state.0 state.1 x received net c.args.shim.now state.2 asked.session asked.object t c.on-on.result.now asked.replica.0 now on) in
    let seen : AreThose (IsSeen (state_of x opened list) t (rules.txn_level t.decl) asked.object) c.in_ok-view.view.ids =
    subst (λ (l : TxnLevel). AreThose (IsSeen (state_of x opened list) t l asked.object) c.in_ok-view.view.ids) (sym txn_level)
    (subst (λ (ids : List ℕ). AreThose (IsSeen (state_of x opened ids) t c.args.txn_level asked.object) c.in_ok-view.view.ids) (sym held) (c.in_ok-view.ensures.ids asked.object t known)) in
    let unapplied : IsLeastUnapplied (state_of x opened list) t (rules.txn_level t.decl) list c.in_ok-view.view.missing =
    subst (λ (l : TxnLevel). IsLeastUnapplied (state_of x opened list) t l list c.in_ok-view.view.missing) (sym txn_level)
    (subst (λ (ids : List ℕ). IsLeastUnapplied (state_of x opened ids) t c.args.txn_level ids c.in_ok-view.view.missing) (sym held) (c.in_ok-view.ensures.missing asked.object t known)) in
    let lacking : IsLeastLacking x (rules.level asked.op) asked.session asked.object c.in_ok-view.view.ids c.in_ok-lacking.lacking =
    subst (λ (l : Level). IsLeastLacking x l asked.session asked.object c.in_ok-view.view.ids c.in_ok-lacking.lacking) (sym op_level) c.in_ok-lacking.ensures in
    own-view rules (machine_of x received net c.args.shim.now) call t now c.in_ok-view.view.ids seen c.in_ok-view.view.missing c.in_ok-lacking.lacking unapplied lacking c.lesser-missing.result c.lesser-missing.ensures
