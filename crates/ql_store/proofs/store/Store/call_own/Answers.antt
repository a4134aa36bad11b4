use Rattle.std.proofs.lemmas.Result.{err_from_is_err_and}
use Rattle.std.proofs.Common.{◌≡◌, ◌<◌, ◌∷◌, ◌++◌, [], List, All, Some, length, get_or, map, refl, sym, subst, ap, ◌∙◌}
use Rattle.ql_exec.specs.declared.effect.Draft.{Draft}
use Rattle.ql_exec.specs.declared.effect.Effect.{Effect}
use Rattle.ql_exec.specs.Execution.{effect_of, next_id}
use Rattle.ql_holder.specs.Needs.{JoinsNone}
use Rattle.ql_machine.specs.declared.event.Event.TheVariants as event
use Rattle.ql_machine.specs.declared.reply.Reply.{Reply}
use Rattle.ql_machine.specs.declared.reply.Reply.TheVariants as reply
use Rattle.ql_machine.specs.Calls.{IsCall}
use Rattle.ql_machine.specs.Rules.{Call, Rules}
use Rattle.ql_machine.specs.State.{Machine, open_of}
use Rattle.ql_machine.specs.Steps.{IsStep, calls}
use Rattle.ql_session.specs.Executions.{notes_of}
use Rattle.ql_session.specs.declared.note.Note.{Note}
use Rattle.ql_shim.specs.Changed.{IsNoted}
use Rattle.ql_shim.specs.Transactions.{open_txns}
use Rattle.ql_store.specs.Answering.{IsAttempt}
use Rattle.ql_store.specs.Levels.{promises_of, uses_of}
use Rattle.ql_store.specs.State.{IsKept, StoreState, machine_of}
use Rattle.ql_store.proofs.CallLaws.{each-holder}
use Rattle.ql_store.proofs.KeptLaws.{kept-step, made-either, made-ok}
use Rattle.ql_store.proofs.OwnLaws.{at-fields, own-apart, own-call, own-known, own-lawful}
use Rattle.ql_store.proofs.store.Store.call_own.Goals as goal

pub make_own-requires-clause-open_now : goal.make_own-requires-clause-open_now
make_own-requires-clause-open_now g c =
    let fields = c.self.inside in
    let s = machine_of fields.execution (map g.H.Holder.received fields.holders.items) fields.net fields.shim in
    let call : Call = record { session = c.args.session; replica = c.args.replica; object = c.args.object; op = c.args.op; args = c.args.args } in
    let rules : Rules = record { promises = promises_of c.args.self.now.levels; uses = uses_of c.args.typed.now.program; answer = g.F.Folder.answered c.args.folder.now } in
    let made = at-fields rules s fields.levels c.args.self.now call c.in_ok-attempt.attempt c.in-Makes.draft c.self.view_is (c.in_ok-attempt.ensures rules refl refl refl) c.in-Makes.is in
    let now = subst (λ (v : StoreState). open_of v.machine.open_txns c.args.session ≡ Some c.requires.open_now.0) (sym c.self.view_is) c.requires.open_now.1 in
    (c.requires.open_now.0, ap (λ (d : Draft). open_of (open_txns fields.shim) d.session) made.2 ∙ now)

pub make_own-requires-clause-lawful : goal.make_own-requires-clause-lawful
make_own-requires-clause-lawful g c =
    let fields = c.self.inside in
    let received = map g.H.Holder.received fields.holders.items in
    let s = machine_of fields.execution received fields.net fields.shim in
    let call : Call = record { session = c.args.session; replica = c.args.replica; object = c.args.object; op = c.args.op; args = c.args.args } in
    let rules : Rules = record { promises = promises_of c.args.self.now.levels; uses = uses_of c.args.typed.now.program; answer = g.F.Folder.answered c.args.folder.now } in
    let made = at-fields rules s fields.levels c.args.self.now call c.in_ok-attempt.attempt c.in-Makes.draft c.self.view_is (c.in_ok-attempt.ensures rules refl refl refl) c.in-Makes.is in
    let now = subst (λ (v : StoreState). open_of v.machine.open_txns c.args.session ≡ Some c.requires.open_now.0) (sym c.self.view_is) c.requires.open_now.1 in
    own-lawful rules fields.levels fields.execution received fields.net fields.sessions fields.shim c.self.invariant.0 (ap (λ (v : StoreState). promises_of v.levels) (sym c.self.view_is))
    call c.requires.open_now.0 now made.0 made.1 c.in-Makes.draft made.2

pub invariant_of-self : goal.invariant_of-self
invariant_of-self g c =
    let fields = c.self.inside in
    let x = fields.execution in
    let received = map g.H.Holder.received fields.holders.items in
    let s = machine_of x received fields.net fields.shim in
    let call : Call = record { session = c.args.session; replica = c.args.replica; object = c.args.object; op = c.args.op; args = c.args.args } in
    let rules : Rules = record { promises = promises_of c.args.self.now.levels; uses = uses_of c.args.typed.now.program; answer = g.F.Folder.answered c.args.folder.now } in
    let promised = ap (λ (v : StoreState). promises_of v.levels) (sym c.self.view_is) in
    let made = at-fields rules s fields.levels c.args.self.now call c.in_ok-attempt.attempt c.in-Makes.draft c.self.view_is (c.in_ok-attempt.ensures rules refl refl refl) c.in-Makes.is in
    let now = subst (λ (v : StoreState). open_of v.machine.open_txns c.args.session ≡ Some c.requires.open_now.0) (sym c.self.view_is) c.requires.open_now.1 in
    let kept = c.self.invariant.0 in
    let draft = c.in-Makes.draft in
    let later = c.make_own.new.x in
    let after = c.make_own.new.shim in
    let notes = c.make_own.new.sessions in
    let end = machine_of later received fields.net after in
    let ensures = c.make_own.ensures in
    let longer = later ≡ x ++ effect_of x draft ∷ [] in
    let noted = IsNoted fields.shim after draft.session (next_id x).0 draft.seen in
    let replica = subst (λ (v : StoreState). c.args.replica.0 < length v.machine.received) (sym c.self.view_is) c.requires.replica in
    let op = subst (λ (v : StoreState). c.args.op.0 < length v.levels.ops) (sym c.self.view_is) c.requires.op in
    let law = own-lawful rules fields.levels x received fields.net fields.sessions fields.shim kept promised call c.requires.open_now.0 now made.0 made.1 draft made.2 in
    let apart = each-holder g.H.Holder.received (JoinsNone x (effect_of x draft ∷ [])) fields.holders.items
    (own-apart rules fields.levels x received fields.net fields.sessions fields.shim kept promised call c.requires.open_now.0 now made.0 made.1 draft made.2) in
    let e = event.Call c.args.session c.args.replica c.args.object c.args.op c.args.args in (
      made-either c.make_own.result (λ (r : Reply). r ≡ reply.Ok (next_id x)) longer noted longer (later ≡ x) (after ≡ fields.shim) (later ≡ x)
          (IsKept fields.levels end notes after) ensures.reply ensures.made ensures.own ensures.made ensures.same ensures.same_shim ensures.same
          (λ r is more own _. kept-step fields.levels rules s end fields.sessions notes fields.shim after e r promised kept
          (calls c.args.session c.args.replica c.args.object c.args.op c.args.args end r (subst (λ (k : Reply). IsCall rules s call end k) (sym is)
          (own-call rules fields.levels x received fields.net fields.sessions fields.shim kept promised call c.requires.open_now.0 now made.0 made.1 draft made.2 later after more own)))
          (replica, op) ensures.noted
          (own-known rules fields.levels x received fields.net fields.sessions fields.shim kept promised call c.requires.open_now.0 now made.0 made.1 draft made.2 later after more own))
          (λ one two _.
          let same : end ≡ s = λ i. machine_of (one i) received fields.net (two i) in
          let unchanged : notes ≡ fields.sessions = ensures.noted ∙ ap notes_of one ∙ sym kept.noted in
          subst (λ (m : Machine). IsKept fields.levels m notes after) (sym same) (subst (λ (n : List Note). IsKept fields.levels s n after) (sym unchanged)
          (subst (λ t. IsKept fields.levels s fields.sessions t) (sym two) kept))),
      made-either c.make_own.result (λ (r : Reply). r ≡ reply.Ok (next_id x)) longer noted longer (later ≡ x) (after ≡ fields.shim) (later ≡ x)
          (All (λ h. g.H.Holder.fits h later) fields.holders.items) ensures.reply ensures.made ensures.own ensures.made ensures.same ensures.same_shim ensures.same
          (λ r is more own _. subst (λ (y : List Effect). All (λ h. g.H.Holder.fits h y) fields.holders.items) (sym more)
          (λ k d inside. g.met.H.Holder.fits_more (get_or fields.holders.items k d) x (effect_of x draft ∷ []) law (c.self.invariant.1 k d inside) (apart k d inside)))
          (λ one two _. subst (λ (y : List Effect). All (λ h. g.H.Holder.fits h y) fields.holders.items) (sym one) c.self.invariant.1),
    )

pub returns-in-Makes-clause-step : goal.returns-in-Makes-clause-step
returns-in-Makes-clause-step g c =
    let fields = c.self.inside in
    let x = fields.execution in
    let received = map g.H.Holder.received fields.holders.items in
    let s = machine_of x received fields.net fields.shim in
    let call : Call = record { session = c.args.session; replica = c.args.replica; object = c.args.object; op = c.args.op; args = c.args.args } in
    let now = subst (λ (v : StoreState). open_of v.machine.open_txns c.args.session ≡ Some c.requires.open_now.0) (sym c.self.view_is) c.requires.open_now.1 in
    let draft = c.in-Makes.draft in
    let later = c.make_own.new.x in
    let after = c.make_own.new.shim in
    let end = machine_of later received fields.net after in
    let ensures = c.make_own.ensures in
    let e = event.Call c.args.session c.args.replica c.args.object c.args.op c.args.args in
    made-ok c.make_own.result _ (λ (r : Reply). (rules : Rules) → rules.promises ≡ promises_of c.args.self.now.levels → rules.uses ≡ uses_of c.args.typed.now.program → rules.answer ≡ g.F.Folder.answered c.args.folder.now
    → IsStep rules c.args.self.now.machine e end r) _ _ _ ensures.reply ensures.made ensures.own ensures.made
    (λ r is more own _ rules promises uses answer.
    let promised = promises ∙ ap (λ (v : StoreState). promises_of v.levels) (sym c.self.view_is) in
    let made = at-fields rules s fields.levels c.args.self.now call c.in_ok-attempt.attempt draft c.self.view_is (c.in_ok-attempt.ensures rules promises uses answer) c.in-Makes.is in
    subst (λ (v : StoreState). IsStep rules v.machine e end r) c.self.view_is
    (calls c.args.session c.args.replica c.args.object c.args.op c.args.args end r (subst (λ (k : Reply). IsCall rules s call end k) (sym is)
    (own-call rules fields.levels x received fields.net fields.sessions fields.shim c.self.invariant.0 promised call c.requires.open_now.0 now made.0 made.1 draft made.2 later after more own))))

pub returns-in-Ends-clause-step : goal.returns-in-Ends-clause-step
returns-in-Ends-clause-step g c = λ rules promises uses answer.
    calls c.args.session c.args.replica c.args.object c.args.op c.args.args _ c.in-Ends.reply
    (subst (IsAttempt rules c.args.self.now.machine (record { session = c.args.session; replica = c.args.replica; object = c.args.object; op = c.args.op; args = c.args.args })) c.in-Ends.is (c.in_ok-attempt.ensures rules promises uses answer))

pub returns-in_err-attempt-clause-step : goal.returns-in_err-attempt-clause-step
returns-in_err-attempt-clause-step g c = let p = err_from_is_err_and c.from_residual.result c.from_residual.ensures.1 in rw p.1 tt
