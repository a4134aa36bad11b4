use Rattle.std.proofs.Common.{ℕ, List, subst, sym, arith}
use Rattle.ql_holder.specs.Arrivals.{Applied}
use Rattle.ql_machine.specs.Sets.{AreThose}
use Rattle.ql_machine.specs.Steps.{already_open}
use Rattle.ql_store.specs.State.{AreKnown}
use Rattle.ql_store.proofs.BeginLaws.{known-begun, mapped-none, mapped-some, step-begins}
use Rattle.ql_store.proofs.begin.begin.Goals as goal

pub begin-requires-clause-none : goal.begin-requires-clause-none
begin-requires-clause-none g c = mapped-none _ _ (sym c.in-None.ensures)

pub returns-in-Some-clause-step : goal.returns-in-Some-clause-step
returns-in-Some-clause-step g c = λ rules received net replica state inside is.
    let now = mapped-some _ _ c.in-Some.field-0 (sym c.in-Some.ensures) in
    already_open c.args.session replica c.args.decl c.args.objects now.0 now.1

pub returns-in-Some-clause-known : goal.returns-in-Some-clause-known
returns-in-Some-clause-known g c = λ received net state. state.2.known

pub returns-in_ok-begin-in-None-clause-step : goal.returns-in_ok-begin-in-None-clause-step
returns-in_ok-begin-in-None-clause-step g c = λ rules received net replica state inside is.
    let x = c.args.x.now in
    step-begins rules _ _ x received net c.args.shim.now c.begin.new.self c.args.session replica c.args.decl c.args.objects c.in_ok-snapshot-in-None.snapshot c.in_ok-begin-in-None.field-0
    state.2.keeps (mapped-none _ _ (sym c.in-None.ensures)) inside
    (subst (λ (ids : List ℕ). AreThose (Applied x ids) c.in_ok-snapshot-in-None.snapshot) (sym is) c.in_ok-snapshot-in-None.ensures) (let number = c.in_ok-begin-in-None.ensures.number in omega (arith, number)) c.in_ok-begin-in-None.ensures.begun

pub returns-in_ok-begin-in-None-clause-known : goal.returns-in_ok-begin-in-None-clause-known
returns-in_ok-begin-in-None-clause-known g c = λ received net state.
    known-begun c.args.x.now c.args.shim.now c.begin.new.self _ state.2.keeps.sound.txns (let number = c.in_ok-begin-in-None.ensures.number in omega (arith, number)) (mapped-none _ _ (sym c.in-None.ensures)) c.in_ok-begin-in-None.ensures.begun state.2.known

pub returns-in_err-begin-in-None-clause-known : goal.returns-in_err-begin-in-None-clause-known
returns-in_err-begin-in-None-clause-known g c = λ received net state.
    subst (AreKnown c.args.x.now) (sym c.in_err-begin-in-None.ensures.err) state.2.known
