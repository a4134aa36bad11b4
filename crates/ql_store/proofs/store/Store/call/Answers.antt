use Rattle.std.proofs.Common.{◌≡◌, ◌≢◌, ◌≤◌, length, None, Some, sym, subst, ◌∙◌, arith}
use Rattle.std.proofs.lemmas.Option.{get_or_from_slice_get}
use Rattle.std.proofs.lemmas.Result.{IfOk-weaker}
use Rattle.ql_levels.specs.declared.level.Level.TheVariants.{Strong}
use Rattle.ql_machine.specs.declared.open_txn.OpenTxn.{OpenTxn}
use Rattle.ql_machine.specs.State.{open_of}
use Rattle.ql_shim.specs.Transactions.{open_txns}
use Rattle.ql_store.specs.Levels.{promises_of}
use Rattle.ql_store.specs.State.{StoreState}
use Rattle.ql_store.proofs.StepLaws.{none-open, one-open}
use Rattle.ql_store.proofs.store.Store.call.Goals as goal

pub call_own-requires-clause-open_now : goal.call_own-requires-clause-open_now
call_own-requires-clause-open_now g c =
    let now = open_of (open_txns c.self.inside.shim) c.args.session in
    subst (λ (v : StoreState). (t : OpenTxn) × (open_of v.machine.open_txns c.args.session ≡ Some t)) c.self.view_is
    (one-open now c.run_of.result c.in-Some.field-0 c.run_of.ensures c.in-Some.is)

pub call_strong-requires-clause-strong : goal.call_strong-requires-clause-strong
call_strong-requires-clause-strong g c =
    let levels = c.self.inside.levels in
    subst (λ (v : StoreState). (promises_of v.levels).level c.args.op ≡ Strong) c.self.view_is
    (get_or_from_slice_get levels.ops c.args.op.0 c.op.result Strong c.op.ensures ∙ c.in-Strong.is)

pub call_plain-requires : goal.call_plain-requires
call_plain-requires g c =
    let fields = c.self.inside in
    let now = open_of (open_txns fields.shim) c.args.session in
    let room = c.requires.room in
    let effects = room.effects in
    let messages = room.messages in
    let kept = c.self.invariant.0 in
    let grouped = subst (λ (v : StoreState). length v.machine.groups ≡ length v.machine.received) c.self.view_is kept.grouped in
    let few = subst (λ (v : StoreState). length v.machine.received ≤ 16) c.self.view_is kept.few in
    record {
      replica = c.requires.replica;
      op = c.requires.op;
      none_open =
          subst (λ (v : StoreState). open_of v.machine.open_txns c.args.session ≡ None) c.self.view_is
          (none-open now c.run_of.result c.run_of.ensures c.in-None.is);
      below =
          subst (λ (v : StoreState). (promises_of v.levels).level c.args.op ≢ Strong) c.self.view_is
          (λ strong. c.in_default.not-Strong (sym (get_or_from_slice_get fields.levels.ops c.args.op.0 c.op.result Strong c.op.ensures) ∙ strong));
      room = omega (arith, effects);
      room_messages = omega (arith, messages, grouped, few);
      able = c.requires.able;
    }

pub returns-in-Some-clause-step : goal.returns-in-Some-clause-step
returns-in-Some-clause-step g c = c.call_own.ensures.step

pub returns-in-Some-clause-levels : goal.returns-in-Some-clause-levels
returns-in-Some-clause-levels g c = c.call_own.ensures.levels

pub returns-in-Some-clause-err : goal.returns-in-Some-clause-err
returns-in-Some-clause-err g c = c.call_own.ensures.err

pub returns-in-Strong-clause-step : goal.returns-in-Strong-clause-step
returns-in-Strong-clause-step g c = IfOk-weaker c.call_strong.result _ _ (λ r step rules levels uses answers. step rules levels answers) c.call_strong.ensures.step

pub returns-in-Strong-clause-levels : goal.returns-in-Strong-clause-levels
returns-in-Strong-clause-levels g c = c.call_strong.ensures.levels

pub returns-in-Strong-clause-err : goal.returns-in-Strong-clause-err
returns-in-Strong-clause-err g c = c.call_strong.ensures.err
