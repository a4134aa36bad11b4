use Rattle.std.proofs.Common.{◌≡◌, ℕ, List, Option, true, IfSome, subst}
use Rattle.std.proofs.lemmas.Result.{IfOk-weaker}
use Rattle.ql_base.specs.declared.ids.ObjId.{ObjId}
use Rattle.ql_exec.specs.Effects.{effect_at}
use Rattle.ql_exec.specs.Execution.{IsOn}
use Rattle.ql_exec.specs.Relations.{vis}
use Rattle.ql_holder.specs.Closed.{Has}
use Rattle.ql_machine.specs.Blocking.{IsOf}
use Rattle.ql_machine.specs.Sets.{AreThose}
use Rattle.ql_shim.specs.Joined.{IsComplete, IsJoined}
use Rattle.ql_shim.proofs.CompleteLaws.{complete-joined}
use Rattle.ql_shim.proofs.scope.with_own.Goals as goal

pub returns-in-Some-clause-joined : goal.returns-in-Some-clause-joined
returns-in-Some-clause-joined c = λ o on_object own_of saw_of.
    let running = c.args.running.now in
    complete-joined c.args.x.now running.txn.session o running.own running.saw c.args.others.now c.args.on.now c.in-Some.ids
    c.all_own.ensures.execution on_object own_of saw_of
    (subst (λ (found : Option (List ℕ)). IfSome found (λ ids. IsComplete c.args.x.now running.own running.saw c.args.others.now running.txn.session c.args.on.now ids))
    c.in-Some.is c.in_ok-ids.ensures.complete)

pub returns-in-None-clause-joined : goal.returns-in-None-clause-joined
returns-in-None-clause-joined c =
    let x = c.args.x.now in
    let on = c.args.on.now in
    let running = c.args.running.now in
    let others = c.args.others.now in
    IfOk-weaker c.one_by_one.result
    (λ ids. (o : ObjId) → AreThose (λ a. IsOn o (effect_at x a)) on → ((a : ℕ) → Has running.own a → IsOf running.txn.session (effect_at x a))
    → IsJoined x running.own others on ids)
    (λ ids. (o : ObjId) → AreThose (λ a. IsOn o (effect_at x a)) on → ((a : ℕ) → Has running.own a → IsOf running.txn.session (effect_at x a))
    → ((a b : ℕ) → Has running.own b → vis x a b ≡ true → Has running.saw a) → IsJoined x running.own others on ids)
    (λ ids joined o on_object own_of saw_of. joined o on_object own_of)
    c.one_by_one.ensures.joined
