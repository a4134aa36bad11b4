use Rattle.std.proofs.lemmas.Result.{err_from_is_err_and}
use Rattle.std.proofs.Common.{◌++◌, length, map, sym, ◌∙◌, subst, List, ℕ, ◌≡◌, true}
use Rattle.ql_exec.specs.Relations.{inside}
use Rattle.ql_machine.specs.Changes.{package_to_others, received_by}
use Rattle.ql_machine.specs.Sets.{AreThose}
use Rattle.ql_machine.specs.Steps.{none_open}
use Rattle.ql_store.proofs.BeginLaws.{mapped-none, mapped-some}
use Rattle.ql_store.proofs.CommitLaws.{known-finished, own-absent, own-package, step-commits}
use Rattle.ql_store.proofs.commit.commit.Goals as goal

pub own-requires : goal.own-requires
own-requires g c = mapped-some _ _ c.in-Some.field-0 (sym c.in-Some.ensures)

pub spread_all-requires-clause-package : goal.spread_all-requires-clause-package
spread_all-requires-clause-package g c =
    let now = mapped-some _ _ c.in-Some.field-0 (sym c.in-Some.ensures) in
    own-package c.args.x.now now.0.run.0 c.own.result.now
    (subst (AreThose (λ a. inside c.args.x.now now.0.run.0 a ≡ true)) (sym c.own.ensures) (c.requires.state.2.known c.args.session now.0 now.1).own)

pub spread_all-requires-clause-new : goal.spread_all-requires-clause-new
spread_all-requires-clause-new g c =
    let now = mapped-some _ _ c.in-Some.field-0 (sym c.in-Some.ensures) in
    own-absent _ _ _ c.args.session now.0 c.own.result.now c.args.replica.0 c.requires.state.2.keeps now.1
    (subst (AreThose (λ a. inside c.args.x.now now.0.run.0 a ≡ true)) (sym c.own.ensures) (c.requires.state.2.known c.args.session now.0 now.1).own)

pub finish-requires : goal.finish-requires
finish-requires g c = mapped-some _ _ c.in-Some.field-0 (sym c.in-Some.ensures)

pub returns-in-None-clause-step : goal.returns-in-None-clause-step
returns-in-None-clause-step g c = λ rules. none_open c.args.session c.args.replica (mapped-none _ _ (sym c.in-None.ensures))

pub returns-in_ok-spread_all-in-Some-clause-step : goal.returns-in_ok-spread_all-in-Some-clause-step
returns-in_ok-spread_all-in-Some-clause-step g c = λ rules.
    let now = mapped-some _ _ c.in-Some.field-0 (sym c.in-Some.ensures) in
    let given = c.finish.ensures.own ∙ sym c.own.ensures in
    step-commits rules c.args.x.now (map g.H.Holder.received c.args.holders.now.items) (map g.H.Holder.received c.spread_all.new.holders.items) c.args.net.now c.spread_all.new.net
    c.args.shim.now c.finish.new.self c.args.session c.args.replica now.0 c.finish.result now.1
    (subst (AreThose (λ a. inside c.args.x.now now.0.run.0 a ≡ true)) (sym c.finish.ensures.own) (c.requires.state.2.known c.args.session now.0 now.1).own)
    c.requires.state.2.grouped
    (subst (λ (own : List ℕ). map g.H.Holder.received c.spread_all.new.holders.items ≡ received_by (map g.H.Holder.received c.args.holders.now.items) c.args.replica.0 own) (sym given) c.in_ok-spread_all-in-Some.ensures.received)
    (subst (λ (own : List ℕ). c.spread_all.new.net ≡ record c.args.net.now { messages = c.args.net.now.messages ++ package_to_others (length c.args.net.now.groups) c.args.replica own }) (sym given) c.in_ok-spread_all-in-Some.ensures.sent)
    c.finish.ensures.finished

pub returns-in_ok-spread_all-in-Some-clause-known : goal.returns-in_ok-spread_all-in-Some-clause-known
returns-in_ok-spread_all-in-Some-clause-known g c = known-finished c.args.x.now c.args.shim.now c.finish.new.self c.args.session c.finish.ensures.finished c.requires.state.2.known

pub returns-in_err-spread_all-in-Some-clause-step : goal.returns-in_err-spread_all-in-Some-clause-step
returns-in_err-spread_all-in-Some-clause-step g c = let p = err_from_is_err_and c.from_residual.result c.from_residual.ensures.1 in rw p.1 tt
