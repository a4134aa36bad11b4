use Rattle.std.proofs.lemmas.Result.{err_from_is_err_and}
use Rattle.std.proofs.Common.{◌≡◌, ◌++◌, ◌∷◌, [], ℕ, suc, length-append, ◌+◌, ◌<◌, ◌^◌, length, ap, arith, ◌∙◌}
use Rattle.ql_exec.specs.Execution.{IsExecution}
use Rattle.ql_exec.specs.Latest.{latest_of, with_latest, IsLastOf}
use Rattle.ql_exec.proofs.LatestLaws.{FindsLast-push, KnowsRuns-push}
use Rattle.ql_exec.proofs.LinksLaws.{HasLinks-push, only_last}
use Rattle.ql_exec.proofs.execution.Execution.append.Goals as goal

pub make_room-requires : goal.make_room-requires
make_room-requires c = only_last c.self.inside.effects.items c.args.effect.session c.args.before (latest_of c.self.inside.latest c.args.effect.session) (rw c.self.view_is c.requires.last) (c.self.invariant.2 c.args.effect.session)

pub returns-clause-pushed : goal.returns-clause-pushed
returns-clause-pushed c = rw (← c.self.view_is) c.in_ok-push.ensures.items

pub invariant_of-self : goal.invariant_of-self
invariant_of-self c = (c.self.invariant.0, c.self.invariant.1, c.make_room.ensures.latest c.self.inside.effects.items c.self.invariant.2, c.self.invariant.3, c.make_room.ensures.runs c.self.inside.effects.items c.self.invariant.4)

pub invariant_of-self-in_err-reserve : goal.invariant_of-self-in_err-reserve
invariant_of-self-in_err-reserve c =
    rw c.in_err-reserve.ensures.items
    (c.self.invariant.0, c.self.invariant.1, c.make_room.ensures.latest c.self.inside.effects.items c.self.invariant.2, c.self.invariant.3, c.make_room.ensures.runs c.self.inside.effects.items c.self.invariant.4)

pub invariant_of-self-in_err-push : goal.invariant_of-self-in_err-push
invariant_of-self-in_err-push c =
    rw (c.in_err-push.ensures.items, c.in_ok-reserve.ensures.items)
    (c.self.invariant.0, c.self.invariant.1, c.make_room.ensures.latest c.self.inside.effects.items c.self.invariant.2, c.self.invariant.3, c.make_room.ensures.runs c.self.inside.effects.items c.self.invariant.4)

pub invariant_of-self-2 : goal.invariant_of-self-2
invariant_of-self-2 c =
    let x = c.self.inside.effects.items in
    let effect = c.args.effect in
    let count = c.len.ensures in
    let id : c.len.result + 1 ≡ suc (length x) = omega (arith, count, c.self.inside.effects.ok.0) in
    let table : c.put.new.self ≡ with_latest c.make_room.new.latest effect.session (suc (length x)) = c.put.ensures ∙ ap (λ (n : ℕ). with_latest c.make_room.new.latest effect.session n) id in
    let room : length x + 1 < 2 ^ 32 = rw c.self.view_is c.requires.room in
    let law : IsExecution (x ++ effect ∷ []) = rw c.self.view_is c.requires.execution in
    let last : IsLastOf x effect.session c.args.before = rw c.self.view_is c.requires.last in
    rw (c.in_ok-push.ensures.items, table, c.push_reserved.ensures.items, c.in_ok-reserve.ensures.items) (
      law,
      omega (arith, room, length-append x (effect ∷ [])),
      FindsLast-push c.make_room.new.latest x effect c.in_ok-make_room.ensures.entry (c.make_room.ensures.latest x c.self.invariant.2),
      HasLinks-push c.self.inside.links.items x effect c.args.before last c.self.invariant.3,
      KnowsRuns-push c.make_room.new.runs x effect c.in_ok-make_room.ensures.run (c.make_room.ensures.runs x c.self.invariant.4),
    )

pub returns-in_err-make_room-clause-pushed : goal.returns-in_err-make_room-clause-pushed
returns-in_err-make_room-clause-pushed c = let p = err_from_is_err_and c.from_residual.result c.from_residual.ensures.1 in rw p.1 tt

pub returns-in_err-push-clause-pushed : goal.returns-in_err-push-clause-pushed
returns-in_err-push-clause-pushed c = let p = err_from_is_err_and c.from_residual-in_err-push.result c.from_residual-in_err-push.ensures.1 in rw p.1 tt

pub returns-in_err-reserve-clause-pushed : goal.returns-in_err-reserve-clause-pushed
returns-in_err-reserve-clause-pushed c = let p = err_from_is_err_and c.from_residual-in_err-reserve.result c.from_residual-in_err-reserve.ensures.1 in rw p.1 tt
