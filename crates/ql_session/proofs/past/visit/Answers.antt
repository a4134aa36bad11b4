use Rattle.std.proofs.Common.{List, ℕ, sym, subst, inl, inr}
use Rattle.std.proofs.lemmas.Result.{on_ok_weaker}
use Rattle.ql_ranges.specs.Ranges.{ids_of}
use Rattle.ql_session.specs.Walks.{Joins}
use Rattle.ql_session.proofs.WalkLaws.{takes-in, walk-in, walk-past}
use Rattle.ql_session.proofs.past.visit.Goals.{else-not-has-via-then-not-has+else-not-has-2, else-not-has-via-else-not-has}
use Rattle.ql_session.proofs.past.visit.Goals as goal

pub returns-then-not-has-2 : goal.returns-then-not-has-2
returns-then-not-has-2 c =
    walk-past c.args.x.now c.args.e.0 c.get-effect.result.now (ids_of c.args.walk.now.met) (ids_of c.args.walk.now.sessions) c.requires.law c.get-effect.ensures c.requires.first
    (sym c.if-not-has.ensures) (sym c.if-not-has-2.ensures)

pub returns : goal.returns
returns c =
    let x = c.args.x.now in
    let e = c.args.e.0 in
    let effect = c.get-effect.result.now in
    let met = ids_of c.args.walk.now.met in
    let sessions = ids_of c.args.walk.now.sessions in
    let more = ids_of c.meet_all.new.met in
    let others = ids_of c.insert.new.self in
    on_ok_weaker c.meet_all.result
    (λ joins. walk-in x e effect met sessions more others c.requires.law c.get-effect.ensures c.requires.first
    (elim c.else-not-has.branch [
      | else-not-has-via-then-not-has+else-not-has-2 w ↦ inr (sym w.if-not-has-2.ensures)
      | else-not-has-via-else-not-has w ↦ inl (sym w.if-not-has.ensures)
    ])
    (takes-in e effect met sessions more others (subst (λ (l : List ℕ). Joins l effect.seen more) c.in_ok-insert-2.ensures.added joins) c.in_ok-insert.ensures.added))
    c.meet_all.ensures
