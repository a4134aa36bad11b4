use Rattle.std.proofs.lemmas.Result.{err_from_is_err_and}
use Rattle.ql_store.proofs.StrongLaws.{all-on}
use Rattle.ql_store.proofs.strong.strong_draft.Goals as goal

pub answer-requires-clause-seen : goal.answer-requires-clause-seen
answer-requires-clause-seen g c =
    let those = all-on c.args.x.now c.args.sessions.now c.args.asked.object c.on.result.now c.in_ok-seen.seen c.on.ensures c.requires.noted c.in_ok-seen.ensures in
    (c.args.asked.object, those.only)

pub answer-requires-clause-able : goal.answer-requires-clause-able
answer-requires-clause-able g c =
    let those = all-on c.args.x.now c.args.sessions.now c.args.asked.object c.on.result.now c.in_ok-seen.seen c.on.ensures c.requires.noted c.in_ok-seen.ensures in
    c.requires.able c.in_ok-seen.seen those.only

pub returns-clause-seen : goal.returns-clause-seen
returns-clause-seen g c = all-on c.args.x.now c.args.sessions.now c.args.asked.object c.on.result.now c.in_ok-seen.seen c.on.ensures c.requires.noted c.in_ok-seen.ensures

pub returns-in_err-answered-clause-answered : goal.returns-in_err-answered-clause-answered
returns-in_err-answered-clause-answered g c = let p = err_from_is_err_and c.from_residual-in_err-answered.result c.from_residual-in_err-answered.ensures.1 in rw p.1 tt

pub returns-in_err-answered-clause-seen : goal.returns-in_err-answered-clause-seen
returns-in_err-answered-clause-seen g c = let p = err_from_is_err_and c.from_residual-in_err-answered.result c.from_residual-in_err-answered.ensures.1 in rw p.1 tt

pub returns-in_err-seen-clause-answered : goal.returns-in_err-seen-clause-answered
returns-in_err-seen-clause-answered g c = let p = err_from_is_err_and c.from_residual.result c.from_residual.ensures.1 in rw p.1 tt

pub returns-in_err-seen-clause-seen : goal.returns-in_err-seen-clause-seen
returns-in_err-seen-clause-seen g c = let p = err_from_is_err_and c.from_residual.result c.from_residual.ensures.1 in rw p.1 tt
