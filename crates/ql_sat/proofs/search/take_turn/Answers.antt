use Rattle.std.proofs.lemmas.Result.{err_from_is_err_and}
use Rattle.std.proofs.Common.{◌≡◌, length, arith}
use Rattle.ql_sat.specs.Settled.{with_lines, IsWatched}
use Rattle.ql_sat.proofs.Watching.{watched_decided}
use Rattle.ql_sat.proofs.search.take_turn.Goals as goal

pub returns-in-Some-next : goal.returns-in-Some-next
returns-in-Some-next c =
    let after = rw c.deref.ensures.value at c.in_ok-conflict.ensures.sound in
    let watched : IsWatched (with_lines c.args.c.now c.args.search.now.lines.items) c.propagate.new.trail.steps.items c.propagate.new.guide.watches.lists.items c.propagate.new.guide.watches.pairs.items c.propagate.new.guide.queue.done = rw (c.deref.ensures.value, c.in_default.is) at c.in_ok-conflict.ensures.watched in
    let all : c.propagate.new.guide.queue.done ≡ length c.propagate.new.trail.steps.items = rw c.in_default.is at c.in_ok-conflict.ensures.all in
    let sound = c.in_ok-decide_on.ensures.searching c.args.c.now c.args.search.now.lines.items after in
    let greater = c.in_ok-decide_on.ensures.number c.args.c.now c.args.search.now.lines.items after in
    record {
      sound = sound;
      ready = λ e. record {
        sound = sound;
        watched = watched_decided c.args.c.now (with_lines c.args.c.now c.args.search.now.lines.items) c.args.search.now.lines.items c.propagate.new.trail.steps.items c.decide_on.new.trail.steps.items c.propagate.new.guide.watches.lists.items c.propagate.new.guide.watches.pairs.items c.propagate.new.guide.queue.done _ c.in_ok-decide_on.ensures.pushed sound.steps all watched;
        seen = c.requires.seen;
      };
      turn = tt;
      number = λ e. omega (arith, c.in_ok-conflict.ensures.number, greater);
    }

pub returns-in_err-conflict : goal.returns-in_err-conflict
returns-in_err-conflict c = let p = err_from_is_err_and c.from_residual.result c.from_residual.ensures.1 in rw p.1 tt

pub returns-in_err-decide_on : goal.returns-in_err-decide_on
returns-in_err-decide_on c = let p = err_from_is_err_and c.from_residual-in_err-decide_on.result c.from_residual-in_err-decide_on.ensures.1 in rw p.1 tt
