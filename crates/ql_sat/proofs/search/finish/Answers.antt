use Rattle.std.proofs.lemmas.Result.{err_from_is_err_and}
use Rattle.ql_sat.specs.Search.{IsTotal}
use Rattle.ql_sat.specs.Settled.{with_lines}
use Rattle.ql_sat.proofs.Watching.{watched_decided, watched_model}
use Rattle.ql_sat.proofs.search.finish.Goals as goal

pub returns-in-Some : goal.returns-in-Some
returns-in-Some c =
    let sound = c.in_ok-decide_on.ensures.searching c.args.c.now c.args.search.now.lines.items c.requires.ready.sound in
    record {
      sound = sound;
      ready = λ e. record {
        sound = sound;
        watched = watched_decided c.args.c.now (with_lines c.args.c.now c.args.search.now.lines.items) c.args.search.now.lines.items c.args.search.now.trail.steps.items c.decide_on.new.trail.steps.items c.args.search.now.guide.watches.lists.items c.args.search.now.guide.watches.pairs.items c.args.search.now.guide.queue.done _ c.in_ok-decide_on.ensures.pushed sound.steps c.requires.all c.requires.ready.watched;
        seen = c.requires.ready.seen;
      };
      turn = tt;
      number = λ e. c.in_ok-decide_on.ensures.number c.args.c.now c.args.search.now.lines.items c.requires.ready.sound;
    }

pub returns-in-None : goal.returns-in-None
returns-in-None c =
    let total : IsTotal c.args.c.now.variables c.args.search.now.trail.marks.items = rw (c.variables.ensures, c.deref.ensures.value) at c.in_default.ensures in
    record {
      sound = c.requires.ready.sound;
      ready = λ e. absurd (cc);
      turn = λ a agrees. watched_model c.args.c.now c.args.search.now.lines.items c.args.search.now.trail.steps.items c.args.search.now.trail.marks.items c.args.search.now.guide.watches.lists.items c.args.search.now.guide.watches.pairs.items c.args.search.now.guide.queue.done a c.requires.ready.sound.values c.requires.ready.watched c.requires.all c.in-None.ensures.none c.in-None.ensures.in_range total agrees;
      number = λ e. absurd (cc);
    }

pub returns-in_err-decide_on : goal.returns-in_err-decide_on
returns-in_err-decide_on c = let p = err_from_is_err_and c.from_residual.result c.from_residual.ensures.1 in rw p.1 tt
