use Rattle.std.proofs.lemmas.Result.{err_from_is_err_and}
use Rattle.std.proofs.Common.{◌≡◌, ℕ, length, sym, subst, arith}
use Rattle.ql_sat.specs.State.{AreWatched, all_clauses}
use Rattle.ql_sat.proofs.Watching.{watched_quiet}
use Rattle.ql_sat.proofs.propagation.propagate.Goals as goal

pub loop-place-init : goal.loop-place-init
loop-place-init c = record {
  sound = c.in_ok-conflict.ensures.sound;
  watched = subst (λ (n : ℕ). AreWatched c.args.known c.read_units.new.trail c.args.guide.now.watches n) (sym c.in_ok-conflict.ensures.done) (c.in_ok-conflict.ensures.watched c.args.guide.now.watches c.args.guide.now.queue.done c.requires.watched);
  number = c.in_ok-conflict.ensures.number;
}

pub returns : goal.returns
returns c =
    let all : c.loop-place.place ≡ length c.loop-place.trail.steps.items = omega (arith, c.loop-place-test.false, c.len.ensures, c.loop-place.trail.steps.ok.0, c.loop-place.invariant.watched.within) in
    record {
      sound = c.loop-place.invariant.sound;
      guarded = c.loop-place.invariant.watched.guarded;
      watched = c.loop-place.invariant.watched;
      all = all;
      quiet = watched_quiet (all_clauses c.args.known) c.loop-place.trail.steps.items c.loop-place.trail.marks.items c.loop-place.guide.watches.lists.items c.loop-place.guide.watches.pairs.items c.loop-place.place c.loop-place.invariant.sound.values c.loop-place.invariant.watched all;
      conflict = tt;
      number = c.loop-place.invariant.number;
    }

pub returns-in_err-conflict : goal.returns-in_err-conflict
returns-in_err-conflict c = let p = err_from_is_err_and c.from_residual.result c.from_residual.ensures.1 in rw p.1 tt

pub returns-in_err-conflict-2 : goal.returns-in_err-conflict-2
returns-in_err-conflict-2 c = let p = err_from_is_err_and c.from_residual-in_err-conflict-2.result c.from_residual-in_err-conflict-2.ensures.1 in rw p.1 tt
