use Rattle.std.proofs.lemmas.Result.{err_from_is_err_and}
use Rattle.std.proofs.Common.{◌+◌, arith}
use Rattle.ql_sat.specs.State.{all_clauses}
use Rattle.ql_sat.proofs.Forcing.{longer_least}
use Rattle.ql_sat.proofs.Visiting.{watched_read}
use Rattle.ql_sat.proofs.propagation.read_units.Goals as goal

pub returns-in-Conflict-clause-watched : goal.returns-in-Conflict-clause-watched
returns-in-Conflict-clause-watched c =
    let read = c.in_ok-propagate_clause.ensures in
    λ watches done h. watched_read c.args.known.given.now (all_clauses c.args.known) c.args.known.lines.now c.loop-number.trail.steps.items c.propagate_clause.new.trail.steps.items watches.lists.items watches.pairs.items done (c.args.known.given.now.variables + 1) c.in_ok-propagate_clause.field-0 read.sound.steps read.number (c.loop-number.invariant.watched watches done h)

pub loop-number-preserved : goal.loop-number-preserved
loop-number-preserved c =
    let read = c.in_ok-propagate_clause.ensures in
    record {
      sound = read.sound;
      watched = λ watches done h. watched_read c.args.known.given.now (all_clauses c.args.known) c.args.known.lines.now c.loop-number.trail.steps.items c.propagate_clause.new.trail.steps.items watches.lists.items watches.pairs.items done (c.args.known.given.now.variables + 1) c.in_ok-propagate_clause.field-0 read.sound.steps read.number (c.loop-number.invariant.watched watches done h);
      done = c.loop-number.invariant.done;
      number = omega (arith, c.loop-number.invariant.number, longer_least c.in_ok-propagate_clause.field-0 (c.args.known.given.now.variables + 1) c.loop-number.trail.steps.items c.propagate_clause.new.trail.steps.items read.number);
    }

pub returns-in_err-propagate_clause-clause-sound : goal.returns-in_err-propagate_clause-clause-sound
returns-in_err-propagate_clause-clause-sound c = let p = err_from_is_err_and c.from_residual.result c.from_residual.ensures.1 in rw p.1 tt

pub returns-in_err-propagate_clause-clause-watched : goal.returns-in_err-propagate_clause-clause-watched
returns-in_err-propagate_clause-clause-watched c = let p = err_from_is_err_and c.from_residual.result c.from_residual.ensures.1 in rw p.1 tt

pub returns-in_err-propagate_clause-clause-conflict : goal.returns-in_err-propagate_clause-clause-conflict
returns-in_err-propagate_clause-clause-conflict c = let p = err_from_is_err_and c.from_residual.result c.from_residual.ensures.1 in rw p.1 tt

pub returns-in_err-propagate_clause-clause-number : goal.returns-in_err-propagate_clause-clause-number
returns-in_err-propagate_clause-clause-number c = let p = err_from_is_err_and c.from_residual.result c.from_residual.ensures.1 in rw p.1 tt
