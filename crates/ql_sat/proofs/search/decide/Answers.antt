use Rattle.std.proofs.lemmas.Result.{err_from_is_err_and}
use Rattle.std.proofs.Common.{◌<◌, ◌-◌, ◌^◌, ◌+◌, ℕ, arith}
use Rattle.ql_sat.specs.Trail.{trail_number}
use Rattle.ql_sat.proofs.GoodLines.{accepted}
use Rattle.ql_sat.proofs.Measure.{number-below}
use Rattle.ql_sat.proofs.search.decide.Goals as goal

pub returns-in-Refuted-clause-right : goal.returns-in-Refuted-clause-right
returns-in-Refuted-clause-right c =
    let outcome = rw c.in-Refuted.is at c.in_ok-take_turn.ensures.turn in
    rw c.of.ensures (accepted c.args.c.now c.take_turn.new.search.lines.items c.in-Refuted.field-0 c.in_ok-take_turn.ensures.sound.good outcome)

smaller : (a b m : ℕ) → a < b → b < m → m - b < m - a
smaller a b m h l = omega arith

pub turns-smaller : goal.turns-smaller
turns-smaller c = smaller (trail_number (c.args.c.now.variables + 1) c.turns.search.trail.steps.items) (trail_number (c.args.c.now.variables + 1) c.take_turn.new.search.trail.steps.items) (3 ^ (c.args.c.now.variables + 1)) (c.in_ok-take_turn.ensures.number c.in-More.is) (number-below (c.args.c.now.variables + 1) c.take_turn.new.search.trail.steps.items)

pub returns-in_err-assignment-in-Model-clause-numbered : goal.returns-in_err-assignment-in-Model-clause-numbered
returns-in_err-assignment-in-Model-clause-numbered c = let p = err_from_is_err_and c.from_residual-in_err-assignment-in-Model.result c.from_residual-in_err-assignment-in-Model.ensures.1 in rw p.1 tt

pub returns-in_err-assignment-in-Model-clause-right : goal.returns-in_err-assignment-in-Model-clause-right
returns-in_err-assignment-in-Model-clause-right c = let p = err_from_is_err_and c.from_residual-in_err-assignment-in-Model.result c.from_residual-in_err-assignment-in-Model.ensures.1 in rw p.1 tt

pub returns-in_err-search-clause-numbered : goal.returns-in_err-search-clause-numbered
returns-in_err-search-clause-numbered c = let p = err_from_is_err_and c.from_residual.result c.from_residual.ensures.1 in rw p.1 tt

pub returns-in_err-search-clause-right : goal.returns-in_err-search-clause-right
returns-in_err-search-clause-right c = let p = err_from_is_err_and c.from_residual.result c.from_residual.ensures.1 in rw p.1 tt

pub returns-in_err-take_turn-clause-numbered : goal.returns-in_err-take_turn-clause-numbered
returns-in_err-take_turn-clause-numbered c = let p = err_from_is_err_and c.from_residual-in_err-take_turn.result c.from_residual-in_err-take_turn.ensures.1 in rw p.1 tt

pub returns-in_err-take_turn-clause-right : goal.returns-in_err-take_turn-clause-right
returns-in_err-take_turn-clause-right c = let p = err_from_is_err_and c.from_residual-in_err-take_turn.result c.from_residual-in_err-take_turn.ensures.1 in rw p.1 tt
