use Rattle.std.proofs.Common.{arith, ◌≤◌, suc, ◌-◌}
use Rattle.ql_cnf.specs.Literals.{count_below}
use Rattle.ql_cnf.proofs.Places.{count_below-length, count_below-le, count_below-ge}
use Rattle.ql_cnf.proofs.clause.place_of.Goals as goal

pub loop-place-init : goal.loop-place-init
loop-place-init c = (count_below-length c.args.var c.args.items.now, omega arith)

pub loop-place-preserved : goal.loop-place-preserved
loop-place-preserved c =
    (count_below-le c.args.var c.args.items.now (c.loop-place.place - 1) _ (omega arith) c.if-var-items.true, omega arith)

pub returns-else-var-items : goal.returns-else-var-items
returns-else-var-items c =
    let all_before : suc (c.loop-place.place - 1) ≤ count_below c.args.var c.args.items.now = count_below-ge c.args.var c.args.items.now (c.loop-place.place - 1) _ c.requires (omega arith) c.if-var-items.false in
    omega arith
