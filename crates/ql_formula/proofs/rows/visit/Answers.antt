use Rattle.ql_formula.proofs.RowLaws.{part_with}
use Rattle.ql_formula.proofs.rows.visit.Goals as goal

pub returns-then-not-get-clause-closed : goal.returns-then-not-get-clause-closed
returns-then-not-get-clause-closed c = λ step forward earlier is_step known.
    part_with step forward c.args.row.now c.include.new.row c.args.earlier.now earlier is_step c.include.ensures.length c.include.ensures.included known
