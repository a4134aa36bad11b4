use Rattle.std.proofs.Common.{◌<◌, length, arith, false}
use Rattle.ql_cnf.specs.declared.lit.Lit.{Lit}
use Rattle.ql_cert.proofs.LineLaws.{last_decides, last_is_below}
use Rattle.ql_cert.proofs.line.goes_on.Goals as goal

pub returns-else-is_empty : goal.returns-else-is_empty
returns-else-is_empty c =
    let some : 0 < length c.args.before.now = grind (arith, c.is_empty.ensures, c.if-is_empty.false) in
    let none : Lit = record { var = 0; positive = false } in (
      λ lt. last_decides c.args.before.now none c.args.next some c.requires (grind (arith, lt)),
      λ h. let below = last_is_below c.args.before.now none c.args.next some h in grind (arith, below),
    )
