use Rattle.std.proofs.Common.{arith, sym}
use Rattle.ql_lines.proofs.AscendingIds.{above_last, under_last}
use Rattle.ql_lines.proofs.ids.is_above.Goals as goal

pub returns-in-Some : goal.returns-in-Some
returns-in-Some c =
    let ids = c.args.ids.now in
    let last = c.in-Some.last.now in (
      λ t. above_last ids c.args.id last c.requires (sym c.in-Some.ensures.value) (grind (arith, t)),
      λ up. let less = under_last ids c.args.id last (sym c.in-Some.ensures.value) up in grind (arith, less),
    )
