use Rattle.std.proofs.Common.{sym, subst, arith}
use Rattle.ql_holder.specs.Closed.{Has}
use Rattle.ql_holder.proofs.Members.{has_id-index}
use Rattle.ql_holder.proofs.Missing.{first-missing}
use Rattle.ql_plain_holder.proofs.closing.first_missing.Goals as goal

pub returns-then-not-has : goal.returns-then-not-has
returns-then-not-has c = first-missing c.args.ids.now c.args.others.now c.loop-id.id-index c.requires (omega arith) c.loop-id.invariant (sym c.if-not-has.ensures)

pub returns : goal.returns
returns c = λ a is.
    let at = has_id-index c.args.ids.now a is in
    let inside = at.1 in
    subst (Has c.args.others.now) at.2 (c.loop-id.invariant at.0 (omega (arith, inside)))
