use Rattle.std.proofs.Common.{sym, subst, arith}
use Rattle.ql_holder.specs.Closed.{Has}
use Rattle.ql_ranges.specs.Ranges.{ids_of}
use Rattle.ql_holder.proofs.Members.{has_id-index}
use Rattle.ql_holder.proofs.Missing.{first-missing}
use Rattle.ql_replica.proofs.walking.first_outside.Goals as goal

pub returns-then-not-has : goal.returns-then-not-has
returns-then-not-has c = first-missing c.args.ids.now (ids_of c.args.set.now) c.loop-id.id-index c.requires (omega arith) c.loop-id.invariant (sym c.if-not-has.ensures)

pub returns : goal.returns
returns c = λ a is.
    let at = has_id-index c.args.ids.now a is in
    let inside = at.1 in
    subst (Has (ids_of c.args.set.now)) at.2 (c.loop-id.invariant at.0 (omega (arith, inside)))
