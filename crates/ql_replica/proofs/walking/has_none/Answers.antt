use Rattle.std.proofs.Common.{◌≡◌, ℕ, false, get_or, sym, subst, arith}
use Rattle.ql_base.specs.IdLists.{has_id}
use Rattle.ql_ranges.specs.Ranges.{ids_of}
use Rattle.ql_holder.proofs.Members.{has_id-index, index-has}
use Rattle.ql_replica.proofs.walking.has_none.Goals as goal

pub returns-then-has-clause-some : goal.returns-then-has-clause-some
returns-then-has-clause-some c = (get_or c.args.ids.now c.loop-id.id-index 0, index-has c.args.ids.now c.loop-id.id-index (omega arith), sym c.if-has.ensures)

pub returns-clause-none : goal.returns-clause-none
returns-clause-none c = λ a is.
    let at = has_id-index c.args.ids.now a is in
    let inside = at.1 in
    subst (λ (b : ℕ). has_id (ids_of c.args.set.now) b ≡ false) at.2 (c.loop-id.invariant at.0 (omega (arith, inside)))
