use Rattle.std.proofs.Common.{◌≡◌, ℕ, List, false, subst}
use Rattle.ql_base.specs.IdLists.{has_id}
use Rattle.ql_holder.specs.Closed.{Has}
use Rattle.ql_ranges.specs.Ranges.{ids_of}
use Rattle.ql_holder.proofs.Missing.{missing-all}
use Rattle.ql_replica.proofs.walking.without.Goals as goal

pub returns-then-has_none-clause-lacks : goal.returns-then-has_none-clause-lacks
returns-then-has_none-clause-lacks c = λ a.
    missing-all c.args.ids (ids_of c.args.set.now) a (subst (λ (l : List ℕ). (b : ℕ) → Has l b → has_id (ids_of c.args.set.now) b ≡ false) c.items.ensures.same c.if-has_none.ensures.none)
