use Rattle.std.proofs.Common.{List, ℕ, ap, sym, ◌∙◌, subst}
use Rattle.ql_base.specs.IdLists.{IsAscending, has_id}
use Rattle.ql_base.proofs.IdLemmas.{IsAscending-with_id}
use Rattle.ql_holder.proofs.IdSets.{has_id-with}
use Rattle.ql_holder.proofs.Missing.{none-more, one-more}
use Rattle.ql_replica.proofs.walking.insert_outside.Goals as goal

pub returns-then-has-clause-added : goal.returns-then-has-clause-added
returns-then-has-clause-added c = λ a. none-more _ _ _ c.if-has.ensures

pub returns-clause-ascending : goal.returns-clause-ascending
returns-clause-ascending c = subst IsAscending (sym c.in_ok-insert.ensures.added) (IsAscending-with_id c.args.rest.now c.args.id c.requires)

pub returns-clause-added : goal.returns-clause-added
returns-clause-added c = λ a.
    one-more c.args.rest.now c.insert.new.self _ c.args.id a c.if-has.ensures (ap (λ (l : List ℕ). has_id l a) c.in_ok-insert.ensures.added ∙ has_id-with c.args.rest.now c.args.id a)
