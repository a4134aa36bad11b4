use Rattle.std.proofs.Common.{List, ℕ, [], sym, subst}
use Rattle.ql_holder.specs.Closed.{Has}
use Rattle.ql_holder.proofs.Packages.{needed-itself}
use Rattle.ql_ranges.specs.Ranges.{ids_of}
use Rattle.ql_ranges.specs.declared.ranges.IdRange.{IdRange}
use Rattle.ql_ranges.specs.Walks.{IsWalk}
use Rattle.ql_ranges.proofs.WalkLaws.{walk-begins}
use Rattle.ql_ranges.proofs.walk.begin.Goals as goal

pub returns-clause-walk : goal.returns-clause-walk
returns-clause-walk c = λ x.
    let asked = c.args.asked.now in
    let none : IsWalk x asked (ids_of c.new.result) c.new-2.result.items =
    subst (λ (f : List IdRange). IsWalk x asked (ids_of f) c.new-2.result.items) (sym c.new.ensures)
    (subst (λ (d : List ℕ). IsWalk x asked [] d) (sym c.new-2.ensures.items) (walk-begins x asked)) in
    c.in_ok-meet_each.ensures.walk x asked (λ a is. needed-itself x asked a (subst (λ (l : List ℕ). Has l a) c.items.ensures.same is)) none
