use Rattle.std.proofs.Common.{◌≡◌, ℕ, ◌-◌, take, Some, ◌∙◌, ap, refl, subst, refl, IsSome}
use Rattle.ql_session.specs.Rows.{all_but_last}
use Rattle.ql_session.proofs.PairLaws.{pair-changed}
use Rattle.ql_session.proofs.index.pop_pair.Goals as goal

pub returns-in-Some : goal.returns-in-Some
returns-in-Some c =
    let was = c.in-Some.row.now in
    let popped : c.pop.new.self.items ≡ all_but_last was.items = c.pop.ensures.rest ∙ ap (λ (n : ℕ). take (n - 1) was.items) was.ok.0 in
    pair-changed (λ list. all_but_last list) c.args.pairs.now (c.get_mut.follows.lender c.pop.new.self) c.args.note (Some was) c.pop.new.self
    c.in-Some.ensures.value ((c.get_mut.follows.holds c.pop.new.self).3 (subst IsSome c.in-Some.ensures.value refl)) popped
