use Rattle.std.proofs.Common.{◌≡◌, ◌-◌, ◌≤◌, ◌<◌, ◌++◌, ◌∷◌, [], ℕ, suc, get_or, refl, ap, sym, subst, ◌∙◌, length, arith, take, length-append}
use Rattle.std.proofs.lemmas.List.{get_or_default, length-take-le}
use Rattle.ql_exec.specs.Execution.{IsExecution}
use Rattle.ql_exec.specs.Latest.{IsLastOf, FindsLast, KnowsRuns}
use Rattle.ql_exec.specs.Links.{IsLink, HasLinks}
use Rattle.ql_exec.proofs.Finding.{all_but_last}
use Rattle.ql_exec.proofs.Law.{IsExecution-front}
use Rattle.ql_exec.proofs.LatestLaws.{FindsLast-pop, KnowsRuns-front}
use Rattle.ql_exec.proofs.LinksLaws.{link-last, HasLinks-front}
use Rattle.ql_exec.proofs.execution.Execution.pop.Goals as goal

pub invariant_of-self : goal.invariant_of-self
invariant_of-self c =
    let x = c.self.inside.effects.items in
    let links = c.self.inside.links.items in
    let k = c.len-count.result - 1 in
    let e = c.index.result.now in
    let before = c.index-2.result.now in
    let y = take k x in
    let count = c.len-count.ensures in
    let n : c.len-count.result ≡ length x = omega (arith, count, c.self.inside.effects.ok.0) in
    let some : 1 ≤ c.len-count.result = let h : 1 ≤ length x = rw c.self.view_is c.requires in omega (arith, h, n) in
    let whole : x ≡ y ++ e ∷ [] = all_but_last x k c.len-count.result e refl some n c.index.ensures in
    let size : length y ≡ k = length-take-le k x (omega (arith, n)) in
    let table : HasLinks links (y ++ e ∷ []) = subst (HasLinks links) whole c.self.invariant.3 in
    let inside : k < length links = let same = c.self.invariant.3.0 in omega (arith, same, some, n) in
    let place : get_or links (length y) 0 ≡ before = ap (λ (j : ℕ). get_or links j 0) size ∙ sym (c.index-2.ensures ∙ get_or_default links k before 0 inside) in
    let last : IsLastOf y e.session before = link-last y e before
    (subst (λ (id : ℕ). IsLink (y ++ e ∷ []) (suc (length y)) id) place (table.1 (length y) (omega (arith, length-append y (e ∷ []))))) in
    let longer = ap length whole in
    let few = c.self.invariant.1 in
    rw (c.truncate.ensures.items, c.truncate-2.ensures.items, c.put.ensures) (
      IsExecution-front y (e ∷ []) (subst IsExecution whole c.self.invariant.0),
      omega (arith, longer, few, length-append y (e ∷ [])),
      FindsLast-pop c.self.inside.latest y e before last (subst (FindsLast c.self.inside.latest) whole c.self.invariant.2),
      subst (λ (j : ℕ). HasLinks (take j links) y) size (HasLinks-front links y (e ∷ []) table),
      KnowsRuns-front c.self.inside.runs y (e ∷ []) (subst (KnowsRuns c.self.inside.runs) whole c.self.invariant.4),
    )
