use Rattle.std.proofs.Common.{◌≡◌, ◌+◌, ◌-◌, ◌<◌, ◌≤◌, ℕ, length, get_or, sym, subst, ◌∙◌, inl, inr, arith}
use Rattle.std.proofs.lemmas.Bool.{cases_lt}
use Rattle.std.proofs.lemmas.List.{get_or_default}
use Rattle.ql_holder.specs.Needs.{IsNeeded}
use Rattle.ql_ranges.specs.Ranges.{ids_of}
use Rattle.ql_ranges.specs.Walks.{Visited}
use Rattle.ql_ranges.proofs.WalkLaws.{either-more}
use Rattle.ql_ranges.proofs.ReachLaws.{due-few, due-there, visited-more, reach-from}
use Rattle.ql_ranges.proofs.walk.visit_all.Goals as goal

-- the effect that is visited
there : (c : goal.After-visit-arg-1) → (1 ≤ c.index-e.result.now) × (c.index-e.result.now ≤ length c.args.effects.now)
there c =
    let due = c.loop-visited.walk.due.items in
    let k = c.loop-visited.visited in
    let inside : k < length due = omega arith in
    subst (λ (e : ℕ). (1 ≤ e) × (e ≤ length c.args.effects.now)) (sym (c.index-e.ensures ∙ get_or_default due k c.index-e.result.now 0 inside))
    (due-there c.args.effects.now c.args.search.now.asked.now (ids_of c.loop-visited.walk.found) due c.requires.law c.requires.asked c.loop-visited.invariant.walk k inside)

pub visit-requires-clause-first : goal.visit-requires-clause-first
visit-requires-clause-first c = (there c).0

pub visit-requires-clause-last : goal.visit-requires-clause-last
visit-requires-clause-last c = (there c).1

pub loop-visited-smaller : goal.loop-visited-smaller
loop-visited-smaller c =
    let due = c.loop-visited.walk.due.items in
    let inside : c.loop-visited.visited < length due = omega arith in
    let few = due-few c.args.effects.now c.args.search.now.asked.now (ids_of c.loop-visited.walk.found) due c.requires.law c.requires.asked c.loop-visited.invariant.walk in
    less (length c.args.effects.now) c.loop-visited.visited (omega (arith, inside, few))
  where
    less : (n k : ℕ) → k < n → n - (k + 1) < n - k
    less n k inside = omega arith

pub loop-visited-preserved : goal.loop-visited-preserved
loop-visited-preserved c =
    let x = c.args.effects.now in
    let known = ids_of c.args.search.now.known.now in
    let due = c.loop-visited.walk.due.items in
    let later = c.visit.new.walk.due.items in
    let k = c.loop-visited.visited in
    let inside : k < length due = omega arith in
    let here : c.index-e.result.now ≡ get_or due k 0 = c.index-e.ensures ∙ get_or_default due k c.index-e.result.now 0 inside in
    let on = c.in_ok-visit.ensures.on in
    let needed : IsNeeded x c.args.search.now.asked.now c.index-e.result.now =
    subst (λ (e : ℕ). IsNeeded x c.args.search.now.asked.now e) (sym here) (c.loop-visited.invariant.walk.needed (get_or due k 0) (c.loop-visited.invariant.walk.each k inside)) in
    let longer = on.grows.longer in
    record {
      walk = on.walk c.args.search.now.asked.now needed c.loop-visited.invariant.walk;
      begins = λ a is. either-more known (ids_of c.loop-visited.walk.found) (ids_of c.visit.new.walk.found) on.grows.finds a (c.loop-visited.invariant.begins a is);
      inside = omega (arith, inside, longer);
      done = λ n h. elim (cases_lt n k) [
        | inl before ↦
            subst (λ (e : ℕ). Visited x c.args.search.now.asked.now known (ids_of c.visit.new.walk.found) e) (sym (on.grows.keeps n (omega (arith, before, inside))))
            (visited-more x c.args.search.now.asked.now known (ids_of c.loop-visited.walk.found) (ids_of c.visit.new.walk.found) (get_or due n 0) on.grows.finds (c.loop-visited.invariant.done n before))
        | inr behind ↦
            let last : n ≡ k = omega (arith, behind, h) in
            subst (λ (m : ℕ). Visited x c.args.search.now.asked.now known (ids_of c.visit.new.walk.found) (get_or later m 0)) (sym last)
            (subst (λ (e : ℕ). Visited x c.args.search.now.asked.now known (ids_of c.visit.new.walk.found) e) (here ∙ sym (on.grows.keeps k inside)) c.in_ok-visit.ensures.visited)
      ];
    }

pub returns : goal.returns
returns c =
    reach-from c.args.effects.now c.args.search.now.asked.now (ids_of c.args.search.now.known.now) (ids_of c.loop-visited.walk.found) c.loop-visited.walk.due.items c.requires.law c.requires.asked c.requires.known
    c.loop-visited.invariant.walk c.loop-visited.invariant.begins (λ k h. c.loop-visited.invariant.done k (omega arith))
