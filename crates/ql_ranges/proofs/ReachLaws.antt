-- What is found, once each of it was visited.
use Rattle.std.proofs.Common.{◌≡◌, ℕ, zero, suc, ◌-◌, ◌<◌, ◌≤◌, ◌⊎◌, true, List, length, get_or, ap, sym, subst, ◌∙◌, inl, inr, arith}
use Rattle.std.proofs.lemmas.Bool.{or_cases, and_parts, eq-eqb, cases_order}
use Rattle.std.proofs.lemmas.Option.{same_Some}
use Rattle.ql_exec.specs.declared.effect.Effect.{Effect}
use Rattle.ql_exec.specs.Execution.{IsExecution}
use Rattle.ql_exec.specs.Relations.{vis, so, soo, sameobj, sametxn}
use Rattle.ql_exec.proofs.Finding.{so-between}
use Rattle.ql_holder.specs.Closed.{Has}
use Rattle.ql_holder.specs.Needs.{Needs, AreWhole}
use Rattle.ql_holder.proofs.Packages.{sametxn-back, sametxn-along, needed-there}
use Rattle.ql_ranges.specs.Reach.{InEither, IsReach}
use Rattle.ql_ranges.specs.Walks.{IsWalk, Visited, MetBefore, met_before, known_before, MetBelow, met_below, none_below, MetAbove, met_above, none_above}
use Rattle.ql_ranges.proofs.NeighbourLaws.{soo_parts, soo_from, soo-need, txn-need}
use Rattle.ql_holder.proofs.Members.{has_id-index}
use Rattle.ql_ranges.proofs.WalkLaws.{few, either-more}

-- ---- what is met stays met

before-more : (x : List Effect) (known found more : List ℕ) (e : ℕ) → ((a : ℕ) → Has found a → Has more a) → MetBefore x known found e → MetBefore x known more e
before-more x known found more e finds (met_before p is last m) = met_before p is last (either-more known found more finds p m)
before-more x known found more e finds (known_before all) = known_before all

pub below-more : (x : List Effect) (known found more : List ℕ) (e : ℕ) → ((a : ℕ) → Has found a → Has more a) → MetBelow x known found e → MetBelow x known more e
below-more x known found more e finds (met_below p is m) = met_below p is (either-more known found more finds p m)
below-more x known found more e finds (none_below none) = none_below none

above-more : (x : List Effect) (known found more : List ℕ) (e : ℕ) → ((a : ℕ) → Has found a → Has more a) → MetAbove x known found e → MetAbove x known more e
above-more x known found more e finds (met_above p is m) = met_above p is (either-more known found more finds p m)
above-more x known found more e finds (none_above none) = none_above none

-- visited, from its parts as they came
pub visited-from : (x : List Effect) (asked known one two more : List ℕ) (e : ℕ) → ((a : ℕ) → Has one a → Has more a) → ((a : ℕ) → Has two a → Has more a)
    → ((a : ℕ) → vis x a e ≡ true → InEither known one a) → MetBefore x known two e → Has asked e ⊎ (MetBelow x known more e × MetAbove x known more e)
    → Visited x asked known more e
visited-from x asked known one two more e first second seen before members = record {
  seen = λ a is. either-more known one more first a (seen a is);
  before = before-more x known two more e second before;
  members = members;
}

pub visited-more : (x : List Effect) (asked known found more : List ℕ) (e : ℕ) → ((a : ℕ) → Has found a → Has more a) → Visited x asked known found e → Visited x asked known more e
visited-more x asked known found more e finds v = visited-from x asked known found found more e finds finds v.seen v.before (members v.members)
  where
    members : Has asked e ⊎ (MetBelow x known found e × MetAbove x known found e) → Has asked e ⊎ (MetBelow x known more e × MetAbove x known more e)
    members (inl is) = inl is
    members (inr both) = inr (below-more x known found more e finds both.0, above-more x known found more e finds both.1)

-- ---- all that is needed is met

-- effects of which all were visited; the known ones have all that they need, and all of the transactions of what was asked was asked
pub record AreVisited (x : List Effect) (asked known found : List ℕ) : Type 0 where
  pub visited : (a : ℕ) → Has found a → Visited x asked known found a
  pub known_whole : (a b : ℕ) → Has known a → Needs x a b → Has known b
  pub asked_whole : (a b : ℕ) → Has asked a → sametxn x a b ≡ true → Has asked b
  pub asked_met : (a : ℕ) → Has asked a → InEither known found a

soo-between : (x : List Effect) (a p e : ℕ) → soo x a e ≡ true → soo x p e ≡ true → a < p → soo x a p ≡ true
soo-between x a p e one two less =
    let first = soo_parts x a e one in
    let second = soo_parts x p e two in
    let same : first.second ≡ second.second = same_Some first.second second.second (sym first.second_at ∙ second.second_at) in
    soo_from x a p first.first second.first first.first_at second.first_at
    (eq-eqb first.first.object.0 second.first.object.0 (first.one_object ∙ ap (λ (f : Effect). f.object.0) same ∙ sym second.one_object))
    (so-between x a p e less (and_parts (so x a e) (sameobj x a e) one).0 (and_parts (so x p e) (sameobj x p e) two).0)

-- back along the session, from one to the one before it
soo-met : (x : List Effect) (asked known found : List ℕ) → AreVisited x asked known found → (bound e a : ℕ) → e < bound → Has found e → soo x a e ≡ true → InEither known found a
soo-met x asked known found v zero e a within is order = absurd (omega (arith, within))
soo-met x asked known found v (suc bound) e a within is order =
    from_before (v.visited e is).before (λ p before there next. soo-met x asked known found v bound p a (omega (arith, before, within)) there next)
  where
    further : (p : ℕ) → ((q : ℕ) → q < e → Has found q → soo x a q ≡ true → InEither known found a) → soo x p e ≡ true → InEither known found p → a < p → InEither known found a
    further p go last (inl is_known) less = inl (v.known_whole p a is_known (soo-need x p a (soo-between x a p e order last less)))
    further p go last (inr is_found) less = go p ((soo_parts x p e last).less) is_found (soo-between x a p e order last less)

    from_before : MetBefore x known found e → ((q : ℕ) → q < e → Has found q → soo x a q ≡ true → InEither known found a) → InEither known found a
    from_before (known_before all) go = inl (all a order)
    from_before (met_before p last highest m) go = elim (cases_order a p) [
      | inl same ↦ subst (λ (b : ℕ). InEither known found b) (sym same) m
      | inr (inl less) ↦ further p go last m less
      | inr (inr more) ↦ absurd (let h : p < a = more in let low = highest a order in omega (arith, h, low))
    ]

-- one of a transaction, from the neighbour in it
from_neighbour : (x : List Effect) (asked known found : List ℕ) → AreVisited x asked known found → (e p a : ℕ) → sametxn x e p ≡ true → sametxn x e a ≡ true
    → InEither known found p → (Has found p → sametxn x p a ≡ true → InEither known found a) → InEither known found a
from_neighbour x asked known found v e p a one two (inl is) go = inl (v.known_whole p a is (txn-need x p a (sametxn-along x p e a (sametxn-back x e p one) two)))
from_neighbour x asked known found v e p a one two (inr is) go = go is (sametxn-along x p e a (sametxn-back x e p one) two)

below-met : (x : List Effect) (asked known found : List ℕ) → AreVisited x asked known found → (bound e a : ℕ) → e < bound → a < e → Has found e → sametxn x e a ≡ true → InEither known found a
below-met x asked known found v zero e a within less is same = absurd (omega (arith, within))
below-met x asked known found v (suc bound) e a within less is same =
    by_members (v.visited e is).members (λ p before h there next. below-met x asked known found v bound p a (omega (arith, before, within)) h there next)
  where
    by_below : MetBelow x known found e → ((p : ℕ) → p < e → a < p → Has found p → sametxn x p a ≡ true → InEither known found a) → InEither known found a
    by_below (none_below none) go = absurd (none a less same)
    by_below (met_below p last m) go = elim (cases_order a p) [
      | inl equal ↦ subst (λ (b : ℕ). InEither known found b) (sym equal) m
      | inr (inl lower) ↦ from_neighbour x asked known found v e p a last.1 same m (λ is_found there. go p last.0 lower is_found there)
      | inr (inr higher) ↦ absurd (let h : p < a = higher in let low = last.2 a less same in omega (arith, h, low))
    ]

    by_members : Has asked e ⊎ (MetBelow x known found e × MetAbove x known found e) → ((p : ℕ) → p < e → a < p → Has found p → sametxn x p a ≡ true → InEither known found a) → InEither known found a
    by_members (inl was_asked) go = v.asked_met a (v.asked_whole e a was_asked same)
    by_members (inr both) go = by_below both.0 go

above-met : (x : List Effect) (asked known found : List ℕ) → AreVisited x asked known found → (bound e a : ℕ) → a - e < bound → e < a → Has found e → sametxn x e a ≡ true → InEither known found a
above-met x asked known found v zero e a within more is same = absurd (omega (arith, within))
above-met x asked known found v (suc bound) e a within more is same =
    by_members (v.visited e is).members (λ p behind h there next. above-met x asked known found v bound p a (omega (arith, behind, within, h)) h there next)
  where
    by_above : MetAbove x known found e → ((p : ℕ) → e < p → p < a → Has found p → sametxn x p a ≡ true → InEither known found a) → InEither known found a
    by_above (none_above none) go = absurd (none a more same)
    by_above (met_above p next m) go = elim (cases_order a p) [
      | inl equal ↦ subst (λ (b : ℕ). InEither known found b) (sym equal) m
      | inr (inl lower) ↦ absurd (let h : a < p = lower in let low = next.2 a more same in omega (arith, h, low))
      | inr (inr higher) ↦ from_neighbour x asked known found v e p a next.1 same m (λ is_found there. go p next.0 higher is_found there)
    ]

    by_members : Has asked e ⊎ (MetBelow x known found e × MetAbove x known found e) → ((p : ℕ) → e < p → p < a → Has found p → sametxn x p a ≡ true → InEither known found a) → InEither known found a
    by_members (inl was_asked) go = v.asked_met a (v.asked_whole e a was_asked same)
    by_members (inr both) go = by_above both.1 go

pub visited-whole : (x : List Effect) (asked known found : List ℕ) → AreVisited x asked known found → (a b : ℕ) → Has found a → Needs x a b → InEither known found b
visited-whole x asked known found v a b is (inl step) = elim (or_cases (soo x b a) (vis x b a) step) [
  | inl order ↦ soo-met x asked known found v (suc a) a b (omega arith) is order
  | inr seen ↦ (v.visited a is).seen b seen
]
visited-whole x asked known found v a b is (inr txn) = elim (cases_order b a) [
  | inl equal ↦ inr (subst (λ (c : ℕ). Has found c) (sym equal) is)
  | inr (inl less) ↦ (let h : b < a = less in below-met x asked known found v (suc a) a b (omega arith) h is txn.1)
  | inr (inr more) ↦ (let h : a < b = more in above-met x asked known found v (suc (b - a)) a b (omega arith) h is txn.1)
]

-- ---- the loop

-- there are no more to be visited than effects
pub due-few : (x : List Effect) (asked found due : List ℕ) → IsExecution x → AreWhole x asked → IsWalk x asked found due → length due ≤ length x
due-few x asked found due law whole w =
    let count = w.count in
    let bound = few found 0 (length x) w.ascending (omega arith) (λ a is. needed-there x asked law whole.there a (w.needed a is)) in
    omega (arith, count, bound)

pub due-there : (x : List Effect) (asked found due : List ℕ) → IsExecution x → AreWhole x asked → IsWalk x asked found due → (k : ℕ) → k < length due → (1 ≤ get_or due k 0) × (get_or due k 0 ≤ length x)
due-there x asked found due law whole w k inside = needed-there x asked law whole.there (get_or due k 0) (w.needed (get_or due k 0) (w.each k inside))

pub reach-from : (x : List Effect) (asked known found due : List ℕ) → IsExecution x → AreWhole x asked → ((a b : ℕ) → Has known a → Needs x a b → Has known b) → IsWalk x asked found due
    → ((a : ℕ) → Has asked a → InEither known found a) → ((k : ℕ) → k < length due → Visited x asked known found (get_or due k 0)) → IsReach x asked known found
reach-from x asked known found due law whole closed w begins each = record {
  there = λ a has. needed-there x asked law whole.there a (w.needed a has);
  begins = begins;
  needed = w.needed;
  whole = visited-whole x asked known found (record {
    visited = λ a is. (let at = has_id-index due a (w.all a is) in subst (λ (b : ℕ). Visited x asked known found b) at.2 (each at.0 at.1));
    known_whole = closed;
    asked_whole = whole.whole;
    asked_met = begins;
  });
}
