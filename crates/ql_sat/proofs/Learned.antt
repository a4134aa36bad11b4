-- The learned clause: what it is, and that its line is good.
use Rattle.std.proofs.Common.{◌≡◌, ◌≢◌, ℕ, zero, suc, ◌<◌, ◌≤◌, Bool, true, false, not, cond, List, [], ◌∷◌, ◌++◌, Option, Some, None, length, drop, refl, sym, ◌∙◌, ap, subst, arith}
use Rattle.std.proofs.lemmas.List.{append-nil}
use Rattle.std.proofs.lemmas.Bool.Decides.{nat_tests}
use Rattle.std.specs.Prelude.{◌==◌, is_some, slice_index, reverse}
use Rattle.ql_cnf.specs.Literals.{negated, AllAbove, IsAscendingByVariable}
use Rattle.ql_cnf.specs.Satisfaction.{ClauseList, AreInRange}
use Rattle.ql_cnf.specs.declared.lit.Lit.{Lit}
use Rattle.ql_refute.specs.Marks.{value_of_mark}
use Rattle.ql_refute.specs.Partial.{Partial, nothing, with_true, with_all_false}
use Rattle.ql_refute.specs.Verdict.{hints_fault}
use Rattle.ql_refute.specs.declared.refutation.Hint.{Hint}
use Rattle.ql_refute.specs.declared.refutation.Line.{Line}
use Rattle.ql_sat.specs.Trail.{assigned_from, is_seen, AllUnset, NoneSeen, IsSearching, IsAnalysis, learned_to}
use Rattle.ql_sat.specs.declared.trail.Step.{Step}
use Rattle.ql_sat.proofs.Models.{mark_value}

is_same : (a b : ℕ) → (a == b) ≡ true → a ≡ b
is_same a b h = grind (arith, nat_tests)

not_same : (a b : ℕ) → a ≢ b → (a == b) ≡ false
not_same a b h = grind (arith, nat_tests)

same_refl : (a : ℕ) → (a == a) ≡ true
same_refl a = grind (arith, nat_tests)

not_not : (b : Bool) → not (not b) ≡ b
not_not true = refl
not_not false = refl

-- the variables of these literals are 1 to n, by recursion
abbrev Within : ℕ → List Lit → Type 0
Within n [] = Unit {0}
Within n (x ∷ xs) = ((1 ≤ x.var) × (x.var ≤ n)) × Within n xs

within_more : (n : ℕ) (xs : List Lit) → Within n xs → Within (suc n) xs
within_more n [] h = tt
within_more n (x ∷ xs) h = ((h.0.0, omega (arith, h.0.1)), within_more n xs h.1)

within_push : (n : ℕ) (xs : List Lit) (x : Lit) → Within n xs → 1 ≤ x.var → x.var ≤ n → Within n (xs ++ x ∷ [])
within_push n [] x h low high = ((low, high), tt)
within_push n (y ∷ ys) x h low high = (h.0, within_push n ys x h.1 low high)

within_in_range : (n : ℕ) (xs : List Lit) → Within n xs → AreInRange n xs
within_in_range n [] h k d l = absurd (omega arith)
within_in_range n (x ∷ xs) h zero d l = h.0
within_in_range n (x ∷ xs) h (suc k) d l = let l' : k < length xs = omega arith in within_in_range n xs h.1 k d l'

above_push : (m : ℕ) (xs : List Lit) (x : Lit) → AllAbove m xs → m < x.var → AllAbove m (xs ++ x ∷ [])
above_push m [] x h l = (l, tt)
above_push m (y ∷ ys) x h l = (h.0, above_push m ys x h.1 l)

ascending_push : (n : ℕ) (xs : List Lit) (x : Lit) → IsAscendingByVariable xs → Within n xs → n < x.var → IsAscendingByVariable (xs ++ x ∷ [])
ascending_push n [] x a w l = (tt, tt)
ascending_push n (y ∷ ys) x a w l = (above_push y.var ys x a.0 (omega (arith, w.0.1)), ascending_push n ys x a.1 w.1 l)

learned_within : (m : List ℕ) (seen : List Bool) (n : ℕ) → Within n (learned_to m seen n)
learned_within m seen zero = tt
learned_within m seen (suc n) = step (is_seen seen (suc n)) (within_more n (learned_to m seen n) (learned_within m seen n))
  where
    append_none : (xs : List Lit) → Within (suc n) xs → Within (suc n) (xs ++ [])
    append_none [] h = tt
    append_none (x ∷ xs) h = (h.0, append_none xs h.1)

    step : (b : Bool) → Within (suc n) (learned_to m seen n) → Within (suc n) (learned_to m seen n ++ cond b (record { var = suc n; positive = not (slice_index m (suc n) == 1) } ∷ []) [])
    step true h = within_push (suc n) (learned_to m seen n) (record { var = suc n; positive = not (slice_index m (suc n) == 1) }) h (omega arith) (omega arith)
    step false h = append_none (learned_to m seen n) h

pub learned_in_range : (m : List ℕ) (seen : List Bool) (n : ℕ) → AreInRange n (learned_to m seen n)
learned_in_range m seen n = within_in_range n (learned_to m seen n) (learned_within m seen n)

-- the learned clause is ascending
pub learned_ascending : (m : List ℕ) (seen : List Bool) (n : ℕ) → IsAscendingByVariable (learned_to m seen n)
learned_ascending m seen zero = tt
learned_ascending m seen (suc n) = step (is_seen seen (suc n)) (learned_ascending m seen n)
  where
    append_none : (xs : List Lit) → IsAscendingByVariable xs → IsAscendingByVariable (xs ++ [])
    append_none xs h = rw append-nil h

    step : (b : Bool) → IsAscendingByVariable (learned_to m seen n) → IsAscendingByVariable (learned_to m seen n ++ cond b (record { var = suc n; positive = not (slice_index m (suc n) == 1) } ∷ []) [])
    step true h = ascending_push n (learned_to m seen n) (record { var = suc n; positive = not (slice_index m (suc n) == 1) }) h (learned_within m seen n) (omega arith)
    step false h = append_none (learned_to m seen n) h

false-append : (p : Partial) (xs ys : List Lit) → with_all_false p (xs ++ ys) ≡ with_all_false (with_all_false p xs) ys
false-append p [] ys = refl
false-append p (x ∷ xs) ys = false-append (with_true p (negated x)) xs ys

-- the values of its negation: those of the seen variables, and no others
values_unseen : (m : List ℕ) (seen : List Bool) (n v : ℕ) → is_seen seen v ≡ false → with_all_false nothing (learned_to m seen n) v ≡ None
values_unseen m seen zero v h = refl
values_unseen m seen (suc n) v h =
    ap (λ (p : Partial). p v) (false-append nothing (learned_to m seen n) (cond (is_seen seen (suc n)) (record { var = suc n; positive = not (slice_index m (suc n) == 1) } ∷ []) []))
    ∙ step (is_seen seen (suc n)) refl (values_unseen m seen n v h)
  where
    step : (b : Bool) → is_seen seen (suc n) ≡ b → with_all_false nothing (learned_to m seen n) v ≡ None → with_all_false (with_all_false nothing (learned_to m seen n)) (cond b (record { var = suc n; positive = not (slice_index m (suc n) == 1) } ∷ []) []) v ≡ None
    step true e g =
        let other : (v == suc n) ≡ false = not_same v (suc n) (λ same. absurd (let yes : is_seen seen v ≡ true = rw same e in cc)) in
        rw other g
    step false e g = g

values_seen : (m : List ℕ) (seen : List Bool) (n v : ℕ) → 1 ≤ v → v ≤ n → is_seen seen v ≡ true → with_all_false nothing (learned_to m seen n) v ≡ Some (slice_index m v == 1)
values_seen m seen zero v low high h = absurd (omega arith)
values_seen m seen (suc n) v low high h =
    ap (λ (p : Partial). p v) (false-append nothing (learned_to m seen n) (cond (is_seen seen (suc n)) (record { var = suc n; positive = not (slice_index m (suc n) == 1) } ∷ []) []))
    ∙ step (is_seen seen (suc n)) refl (v == suc n) refl (λ l. values_seen m seen n v low l h)
  where
    step : (b : Bool) → is_seen seen (suc n) ≡ b → (t : Bool) → (v == suc n) ≡ t → (v ≤ n → with_all_false nothing (learned_to m seen n) v ≡ Some (slice_index m v == 1)) → with_all_false (with_all_false nothing (learned_to m seen n)) (cond b (record { var = suc n; positive = not (slice_index m (suc n) == 1) } ∷ []) []) v ≡ Some (slice_index m v == 1)
    step true e true f ih = let same : v ≡ suc n = is_same v (suc n) f in rw (f, not_not (slice_index m (suc n) == 1)) (ap (λ (u : ℕ). Some (slice_index m u == 1)) (sym same))
    step true e false f ih = rw f (ih (smaller v n high f))
      where
        smaller : (v n : ℕ) → v ≤ suc n → (v == suc n) ≡ false → v ≤ n
        smaller v n h f = grind (arith, nat_tests)
    step false e true f ih = absurd (let same : v ≡ suc n = is_same v (suc n) f in let yes : is_seen seen (suc n) ≡ true = subst (λ (u : ℕ). is_seen seen u ≡ true) same h in cc)
    step false e false f ih = ih (smaller v n high f)
      where
        smaller : (v n : ℕ) → v ≤ suc n → (v == suc n) ≡ false → v ≤ n
        smaller v n h f = grind (arith, nat_tests)

later_unset : (m : List ℕ) (seen : List Bool) (n : ℕ) (ss : List Step) → NoneSeen seen ss → AllUnset (with_all_false nothing (learned_to m seen n)) ss
later_unset m seen n [] h = tt
later_unset m seen n (s ∷ ss) h = (values_unseen m seen n s.lit.var h.0, later_unset m seen n ss h.1)

pub some_value : (o : Option Bool) (n : ℕ) → value_of_mark n ≡ o → is_some o ≡ true → Some (n == 1) ≡ o
some_value None n h e = absurd (cc)
some_value (Some b) n h e = ap Some (mark_value n b h)

-- the hints in reverse lead from the negation of the learned clause to a conflict
pub learned_conflict : (c : ClauseList) (lines : List Line) (trail : List Step) (m : List ℕ) (i : ℕ) (seen : List Bool) (hints : List Hint) → IsSearching c lines trail m → IsAnalysis c lines trail i seen hints → (k : ℕ) → hints_fault c lines k (reverse hints) (with_all_false nothing (learned_to m seen c.variables)) ≡ None
learned_conflict c lines trail m i seen hints searching analysis k =
    analysis.derived (with_all_false nothing (learned_to m seen c.variables)) values (later_unset m seen c.variables (drop i trail) analysis.none) k
  where
    values : (v : ℕ) → is_seen seen v ≡ true → with_all_false nothing (learned_to m seen c.variables) v ≡ assigned_from nothing trail v
    values v h =
        let known = analysis.values v h in
        values_seen m seen c.variables v known.0 known.1 h ∙ some_value (assigned_from nothing trail v) (slice_index m v) (ap (λ (p : Partial). p v) searching.values) known.2
