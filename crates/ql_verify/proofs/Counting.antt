-- The sums of work, and their bound.
use Rattle.std.proofs.Common.{◌≡◌, ◌≤◌, ◌<◌, ◌+◌, ◌*◌, ◌^◌, ℕ, zero, suc, Bool, true, false, cond, nat_eq, nat_lt, List, [], ◌∷◌, Some, length, get_or, drop, refl, sym, ap, ◌∙◌, arith, add-one}
use Rattle.std.proofs.Math.Nat.{mul_assoc, pow-suc, pow-succ', pow-zero}
use Rattle.std.proofs.Math.Seq.{drop-cons}
use Rattle.std.proofs.lemmas.List.{drop_all}
use Rattle.std.specs.List.{slice_get}
use Rattle.ql_base.specs.IdLists.{with_id}
use Rattle.ql_lang.specs.Formulas.{Resolved}
use Rattle.ql_exec.specs.declared.effect.Effect.{Effect}
use Rattle.ql_exec.specs.declared.effect.Member.{Member}
use Rattle.ql_exec.specs.declared.effect.Member.TheVariants.{Alone, Inside}
use Rattle.ql_verify.specs.Work.{with_run, with_runs, work_from}

-- a set grows by one id at most
grows : (ids : List ℕ) (id : ℕ) → length (with_id ids id) ≤ suc (length ids)
grows [] id = omega arith
grows (other ∷ ids) id = by (nat_lt id other) (nat_lt other id) (grows ids id)
  where
    by : (b c : Bool) → length (with_id ids id) ≤ suc (length ids)
        → length (cond b (id ∷ other ∷ ids) (cond c (other ∷ with_id ids id) (other ∷ ids))) ≤ suc (suc (length ids))
    by true c rest = omega arith
    by false true rest = omega (arith, rest)
    by false false rest = omega arith

pub run_grows : (d : ℕ) (runs : List ℕ) (m : Member) → length (with_run d runs m) ≤ suc (length runs)
run_grows d runs Alone = omega arith
run_grows d runs (Inside run name) = by (nat_eq name.0 d)
  where
    by : (b : Bool) → length (cond b (with_id runs run.0) runs) ≤ suc (length runs)
    by true = grows runs run.0
    by false = omega arith

next_item : {A : Type 0} (xs : List A) (i : ℕ) (x : A) → i < length xs → x ≡ get_or xs i x → drop i xs ≡ x ∷ drop (i + 1) xs
next_item xs i x lt is = drop-cons xs i x lt ∙ rw (← is, add-one i) refl

pub more_runs : (d : ℕ) (runs next : List ℕ) (effects : List Effect) (i : ℕ) (e : Effect) → i < length effects → e ≡ get_or effects i e → next ≡ with_run d runs e.member
    → with_runs d runs (drop i effects) ≡ with_runs d next (drop (i + 1) effects)
more_runs d runs next effects i e lt is step = ap (with_runs d runs) (next_item effects i e lt is) ∙ ap (λ r. with_runs d r (drop (i + 1) effects)) (sym step)

pub all_runs : (d : ℕ) (runs : List ℕ) (effects : List Effect) (i : ℕ) → length effects ≤ i → with_runs d runs (drop i effects) ≡ runs
all_runs d runs effects i past = ap (with_runs d runs) (drop_all i effects past)

-- sums
item_drops : {A : Type 0} (xs : List A) (k : ℕ) (x : A) → slice_get xs k ≡ Some x → drop k xs ≡ x ∷ drop (suc k) xs
item_drops [] k x is = let no : ⊥ = cc in absurd no
item_drops (y ∷ xs) zero x is = let same : y ≡ x = cc in ap (λ z. z ∷ xs) same
item_drops (y ∷ xs) (suc k) x is = item_drops xs k x is

pub more_work : (n : ℕ) (often : ℕ → ℕ) (work next k part : ℕ) (fs : List Resolved) (f : Resolved) → slice_get fs k ≡ Some f → part ≡ often k * n ^ length f.vars → next ≡ work + part
    → work + work_from n often k (drop k fs) ≡ work_from n often 0 fs → next + work_from n often (k + 1) (drop (k + 1) fs) ≡ work_from n often 0 fs
unfolding work_from
more_work n often work next k part fs f is part_is step h =
    let here : work_from n often k (drop k fs) ≡ part + work_from n often (suc k) (drop (suc k) fs) =
    ap (work_from n often k) (item_drops fs k f is) ∙ ap (λ q. q + work_from n often (suc k) (drop (suc k) fs)) (sym part_is) in
    rw (add-one k) (omega (arith, here, step, h))

pub all_work : (n : ℕ) (often : ℕ → ℕ) (work k : ℕ) (fs : List Resolved) → length fs ≤ k → work + work_from n often k (drop k fs) ≡ work_from n often 0 fs → work ≡ work_from n often 0 fs
unfolding work_from
all_work n often work k fs past h =
    let none : work_from n often k (drop k fs) ≡ 0 = ap (work_from n often k) (drop_all k fs past) in
    omega (arith, none, h)

-- powers
times_le : (c a b : ℕ) → a ≤ b → c * a ≤ c * b
times_le zero a b le = omega arith
times_le (suc c) a b le = let rest = times_le c a b le in omega (arith, le, rest)

pub times_both : (a b c d : ℕ) → a ≤ c → b ≤ d → a * b ≤ c * d
times_both a b zero d le le' = let none : a ≡ 0 = omega arith in rw none (omega arith)
times_both zero b c d le le' = omega arith
times_both (suc a) b (suc c) d le le' = let rest = times_both a b c d (omega arith) le' in omega (arith, le', rest)

pub power_le : (n m k : ℕ) → n ≤ m → n ^ k ≤ m ^ k
power_le n m zero le = rw (pow-zero n, pow-zero m) (omega arith)
power_le n m (suc k) le = rw (pow-succ' n k, pow-succ' m k) (times_both n (n ^ k) m (m ^ k) le (power_le n m k le))

power_up : (k : ℕ) → k ≤ 5 → 4000 ^ k ≤ 1024000000000000000
power_up zero le = omega arith
power_up (suc zero) le = omega arith
power_up (suc (suc zero)) le = omega arith
power_up (suc (suc (suc zero))) le = omega arith
power_up (suc (suc (suc (suc zero)))) le = omega arith
power_up (suc (suc (suc (suc (suc zero))))) le = omega arith
power_up (suc (suc (suc (suc (suc (suc k)))))) le = absurd (omega arith)

pub choices_bound : (often n k : ℕ) → often ≤ 4000 → n ≤ 4000 → k ≤ 5 → often * n ^ k ≤ 4096000000000000000000
choices_bound often n k some few vars =
    let power = power_le n 4000 k few in
    let most = power_up k vars in
    times_both often (n ^ k) 4000 1024000000000000000 some (omega (arith, power, most))

pub one_more_variable : (often n k product : ℕ) → product ≡ often * n ^ k → product * n ≡ often * n ^ (k + 1)
one_more_variable often n k product is = rw (is, add-one k, pow-suc n k) (mul_assoc often (n ^ k) n)
