-- What keeps each clause in the lists of the literals that it watches.
use Rattle.std.proofs.Common.{◌≡◌, ◌≢◌, ℕ, zero, suc, ◌+◌, ◌<◌, ◌≤◌, Bool, true, false, cond, List, [], ◌∷◌, ◌++◌, length, get_or, refl, sym, ◌∙◌, ap, subst, arith, get_or-set_other}
use Rattle.std.proofs.Math.ListN.{set, length-set}
use Rattle.std.proofs.lemmas.Bool.Decides.{nat_tests}
use Rattle.std.proofs.lemmas.List.{get_or-set_same, get_or_default}
use Rattle.std.proofs.lemmas.List.Sums.{sum_by_push, sum_by-swap_remove}
use Rattle.std.specs.Prelude.{◌==◌}
use Rattle.std.specs.List.{swap_remove}
use Rattle.ql_cnf.specs.declared.lit.Lit.{Lit}
use Rattle.ql_sat.specs.Watch.{index_of, count_of, IsListed, AreListed, pair_at, replaced}
use Rattle.ql_sat.specs.declared.watches.Pair.{Pair}

not_same : (a b : ℕ) → a ≢ b → (a == b) ≡ false
not_same a b h = grind (arith, nat_tests)

is_same : (a b : ℕ) → (a == b) ≡ true → a ≡ b
is_same a b h = grind (arith, nat_tests)

other_number : (a b : ℕ) → (a == b) ≡ false → a ≢ b
other_number a b h = grind (arith, nat_tests)

same_refl : (a : ℕ) → (a == a) ≡ true
same_refl a = grind (arith, nat_tests)

-- a number at the end is one of these
pub count_push : (ns : List ℕ) (k : ℕ) → 0 < count_of k (ns ++ k ∷ [])
unfolding count_of
count_push ns k =
    let sums = sum_by_push (λ n. cond (n == k) 1 0) ns k in
    let one : ◌≡◌ {A = ℕ} (cond (k == k) 1 0) 1 = rw (same_refl k) refl in
    rw (sums, one) (omega arith)

pub count_stays : (ns : List ℕ) (k n : ℕ) → count_of k ns ≤ count_of k (ns ++ n ∷ [])
unfolding count_of
count_stays ns k n = rw (sum_by_push (λ m. cond (m == k) 1 0) ns n) (omega arith)

-- another number taken out
pub count_others : (ns : List ℕ) (i k d e : ℕ) → i < length ns → k ≢ get_or ns i e → count_of k (swap_remove ns i d) ≡ count_of k ns
unfolding count_of
count_others ns i k d e l other =
    let there : get_or ns i d ≡ get_or ns i e = get_or_default ns i d e l in
    let sums = sum_by-swap_remove (λ n. cond (n == k) 1 0) ns i d l in
    let none : ◌≡◌ {A = ℕ} (cond (get_or ns i d == k) 1 0) 0 = rw (not_same (get_or ns i d) k (λ f. other (sym f ∙ there))) refl in
    less _ _ _ sums none
  where
    less : (a s b : ℕ) → a + s ≡ b → s ≡ 0 → a ≡ b
    less a s b f g = omega arith

-- one list that has all that it had
pub listed_set : (lists : List (List ℕ)) (i : ℕ) (now : List ℕ) (x : Lit) (k : ℕ) → (index_of x ≡ i → 0 < count_of k (get_or lists i []) → 0 < count_of k now) → IsListed lists x k → IsListed (set lists i now) x k
listed_set lists i now x k stays listed within = step (index_of x == i) refl
  where
    inside : index_of x < length lists
    inside = subst (λ (n : ℕ). index_of x < n) (length-set lists i now) within

    step : (b : Bool) → (index_of x == i) ≡ b → 0 < count_of k (get_or (set lists i now) (index_of x) [])
    step true e =
        let same : index_of x ≡ i = is_same (index_of x) i e in
        let here : i < length lists = subst (λ (n : ℕ). n < length lists) same inside in
        let now_there : get_or (set lists i now) (index_of x) [] ≡ now = ap (λ (n : ℕ). get_or (set lists i now) n []) same ∙ get_or-set_same lists i now [] here in
        let had : 0 < count_of k (get_or lists i []) = subst (λ (n : ℕ). 0 < count_of k (get_or lists n [])) same (listed inside) in
        subst (λ (ns : List ℕ). 0 < count_of k ns) (sym now_there) (stays same had)
    step false e =
        let other : index_of x ≢ i = other_number (index_of x) i e in
        rw get_or-set_other (listed inside)

-- the clause stands in a list that it was put into
pub listed_new : (lists : List (List ℕ)) (i : ℕ) (had now : List ℕ) (x : Lit) (k : ℕ) → i ≡ index_of x → now ≡ had ++ k ∷ [] → IsListed (set lists i now) x k
listed_new lists i had now x k same is within =
    let inside : index_of x < length lists = subst (λ (n : ℕ). index_of x < n) (length-set lists i now) within in
    let here : i < length lists = omega (arith, same, inside) in
    let there : get_or (set lists i now) (index_of x) [] ≡ had ++ k ∷ [] = ap (λ (n : ℕ). get_or (set lists i now) n []) (sym same) ∙ get_or-set_same lists i now [] here ∙ is in
    subst (λ (ns : List ℕ). 0 < count_of k ns) (sym there) (count_push had k)

-- and the others stay
pub listed_kept : (lists : List (List ℕ)) (i : ℕ) (had now : List ℕ) (n : ℕ) (x : Lit) (k : ℕ) → had ≡ get_or lists i [] → now ≡ had ++ n ∷ [] → IsListed lists x k → IsListed (set lists i now) x k
listed_kept lists i had now n x k was is listed =
    listed_set lists i now x k (λ same some. subst (λ (ns : List ℕ). 0 < count_of k ns) (sym is) (more (count_of k had) (count_of k (had ++ n ∷ [])) (subst (λ (ns : List ℕ). 0 < count_of k ns) (sym was) some) (count_stays had k n))) listed
  where
    more : (a b : ℕ) → 0 < a → a ≤ b → 0 < b
    more a b h l = omega arith

pub listed_stay : (lists now : List (List ℕ)) (pairs : List Pair) → ((x : Lit) (k : ℕ) → IsListed lists x k → IsListed now x k) → AreListed lists pairs → AreListed now pairs
listed_stay lists now pairs stays listed k l = (stays (pair_at pairs k).first k (listed k l).0, stays (pair_at pairs k).second k (listed k l).1)

-- another literal watched in place of one
pub listed_change : (old mid now : List (List ℕ)) (pairs after : List Pair) (from to : Lit) (c : ℕ) → AreListed old pairs → ((x : Lit) (k : ℕ) → IsListed old x k → IsListed mid x k) → IsListed mid to c → ((x : Lit) (k : ℕ) → (index_of x ≡ index_of from → k ≢ c) → IsListed mid x k → IsListed now x k) → length after ≡ length pairs → ((k : ℕ) → k ≢ c → pair_at after k ≡ pair_at pairs k) → (c < length pairs → pair_at after c ≡ replaced (pair_at pairs c) from to) → (index_of to ≡ index_of from → ⊥) → AreListed now after
listed_change old mid now pairs after from to c listed stays new leaves len others pair away k l = step (k == c) refl
  where
    there : k < length pairs
    there = subst (λ (n : ℕ). k < n) len l

    literal : (x : Lit) → IsListed old x c → (b : Bool) → (index_of x == index_of from) ≡ b → IsListed now (cond b to x) c
    literal x had true e = leaves to c (λ same. absurd (away same)) new
    literal x had false e = leaves x c (λ same. absurd (other_number (index_of x) (index_of from) e same)) (stays x c had)

    step : (b : Bool) → (k == c) ≡ b → IsListed now (pair_at after k).first k × IsListed now (pair_at after k).second k
    step true e =
        let same : k ≡ c = is_same k c e in
        let there_c : c < length pairs = subst (λ (n : ℕ). n < length pairs) same there in
        let had = listed c there_c in
        subst (λ (n : ℕ). IsListed now (pair_at after n).first n × IsListed now (pair_at after n).second n) (sym same)
        (subst (λ (p : Pair). IsListed now p.first c × IsListed now p.second c) (sym (pair there_c))
        (literal (pair_at pairs c).first had.0 (index_of (pair_at pairs c).first == index_of from) refl, literal (pair_at pairs c).second had.1 (index_of (pair_at pairs c).second == index_of from) refl))
    step false e =
        let other : k ≢ c = other_number k c e in
        let had = listed k there in
        subst (λ (p : Pair). IsListed now p.first k × IsListed now p.second k) (sym (others k other))
        (leaves (pair_at pairs k).first k (λ same. other) (stays (pair_at pairs k).first k had.0), leaves (pair_at pairs k).second k (λ same. other) (stays (pair_at pairs k).second k had.1))

-- one clause more, which stands in both lists
pub listed_more : (old now : List (List ℕ)) (pairs : List Pair) (p : Pair) → AreListed old pairs → ((x : Lit) (k : ℕ) → IsListed old x k → IsListed now x k) → IsListed now p.first (length pairs) → IsListed now p.second (length pairs) → AreListed now (pairs ++ p ∷ [])
listed_more old now pairs p listed stays first second k l = step (k == length pairs) refl
  where
    at_end : (ps : List Pair) → pair_at (ps ++ p ∷ []) (length ps) ≡ p
    at_end [] = refl
    at_end (q ∷ ps) = at_end ps

    before : (ps : List Pair) (n : ℕ) → n < length ps → pair_at (ps ++ p ∷ []) n ≡ pair_at ps n
    before [] n h = absurd (omega arith)
    before (q ∷ ps) zero h = refl
    before (q ∷ ps) (suc n) h = before ps n (omega arith)

    long : (ps : List Pair) → length (ps ++ p ∷ []) ≡ suc (length ps)
    long [] = refl
    long (q ∷ ps) = ap suc (long ps)

    step : (b : Bool) → (k == length pairs) ≡ b → IsListed now (pair_at (pairs ++ p ∷ []) k).first k × IsListed now (pair_at (pairs ++ p ∷ []) k).second k
    step true e =
        let same : k ≡ length pairs = is_same k (length pairs) e in
        subst (λ (n : ℕ). IsListed now (pair_at (pairs ++ p ∷ []) n).first n × IsListed now (pair_at (pairs ++ p ∷ []) n).second n) (sym same)
        (subst (λ (q : Pair). IsListed now q.first (length pairs) × IsListed now q.second (length pairs)) (sym (at_end pairs)) (first, second))
    step false e =
        let other : k ≢ length pairs = other_number k (length pairs) e in
        let there : k < length pairs = omega (arith, long pairs) in
        let had = listed k there in
        subst (λ (q : Pair). IsListed now q.first k × IsListed now q.second k) (sym (before pairs k there)) (stays (pair_at pairs k).first k had.0, stays (pair_at pairs k).second k had.1)
