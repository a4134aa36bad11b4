-- One clause more that watches its literals.
use Rattle.std.proofs.Common.{◌≡◌, ◌≢◌, ℕ, zero, suc, ◌+◌, ◌-◌, ◌<◌, Bool, true, false, List, [], ◌∷◌, ◌++◌, Some, length, get_or, refl, sym, ◌∙◌, subst, arith}
use Rattle.std.proofs.lemmas.Bool.Decides.{nat_tests}
use Rattle.std.proofs.lemmas.List.{get_or_append_left, length_push}
use Rattle.std.specs.Prelude.{◌==◌, slice_get}
use Rattle.ql_cnf.specs.Literals.{IsAscendingByVariable}
use Rattle.ql_cnf.specs.Satisfaction.{ClauseList, with_clause}
use Rattle.ql_cnf.specs.declared.lit.Lit.{Lit}
use Rattle.ql_sat.specs.Settled.{WatchesOwn, AtDecisions, AreSettled, IsWatched, values_to}
use Rattle.ql_sat.specs.Trail.{assigned_from}
use Rattle.ql_refute.specs.Partial.{Partial, nothing, with_true}
use Rattle.ql_sat.specs.Settled.{IsSettled}
use Rattle.ql_sat.specs.Watch.{pair_at}
use Rattle.ql_sat.specs.declared.trail.Step.{Step}
use Rattle.ql_sat.specs.declared.watches.Pair.{Pair}
use Rattle.ql_sat.proofs.Numbers.{get_of}

is_same : (a b : ℕ) → (a == b) ≡ true → a ≡ b
is_same a b h = grind (arith, nat_tests)

other_number : (a b : ℕ) → (a == b) ≡ false → a ≢ b
other_number a b h = grind (arith, nat_tests)

each_more : (Q : ℕ → Type 0) (k : ℕ) → ((j : ℕ) → j < k → Q j) → Q k → (j : ℕ) → j < k + 1 → Q j
each_more Q k before here j l = step (j == k) refl
  where
    step : (b : Bool) → (j == k) ≡ b → Q j
    step true e = subst Q (sym (is_same j k e)) here
    step false e = before j (omega (arith, l, other_number j k e))

abbrev no_pair : Pair
no_pair = record { first = record { var = 0; positive = false }; second = record { var = 0; positive = false } }

at_end : (ps : List Pair) (p : Pair) → pair_at (ps ++ p ∷ []) (length ps) ≡ p
at_end [] p = refl
at_end (q ∷ ps) p = at_end ps p

pub pair_stays : (pairs : List Pair) (w : Pair) (k : ℕ) → k < length pairs → pair_at (pairs ++ w ∷ []) k ≡ pair_at pairs k
pair_stays pairs w k l = get_or_append_left pairs (w ∷ []) no_pair k l

clause_there : (cs : List (List Lit)) (k : ℕ) (d : List Lit) → slice_get cs (k + 1 - 1) ≡ Some d → get_or cs k [] ≡ d
clause_there cs k d h =
    let same : k + 1 - 1 ≡ k = omega arith in
    (get_of cs k d [] (rw same at h)).1

pub own_more : (cs : List (List Lit)) (pairs : List Pair) (w : Pair) (k : ℕ) (d : List Lit) → length pairs ≡ k → slice_get cs (k + 1 - 1) ≡ Some d → WatchesOwn d w → ((j : ℕ) → j < k → WatchesOwn (get_or cs j []) (pair_at pairs j)) → (j : ℕ) → j < k + 1 → WatchesOwn (get_or cs j []) (pair_at (pairs ++ w ∷ []) j)
own_more cs pairs w k d long there own before =
    each_more (λ j. WatchesOwn (get_or cs j []) (pair_at (pairs ++ w ∷ []) j)) k
    (λ j l. subst (λ (p : Pair). WatchesOwn (get_or cs j []) p) (sym (pair_stays pairs w j (omega (arith, l, long)))) (before j l))
    (subst (λ (e : List Lit). WatchesOwn e (pair_at (pairs ++ w ∷ []) k)) (sym (clause_there cs k d there)) (subst (λ (n : ℕ). WatchesOwn d (pair_at (pairs ++ w ∷ []) n)) long (subst (λ (p : Pair). WatchesOwn d p) (sym (at_end pairs w)) own)))

pub ascending_more : (cs : List (List Lit)) (k : ℕ) (d : List Lit) → slice_get cs (k + 1 - 1) ≡ Some d → IsAscendingByVariable d → ((j : ℕ) → j < k → IsAscendingByVariable (get_or cs j [])) → (j : ℕ) → j < k + 1 → IsAscendingByVariable (get_or cs j [])
ascending_more cs k d there ascending before =
    each_more (λ j. IsAscendingByVariable (get_or cs j [])) k before (subst (λ (e : List Lit). IsAscendingByVariable e) (sym (clause_there cs k d there)) ascending)

-- one clause more and its pair
each_pushed : (Q : List Lit → Pair → Type 0) (cs : List (List Lit)) (d : List Lit) (pairs : List Pair) (w : Pair) → length pairs ≡ length cs → ((k : ℕ) → k < length cs → Q (get_or cs k []) (pair_at pairs k)) → Q d w → (k : ℕ) → k < length (cs ++ d ∷ []) → Q (get_or (cs ++ d ∷ []) k []) (pair_at (pairs ++ w ∷ []) k)
each_pushed Q [] d [] w long each here zero l = here
each_pushed Q [] d [] w long each here (suc k) l = absurd (omega (arith, l))
each_pushed Q [] d (p ∷ ps) w long each here k l = absurd (omega (arith, long))
each_pushed Q (e ∷ cs) d [] w long each here k l = absurd (omega (arith, long))
each_pushed Q (e ∷ cs) d (p ∷ ps) w long each here zero l = each zero (omega arith)
each_pushed Q (e ∷ cs) d (p ∷ ps) w long each here (suc k) l = each_pushed Q cs d ps w (omega (arith, long)) (λ j m. each (suc j) (omega (arith, m))) here k (omega (arith, l))

decided_more : (cs : List (List Lit)) (d : List Lit) (pairs : List Pair) (w : Pair) (p : Partial) (ss : List Step) → length pairs ≡ length cs → AtDecisions (λ r. AreSettled (length cs) r r pairs) p ss → AtDecisions (λ r. IsSettled r r w) p ss → AtDecisions (λ r. AreSettled (length (cs ++ d ∷ [])) r r (pairs ++ w ∷ [])) p ss
decided_more cs d pairs w p [] long h here = tt
decided_more cs d pairs w p (s ∷ ss) long h here =
    ((λ e. each_pushed (λ d w. IsSettled p p w) cs d pairs w long (h.0 e) (here.0 e)), decided_more cs d pairs w (with_true p s.lit) ss long h.1 here.1)

pub watched_more : (c : ClauseList) (d : List Lit) (trail : List Step) (lists now : List (List ℕ)) (pairs : List Pair) (w : Pair) (done : ℕ) → length now ≡ length lists → IsAscendingByVariable d → WatchesOwn d w → AtDecisions (λ r. IsSettled r r w) nothing trail → IsSettled (values_to trail done) (assigned_from nothing trail) w → IsWatched c trail lists pairs done → IsWatched (with_clause c (Some d)) trail now (pairs ++ w ∷ []) done
watched_more c d trail lists now pairs w done size ascending own decided settled h = record {
  guarded = record {
    counted =
        let long : length (pairs ++ w ∷ []) ≡ length pairs + 1 = length_push pairs w in
        let more : length (c.clauses ++ d ∷ []) ≡ length c.clauses + 1 = length_push c.clauses d in
        omega (arith, long, more, h.guarded.counted);
    room = size ∙ h.guarded.room;
    ascending = each_pushed (λ e p. IsAscendingByVariable e) c.clauses d pairs w h.guarded.counted h.guarded.ascending ascending;
    own = each_pushed (λ e p. WatchesOwn e p) c.clauses d pairs w h.guarded.counted h.guarded.own own;
    decided = decided_more c.clauses d pairs w nothing trail h.guarded.counted h.guarded.decided decided;
  };
  within = h.within;
  settled = each_pushed (λ e p. IsSettled (values_to trail done) (assigned_from nothing trail) p) c.clauses d pairs w h.guarded.counted h.settled settled;
}
