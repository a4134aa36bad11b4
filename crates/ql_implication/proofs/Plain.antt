-- Effects of executions as effects of plain numbers, and what is read of them.
use Rattle.std.proofs.Common.{◌≡◌, ℕ, zero, suc, Bool, ◌&&◌, ◌||◌, ◌==◌, nat_eq, nat_lt, List, [], ◌∷◌, map, Option, Some, None, refl, sym, ◌∙◌, ap, slice_get, inl, inr}
use Rattle.std.proofs.lemmas.Bool.{both_ways, cases_Bool, eqb-true, eq-eqb}
use Rattle.std.specs.List.{list_any}
use Rattle.std.specs.Option.{option_map}
use Rattle.ql_base.specs.IdLists.{has_id}
use Rattle.ql_exec.specs.declared.effect.Effect.{Effect}
use Rattle.ql_exec.specs.declared.effect.Member.{Member}
use Rattle.ql_exec.specs.declared.effect.Member.TheVariants.{Alone, Inside}
use Rattle.ql_exec.specs.Effects as exec
use Rattle.ql_exec.specs.Relations as relation
use Rattle.ql_ground.specs.Effects as plain
use Rattle.ql_ground.specs.Relations as ground

abbrev pub plain_member : Member → plain.Member
plain_member Alone = plain.Alone
plain_member (Inside run name) = plain.Inside run.0 name.0

abbrev pub plain_effect : Effect → plain.Effect
plain_effect e = record { object = e.object.0; op = e.op.0; session = e.session.0; member = plain_member e.member; seen = e.seen }

abbrev pub plain_all : List Effect → List plain.Effect
plain_all x = map plain_effect x

at_place : (x : List Effect) (k : ℕ) → slice_get (plain_all x) k ≡ option_map plain_effect (slice_get x k)
at_place [] k = refl
at_place (e ∷ x) zero = refl
at_place (e ∷ x) (suc k) = at_place x k

pub plain_at : (x : List Effect) (a : ℕ) → plain.effect_at (plain_all x) a ≡ option_map plain_effect (exec.effect_at x a)
plain_at x zero = refl
plain_at x (suc k) = at_place x k

pub eq-sym : (a b : ℕ) → nat_eq a b ≡ nat_eq b a
eq-sym a b = elim (cases_Bool (nat_eq a b)) [
  | inl same ↦ same ∙ sym (eq-eqb b a (sym (eqb-true a b same)))
  | inr differ ↦ elim (cases_Bool (nat_eq b a)) [
    | inl same ↦ absurd (both_ways (nat_eq a b) differ (eq-eqb a b (sym (eqb-true b a same))))
    | inr other ↦ differ ∙ sym other
  ]
]

one_same : (p : plain.Effect → Bool) (q : Effect → Bool) → ((e : Effect) → p (plain_effect e) ≡ q e) → (o : Option Effect) → ground.one p (option_map plain_effect o) ≡ exec.one q o
one_same p q h None = refl
one_same p q h (Some e) = h e

both_same : (p : plain.Effect → plain.Effect → Bool) (q : Effect → Effect → Bool) → ((e f : Effect) → p (plain_effect e) (plain_effect f) ≡ q e f) → (o r : Option Effect) → ground.both p (option_map plain_effect o) (option_map plain_effect r) ≡ exec.both q o r
both_same p q h None r = refl
both_same p q h (Some e) None = refl
both_same p q h (Some e) (Some f) = h e f

pub one_at : (p : plain.Effect → Bool) (q : Effect → Bool) → ((e : Effect) → p (plain_effect e) ≡ q e) → (x : List Effect) (a : ℕ) → ground.one p (plain.effect_at (plain_all x) a) ≡ exec.one q (exec.effect_at x a)
one_at p q h x a = ap (ground.one p) (plain_at x a) ∙ one_same p q h (exec.effect_at x a)

pub both_at : (p : plain.Effect → plain.Effect → Bool) (q : Effect → Effect → Bool) → ((e f : Effect) → p (plain_effect e) (plain_effect f) ≡ q e f) → (x : List Effect) (a b : ℕ) → ground.both p (plain.effect_at (plain_all x) a) (plain.effect_at (plain_all x) b) ≡ exec.both q (exec.effect_at x a) (exec.effect_at x b)
both_at p q h x a b =
    ap (λ o. ground.both p o (plain.effect_at (plain_all x) b)) (plain_at x a)
    ∙ ap (λ o. ground.both p (option_map plain_effect (exec.effect_at x a)) o) (plain_at x b)
    ∙ both_same p q h (exec.effect_at x a) (exec.effect_at x b)

pub has_any : (ids : List ℕ) (a : ℕ) → list_any (λ c. c == a) ids ≡ has_id ids a
has_any [] a = refl
has_any (c ∷ ids) a = ap (λ b. (c == a) || b) (has_any ids a)

pub so-same : (x : List Effect) (a b : ℕ) → ground.so (plain_all x) a b ≡ relation.so x a b
so-same x a b = both_at (λ e f. (e.session == f.session) && nat_lt a b) (λ e f. nat_eq e.session.0 f.session.0 && nat_lt a b) (λ e f. refl) x a b

pub vis-same : (x : List Effect) (a b : ℕ) → ground.vis (plain_all x) a b ≡ relation.vis x a b
vis-same x a b = both_at (λ e f. list_any (λ c. c == a) f.seen) (λ e f. has_id f.seen a) (λ e f. has_any f.seen a) x a b

pub sameobj-same : (x : List Effect) (a b : ℕ) → ground.sameobj (plain_all x) a b ≡ relation.sameobj x a b
sameobj-same x a b = both_at (λ e f. e.object == f.object) (λ e f. nat_eq e.object.0 f.object.0) (λ e f. refl) x a b

run_same : (m n : Member) → ground.same_run (plain_member m) (plain_member n) ≡ relation.same_run m n
run_same Alone Alone = refl
run_same Alone (Inside r d) = refl
run_same (Inside q c) Alone = refl
run_same (Inside q c) (Inside r d) = eq-sym r.0 q.0

pub sametxn-same : (x : List Effect) (a b : ℕ) → ground.sametxn (plain_all x) a b ≡ relation.sametxn x a b
sametxn-same x a b = ap (λ p. (a == b) || p) (both_at (λ e f. ground.same_run e.member f.member) (λ e f. relation.same_run e.member f.member) (λ e f. run_same e.member f.member) x a b)

in_run_same : (run : ℕ) (m : Member) → ground.in_run run (plain_member m) ≡ exec.in_run run m
in_run_same run Alone = refl
in_run_same run (Inside r d) = refl

pub inside-same : (x : List Effect) (run a : ℕ) → ground.inside (plain_all x) run a ≡ relation.inside x run a
inside-same x run a = one_at (λ e. ground.in_run run e.member) (λ e. exec.in_run run e.member) (λ e. in_run_same run e.member) x a

pub soo-same : (x : List Effect) (a b : ℕ) → ground.soo (plain_all x) a b ≡ relation.soo x a b
soo-same x a b = ap (λ p. p && ground.sameobj (plain_all x) a b) (so-same x a b) ∙ ap (λ p. relation.so x a b && p) (sameobj-same x a b)
