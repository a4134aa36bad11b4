-- What the relations of every execution keep.
use Rattle.std.proofs.Common.{◌≡◌, ℕ, ◌<◌, Bool, true, ◌==◌, nat_lt, ◌⊎◌, inl, inr, List, Option, Some, None, refl, sym, ◌∙◌, ap, arith}
use Rattle.std.proofs.lemmas.Bool.{false≢true, or_cases, or_left, or_right, and_parts, and_from, ltb-true, lt-ltb, eqb-true, eq-eqb, cases_order}
use Rattle.ql_ground.specs.Effects.{Effect, Member, Alone, Inside, effect_at}
use Rattle.ql_ground.specs.Relations.{both, one, is_op, in_run, inside, so, vis, sameobj, soo, same_run, sametxn, hbo_step, hb_step, hbo, hb, IsExecution}
use Rattle.ql_ground.proofs.Paths as path
use Rattle.ql_ground.proofs.Paths.{Path-append, Path-forward, Path-within, leads-path, path-leads}

-- the two effects of which a test is true
pub record Pair (test : Effect → Effect → Bool) (p q : Option Effect) : Type 0 where
  pub first : Effect
  pub second : Effect
  pub first_is : p ≡ Some first
  pub second_is : q ≡ Some second
  pub holds : test first second ≡ true

pub both-pair : (test : Effect → Effect → Bool) (p q : Option Effect) → both test p q ≡ true → Pair test p q
both-pair test (Some e) (Some f) h = record { first = e; second = f; first_is = refl; second_is = refl; holds = h }
both-pair test (Some e) None h = absurd (false≢true h)
both-pair test None q h = absurd (false≢true h)

pub pair-both : (test : Effect → Effect → Bool) (p q : Option Effect) (e f : Effect) → p ≡ Some e → q ≡ Some f → test e f ≡ true → both test p q ≡ true
pair-both test p q e f i j h = ap (λ u. both test u q) i ∙ ap (λ v. both test (Some e) v) j ∙ h

-- the two effects have one key
abbrev pub same : (Effect → ℕ) → List Effect → ℕ → ℕ → Bool
same key x a b = both (λ e f. key e == key f) (effect_at x a) (effect_at x b)

pub same-refl : (key : Effect → ℕ) (x : List Effect) (a : ℕ) (e : Effect) → effect_at x a ≡ Some e → same key x a a ≡ true
same-refl key x a e h = pair-both _ _ _ e e h h (eq-eqb (key e) (key e) refl)

pub same-sym : (key : Effect → ℕ) (x : List Effect) (a b : ℕ) → same key x a b ≡ true → same key x b a ≡ true
same-sym key x a b h =
    let p = both-pair _ (effect_at x a) (effect_at x b) h in
    pair-both _ _ _ p.second p.first p.second_is p.first_is (eq-eqb _ _ (sym (eqb-true _ _ p.holds)))

pub same-trans : (key : Effect → ℕ) (x : List Effect) (a b c : ℕ) → same key x a b ≡ true → same key x b c ≡ true → same key x a c ≡ true
same-trans key x a b c h g =
    let p = both-pair (λ e f. key e == key f) (effect_at x a) (effect_at x b) h in
    let q = both-pair (λ e f. key e == key f) (effect_at x b) (effect_at x c) g in
    let middle : p.second ≡ q.first = cc (p.second_is, q.first_is) in
    pair-both _ _ _ p.first q.second p.first_is q.second_is
    (eq-eqb _ _ (eqb-true _ _ p.holds ∙ ap key middle ∙ eqb-true _ _ q.holds))

-- session order is the same session, and earlier
abbrev pub session : Effect → ℕ
session e = e.session

pub so_session : (x : List Effect) (a b : ℕ) → so x a b ≡ true → same session x a b ≡ true
so_session x a b h =
    let p = both-pair _ (effect_at x a) (effect_at x b) h in
    pair-both _ _ _ p.first p.second p.first_is p.second_is (and_parts (p.first.session == p.second.session) (nat_lt a b) p.holds).0

pub so_earlier : (x : List Effect) (a b : ℕ) → so x a b ≡ true → a < b
so_earlier x a b h =
    let p = both-pair _ (effect_at x a) (effect_at x b) h in
    ltb-true a b (and_parts (p.first.session == p.second.session) (nat_lt a b) p.holds).1

pub so_from : (x : List Effect) (a b : ℕ) → same session x a b ≡ true → a < b → so x a b ≡ true
so_from x a b h l =
    let p = both-pair _ (effect_at x a) (effect_at x b) h in
    pair-both _ _ _ p.first p.second p.first_is p.second_is (and_from _ _ p.holds (lt-ltb a b l))

pub so-trans : (x : List Effect) (a b c : ℕ) → so x a b ≡ true → so x b c ≡ true → so x a c ≡ true
so-trans x a b c h g =
    so_from x a c (same-trans session x a b c (so_session x a b h) (so_session x b c g)) (omega (arith, so_earlier x a b h, so_earlier x b c g))

-- two effects of one session are one, or in session order one way or the other
session-order : (x : List Effect) (a b : ℕ) → same session x a b ≡ true → (so x a b ≡ true) ⊎ ((so x b a ≡ true) ⊎ ((a == b) ≡ true))
session-order x a b h = elim (cases_order a b) [
  | inl equal ↦ inr (inr (eq-eqb a b equal))
  | inr (inl less) ↦ inl (so_from x a b h less)
  | inr (inr more) ↦ inr (inl (so_from x b a (same-sym session x a b h) more))
]

pub so-forward : (x : List Effect) (a b c : ℕ) → so x a b ≡ true → so x a c ≡ true → (so x b c ≡ true) ⊎ ((so x c b ≡ true) ⊎ ((b == c) ≡ true))
so-forward x a b c h g =
    session-order x b c (same-trans session x b a c (same-sym session x a b (so_session x a b h)) (so_session x a c g))

pub so-backward : (x : List Effect) (a b c : ℕ) → so x a c ≡ true → so x b c ≡ true → (so x a b ≡ true) ⊎ ((so x b a ≡ true) ⊎ ((a == b) ≡ true))
so-backward x a b c h g =
    session-order x a b (same-trans session x a c b (so_session x a c h) (same-sym session x b c (so_session x b c g)))

-- one object
pub sameobj-refl : (x : List Effect) (a : ℕ) (e : Effect) → effect_at x a ≡ Some e → sameobj x a a ≡ true
sameobj-refl x a e h = same-refl (λ f. f.object) x a e h

pub sameobj-sym : (x : List Effect) (a b : ℕ) → sameobj x a b ≡ true → sameobj x b a ≡ true
sameobj-sym x a b h = same-sym (λ f. f.object) x a b h

pub sameobj-trans : (x : List Effect) (a b c : ℕ) → sameobj x a b ≡ true → sameobj x b c ≡ true → sameobj x a c ≡ true
sameobj-trans x a b c h g = same-trans (λ f. f.object) x a b c h g

-- the steps of happens-before go forward
module _ (x : List Effect) (e : IsExecution x) where
  hb-forward : (a b : ℕ) → hb_step x a b ≡ true → a < b
  hb-forward a b h = elim (or_cases (so x a b) (vis x a b) h) [ inl s ↦ so_earlier x a b s | inr v ↦ e.sees_earlier a b v ]

  hbo-to-hb : (a b : ℕ) → hbo_step x a b ≡ true → hb_step x a b ≡ true
  hbo-to-hb a b h = elim (or_cases (soo x a b) (vis x a b) h) [
    | inl s ↦ or_left (so x a b) (vis x a b) (and_parts (so x a b) (sameobj x a b) s).0
    | inr v ↦ or_right (so x a b) (vis x a b) v
  ]

  hbo-forward : (a b : ℕ) → hbo_step x a b ≡ true → a < b
  hbo-forward a b h = hb-forward a b (hbo-to-hb a b h)

  hbo-object : (a b : ℕ) → hbo_step x a b ≡ true → sameobj x a b ≡ true
  hbo-object a b h = elim (or_cases (soo x a b) (vis x a b) h) [
    | inl s ↦ (and_parts (so x a b) (sameobj x a b) s).1
    | inr v ↦ e.sees_own_object a b v
  ]

  pub hb-one : (a b : ℕ) → hb_step x a b ≡ true → hb x a b ≡ true
  hb-one a b h = path-leads (hb_step x) hb-forward (path.one h)

  pub hbo-one : (a b : ℕ) → hbo_step x a b ≡ true → hbo x a b ≡ true
  hbo-one a b h = path-leads (hbo_step x) hbo-forward (path.one h)

  pub hb-trans : (a b c : ℕ) → hb x a b ≡ true → hb x b c ≡ true → hb x a c ≡ true
  hb-trans a b c h g = path-leads (hb_step x) hb-forward (Path-append (leads-path (hb_step x) a b h) (leads-path (hb_step x) b c g))

  pub hbo-trans : (a b c : ℕ) → hbo x a b ≡ true → hbo x b c ≡ true → hbo x a c ≡ true
  hbo-trans a b c h g = path-leads (hbo_step x) hbo-forward (Path-append (leads-path (hbo_step x) a b h) (leads-path (hbo_step x) b c g))

  pub hb-irreflexive : (a : ℕ) → hb x a a ≡ true → ⊥
  hb-irreflexive a h = omega (arith, Path-forward hb-forward (leads-path (hb_step x) a a h))

  pub hbo-sameobj : (a b : ℕ) → hbo x a b ≡ true → sameobj x a b ≡ true
  hbo-sameobj a b h = Path-within (λ c d. sameobj x c d ≡ true) hbo-object (sameobj-trans x) (leads-path (hbo_step x) a b h)

  pub hbo-hb : (a b : ℕ) → hbo x a b ≡ true → hb x a b ≡ true
  hbo-hb a b h = Path-within (λ c d. hb x c d ≡ true) (λ c d s. hb-one c d (hbo-to-hb c d s)) hb-trans (leads-path (hbo_step x) a b h)

-- the effect of which a test is true
pub record Found (test : Effect → Bool) (p : Option Effect) : Type 0 where
  pub effect : Effect
  pub effect_is : p ≡ Some effect
  pub holds : test effect ≡ true

pub one-found : (test : Effect → Bool) (p : Option Effect) → one test p ≡ true → Found test p
one-found test (Some e) h = record { effect = e; effect_is = refl; holds = h }
one-found test None h = absurd (false≢true h)

pub found-one : (test : Effect → Bool) (p : Option Effect) (e : Effect) → p ≡ Some e → test e ≡ true → one test p ≡ true
found-one test p e i h = ap (λ u. one test u) i ∙ h

-- two members of one begun transaction
same_run-sym : (m n : Member) → same_run m n ≡ true → same_run n m ≡ true
same_run-sym (Inside r d) (Inside s f) h = eq-eqb r s (sym (eqb-true s r h))
same_run-sym (Inside r d) Alone h = absurd (false≢true h)
same_run-sym Alone m h = absurd (false≢true h)

same_run-trans : (l m n : Member) → same_run l m ≡ true → same_run m n ≡ true → same_run l n ≡ true
same_run-trans (Inside r d) (Inside s f) (Inside t g) h i = eq-eqb t r (eqb-true t s i ∙ eqb-true s r h)
same_run-trans (Inside r d) (Inside s f) Alone h i = absurd (false≢true i)
same_run-trans (Inside r d) Alone n h i = absurd (false≢true h)
same_run-trans Alone m n h i = absurd (false≢true h)

in_run-same : (run : ℕ) (m n : Member) → in_run run m ≡ true → in_run run n ≡ true → same_run m n ≡ true
in_run-same run (Inside r d) (Inside s f) h i = eq-eqb s r (eqb-true s run i ∙ sym (eqb-true r run h))
in_run-same run (Inside r d) Alone h i = absurd (false≢true i)
in_run-same run Alone n h i = absurd (false≢true h)

same_run-in : (run : ℕ) (m n : Member) → in_run run m ≡ true → same_run m n ≡ true → in_run run n ≡ true
same_run-in run (Inside r d) (Inside s f) h i = eq-eqb s run (eqb-true s r i ∙ eqb-true r run h)
same_run-in run (Inside r d) Alone h i = absurd (false≢true i)
same_run-in run Alone n h i = absurd (false≢true h)

runs : List Effect → ℕ → ℕ → Bool
runs x a b = both (λ e f. same_run e.member f.member) (effect_at x a) (effect_at x b)

runs-trans : (x : List Effect) (a b c : ℕ) → runs x a b ≡ true → runs x b c ≡ true → runs x a c ≡ true
unfolding runs
runs-trans x a b c h g =
    let p = both-pair (λ e f. same_run e.member f.member) (effect_at x a) (effect_at x b) h in
    let q = both-pair (λ e f. same_run e.member f.member) (effect_at x b) (effect_at x c) g in
    let middle : p.second ≡ q.first = cc (p.second_is, q.first_is) in
    let next : same_run p.second.member q.second.member ≡ true = ap (λ e. same_run e.member q.second.member) middle ∙ q.holds in
    pair-both _ _ _ p.first q.second p.first_is q.second_is
    (same_run-trans p.first.member p.second.member q.second.member p.holds next)

pub sametxn-refl : (x : List Effect) (a : ℕ) → sametxn x a a ≡ true
sametxn-refl x a = or_left (a == a) _ (eq-eqb a a refl)

pub sametxn-sym : (x : List Effect) (a b : ℕ) → sametxn x a b ≡ true → sametxn x b a ≡ true
sametxn-sym x a b h = elim (or_cases (a == b) _ h) [
  | inl equal ↦ or_left (b == a) _ (eq-eqb b a (sym (eqb-true a b equal)))
  | inr runs ↦
      let p = both-pair (λ e f. same_run e.member f.member) (effect_at x a) (effect_at x b) runs in
      or_right (b == a) _ (pair-both _ _ _ p.second p.first p.second_is p.first_is (same_run-sym p.first.member p.second.member p.holds))
]

pub sametxn-trans : (x : List Effect) (a b c : ℕ) → sametxn x a b ≡ true → sametxn x b c ≡ true → sametxn x a c ≡ true
unfolding runs
sametxn-trans x a b c h g = elim (or_cases (a == b) _ h) [
  | inl first ↦ ap (λ i. sametxn x i c) (eqb-true a b first) ∙ g
  | inr run ↦ elim (or_cases (b == c) _ g) [
    | inl second ↦ ap (λ i. sametxn x a i) (sym (eqb-true b c second)) ∙ h
    | inr next ↦ or_right (a == c) _ (runs-trans x a b c run next)
  ]
]

pub sametxn-order : (x : List Effect) → IsExecution x → (a b : ℕ) → sametxn x a b ≡ true → (so x a b ≡ true) ⊎ ((so x b a ≡ true) ⊎ ((a == b) ≡ true))
sametxn-order x e a b h = elim (cases_order a b) [
  | inl equal ↦ inr (inr (eq-eqb a b equal))
  | inr (inl less) ↦ inl (e.one_session a b less h)
  | inr (inr more) ↦ inr (inl (e.one_session b a more (sametxn-sym x a b h)))
]

-- the current transaction
pub inside-sametxn : (x : List Effect) (run a b : ℕ) → inside x run a ≡ true → inside x run b ≡ true → sametxn x a b ≡ true
inside-sametxn x run a b h g =
    let p = one-found (λ e. in_run run e.member) (effect_at x a) h in
    let q = one-found (λ e. in_run run e.member) (effect_at x b) g in
    or_right (a == b) _ (pair-both _ _ _ p.effect q.effect p.effect_is q.effect_is (in_run-same run p.effect.member q.effect.member p.holds q.holds))

pub inside-closed : (x : List Effect) (run a b : ℕ) → inside x run a ≡ true → sametxn x a b ≡ true → inside x run b ≡ true
inside-closed x run a b h g = elim (or_cases (a == b) _ g) [
  | inl equal ↦ ap (λ i. inside x run i) (sym (eqb-true a b equal)) ∙ h
  | inr run_too ↦
      let p = one-found (λ e. in_run run e.member) (effect_at x a) h in
      let q = both-pair (λ e f. same_run e.member f.member) (effect_at x a) (effect_at x b) run_too in
      let here : q.first ≡ p.effect = cc (p.effect_is, q.first_is) in
      let member : in_run run q.first.member ≡ true = ap (λ e. in_run run e.member) here ∙ p.holds in
      found-one _ _ q.second q.second_is (same_run-in run q.first.member q.second.member member q.holds)
]

-- operations
pub is_op-one : (x : List Effect) (o p a : ℕ) → is_op x o a ≡ true → is_op x p a ≡ true → o ≡ p
is_op-one x o p a h g =
    let f = one-found (λ e. e.op == o) (effect_at x a) h in
    let k = one-found (λ e. e.op == p) (effect_at x a) g in
    let here : f.effect ≡ k.effect = cc (f.effect_is, k.effect_is) in
    sym (eqb-true f.effect.op o f.holds) ∙ ap (λ (e : Effect). e.op) here ∙ eqb-true k.effect.op p k.holds
