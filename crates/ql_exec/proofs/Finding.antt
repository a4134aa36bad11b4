-- Effects found by their ids and sessions, in a list and in a longer one.
use Rattle.std.proofs.Common.{◌≡◌, ℕ, zero, suc, ◌<◌, ◌≤◌, ◌⊎◌, Bool, true, false, ◌&&◌, nat_eq, nat_lt, slice_get, get_or, ◌-◌, take, List, [], ◌∷◌, ◌++◌, length, Option, Some, None, refl, ap, sym, subst, ◌∙◌, inl, inr, arith, length-append, append_assoc, append-nil}
use Rattle.std.specs.List.{list_any}
use Rattle.std.proofs.lemmas.Option.{slice_get_within, slice_get_read, same_Some}
use Rattle.std.proofs.lemmas.Bool.{false≢true, or_cases, or_left, or_right, eq-eqb, eqb-true, ltb-true, lt-ltb, and_parts, and_from, both_ways, cases_lt, cases_Bool}
use Rattle.std.proofs.lemmas.List.Elements.{filter-append}
use Rattle.ql_base.specs.declared.ids.SessId.{SessId}
use Rattle.ql_exec.specs.declared.effect.Effect.{Effect}
use Rattle.ql_exec.specs.declared.effect.Member.{Member}
use Rattle.ql_exec.specs.declared.effect.Member.TheVariants.{Alone, Inside}
use Rattle.ql_exec.specs.Effects.{effect_at, one, both, in_run, of_session, last}
use Rattle.ql_exec.specs.Relations.{so, sametxn, same_run}

-- ---- by their ids
pub effect_at-within : (x : List Effect) (id : ℕ) (e : Effect) → effect_at x id ≡ Some e → id ≤ length x
effect_at-within x zero e is = omega arith
effect_at-within x (suc k) e is = let inside = slice_get_within x k e is in omega arith

pub effect_at-append : (x more : List Effect) (id : ℕ) → id ≤ length x → effect_at (x ++ more) id ≡ effect_at x id
effect_at-append x more zero within = refl
effect_at-append [] more (suc k) within = absurd (omega arith)
effect_at-append (first ∷ x) more (suc zero) within = refl
effect_at-append (first ∷ x) more (suc (suc k)) within = effect_at-append x more (suc k) (omega arith)

pub effect_at-last : (x : List Effect) (e : Effect) → effect_at (x ++ e ∷ []) (suc (length x)) ≡ Some e
effect_at-last [] e = refl
effect_at-last (first ∷ x) e = effect_at-last x e

-- an effect of a list with one more is in the list, or is that one
pub cases_pushed : (x : List Effect) (e found : Effect) (id : ℕ) → effect_at (x ++ e ∷ []) id ≡ Some found
    → ((id ≤ length x) × (effect_at x id ≡ Some found)) ⊎ ((id ≡ suc (length x)) × (found ≡ e))
cases_pushed x e found id is = elim (cases_lt (length x) id) [
  | inl more ↦
      let within = effect_at-within (x ++ e ∷ []) id found is in
      let same : id ≡ suc (length x) = omega (arith, length-append x (e ∷ [])) in
      let here : effect_at (x ++ e ∷ []) id ≡ Some e = rw same (effect_at-last x e) in
      inr (same, same_Some found e (sym is ∙ here))
  | inr few ↦ inl (few, sym (effect_at-append x (e ∷ []) id few) ∙ is)
]

-- ---- tests of what is found
pub both-found : (related : Effect → Effect → Bool) (e f : Option Effect) → both related e f ≡ true
    → (a : Effect) × (b : Effect) × (e ≡ Some a) × (f ≡ Some b) × (related a b ≡ true)
both-found related None f is = absurd (false≢true is)
both-found related (Some a) None is = absurd (false≢true is)
both-found related (Some a) (Some b) is = (a, b, refl, refl, is)

pub any_at : (p : Effect → Bool) (x : List Effect) (id : ℕ) (e : Effect) → effect_at x id ≡ Some e → p e ≡ true → list_any p x ≡ true
any_at p x zero e is passes = absurd (let never : None ≡ Some e = is in cc)
any_at p [] (suc k) e is passes = absurd (let never : None ≡ Some e = is in cc)
any_at p (f ∷ x) (suc zero) e is passes = let same : f ≡ e = same_Some f e is in or_left (p f) (list_any p x) (rw same passes)
any_at p (f ∷ x) (suc (suc k)) e is passes = or_right (p f) (list_any p x) (any_at p x (suc k) e is passes)

pub any_found : (p : Effect → Bool) (x : List Effect) → list_any p x ≡ true → (id : ℕ) × (e : Effect) × (effect_at x id ≡ Some e) × (p e ≡ true)
any_found p [] is = absurd (false≢true is)
any_found p (e ∷ x) is = elim (or_cases (p e) (list_any p x) is) [
  | inl here ↦ (1, e, refl, here)
  | inr later ↦ let found = any_found p x later in (suc found.0, found.1, later_at e x found.0 found.1 found.2, found.3)
]
  where
    later_at : (f : Effect) (y : List Effect) (id : ℕ) (g : Effect) → effect_at y id ≡ Some g → effect_at (f ∷ y) (suc id) ≡ Some g
    later_at f y zero g is = absurd (let never : None ≡ Some g = is in cc)
    later_at f y (suc k) g is = is

-- ---- by one effect more
grown_from : (P : List Effect → Type 0) → ((x : List Effect) (e : Effect) → P x → P (x ++ e ∷ [])) → (before after : List Effect) → P before → P (before ++ after)
grown_from P step before [] is = rw (append-nil before) is
grown_from P step before (e ∷ after) is = subst P (append_assoc before (e ∷ []) after) (grown_from P step (before ++ e ∷ []) after (step before e is))

pub grown : (P : List Effect → Type 0) → P [] → ((x : List Effect) (e : Effect) → P x → P (x ++ e ∷ [])) → (x : List Effect) → P x
grown P none step x = grown_from P step [] x none

pub last-push : (x : List Effect) (e : Effect) → last (x ++ e ∷ []) ≡ Some e
last-push [] e = refl
last-push (f ∷ []) e = refl
last-push (f ∷ g ∷ x) e = last-push (g ∷ x) e

pub of_session-own : (x : List Effect) (e : Effect) (s : SessId) → nat_eq e.session.0 s.0 ≡ true → of_session (x ++ e ∷ []) s ≡ of_session x s ++ e ∷ []
of_session-own x e s own = filter-append (λ f. nat_eq f.session.0 s.0) x (e ∷ []) ∙ rw own refl

pub of_session-other : (x : List Effect) (e : Effect) (s : SessId) → nat_eq e.session.0 s.0 ≡ false → of_session (x ++ e ∷ []) s ≡ of_session x s
of_session-other x e s other = filter-append (λ f. nat_eq f.session.0 s.0) x (e ∷ []) ∙ rw other (append-nil (of_session x s))

-- ---- the last effect of a session
-- what is known where it is None, and where it is some effect
pub data LastIs (x : List Effect) (s : SessId) : Type 0 where
  nothing : last (of_session x s) ≡ None → ((id : ℕ) (e : Effect) → effect_at x id ≡ Some e → e.session.0 ≡ s.0 → ⊥) → LastIs x s
  effect : (id : ℕ) (e : Effect) → last (of_session x s) ≡ Some e → effect_at x id ≡ Some e → e.session.0 ≡ s.0
      → ((other : ℕ) (f : Effect) → effect_at x other ≡ Some f → f.session.0 ≡ s.0 → other ≤ id) → LastIs x s

last_pushed : (s : SessId) (x : List Effect) (e : Effect) → LastIs x s → LastIs (x ++ e ∷ []) s
last_pushed s x e known = elim (cases_Bool (nat_eq e.session.0 s.0)) [
  | inl own ↦
      effect (suc (length x)) e (ap last (of_session-own x e s own) ∙ last-push (of_session x s) e) (effect_at-last x e) (eqb-true e.session.0 s.0 own)
      (λ other f is _. let within = effect_at-within (x ++ e ∷ []) other f is in omega (arith, within, length-append x (e ∷ [])))
  | inr other ↦ still other known
]
  where
    no_more : nat_eq e.session.0 s.0 ≡ false → (f : Effect) → f ≡ e → f.session.0 ≡ s.0 → ⊥
    no_more other f same own = both_ways (nat_eq e.session.0 s.0) other (eq-eqb e.session.0 s.0 (ap (λ (g : Effect). g.session.0) (sym same) ∙ own))

    still : nat_eq e.session.0 s.0 ≡ false → LastIs x s → LastIs (x ++ e ∷ []) s
    still other (nothing none absent) =
        nothing (ap last (of_session-other x e s other) ∙ none) (λ id f is own. elim (cases_pushed x e f id is) [
          | inl there ↦ absent id f there.1 own
          | inr new ↦ no_more other f new.1 own
        ])
    still other (effect id g is at own highest) =
        let within = effect_at-within x id g at in
        effect id g (ap last (of_session-other x e s other) ∙ is) (effect_at-append x (e ∷ []) id within ∙ at) own (λ at f there same. elim (cases_pushed x e f at there) [
          | inl inside ↦ highest at f inside.1 same
          | inr new ↦ absurd (no_more other f new.1 same)
        ])

pub last_is : (x : List Effect) (s : SessId) → LastIs x s
last_is x s = grown (λ (y : List Effect). LastIs y s) (nothing refl (λ id e is _. nothing_there id e is)) (last_pushed s) x
  where
    nothing_there : (id : ℕ) (e : Effect) → effect_at [] id ≡ Some e → ⊥
    nothing_there zero e is = let never : None ≡ Some e = is in cc
    nothing_there (suc k) e is = let never : None ≡ Some e = is in cc

-- ---- session order and transactions
pub record InOrder (x : List Effect) (a b : ℕ) : Type 0 where
  pub first : Effect
  pub second : Effect
  pub first_at : effect_at x a ≡ Some first
  pub second_at : effect_at x b ≡ Some second
  pub one_session : first.session.0 ≡ second.session.0
  pub less : a < b

pub so_parts : (x : List Effect) (a b : ℕ) → so x a b ≡ true → InOrder x a b
so_parts x a b is =
    let found = both-found (λ e f. nat_eq e.session.0 f.session.0 && nat_lt a b) (effect_at x a) (effect_at x b) is in
    let tests = and_parts (nat_eq found.0.session.0 found.1.session.0) (nat_lt a b) found.4 in
    record { first = found.0; second = found.1; first_at = found.2; second_at = found.3; one_session = eqb-true found.0.session.0 found.1.session.0 tests.0; less = ltb-true a b tests.1 }

pub so_from : (x : List Effect) (a b : ℕ) (e f : Effect) → effect_at x a ≡ Some e → effect_at x b ≡ Some f → e.session.0 ≡ f.session.0 → a < b → so x a b ≡ true
so_from x a b e f at there same less = rw (at, there) (and_from (nat_eq e.session.0 f.session.0) (nat_lt a b) (eq-eqb e.session.0 f.session.0 same) (lt-ltb a b less))

pub so-trans : (x : List Effect) (a b c : ℕ) → so x a b ≡ true → so x b c ≡ true → so x a c ≡ true
so-trans x a b c one two =
    let first = so_parts x a b one in
    let second = so_parts x b c two in
    let less = first.less in
    let more = second.less in
    let same : first.second ≡ second.first = same_Some first.second second.first (sym first.second_at ∙ second.first_at) in
    so_from x a c first.first second.second first.first_at second.second_at (first.one_session ∙ ap (λ (f : Effect). f.session.0) same ∙ second.one_session) (omega (arith, less, more))

-- of two that are before a third in its session, the lower is before the higher
pub so-between : (x : List Effect) (a b c : ℕ) → a < b → so x a c ≡ true → so x b c ≡ true → so x a b ≡ true
so-between x a b c less one two =
    let first = so_parts x a c one in
    let second = so_parts x b c two in
    let same : first.second ≡ second.second = same_Some first.second second.second (sym first.second_at ∙ second.second_at) in
    so_from x a b first.first second.first first.first_at second.first_at (first.one_session ∙ ap (λ (f : Effect). f.session.0) same ∙ sym second.one_session) less

pub record InOneRun (x : List Effect) (a b : ℕ) : Type 0 where
  pub first : Effect
  pub second : Effect
  pub first_at : effect_at x a ≡ Some first
  pub second_at : effect_at x b ≡ Some second
  pub one_run : same_run first.member second.member ≡ true

pub sametxn_parts : (x : List Effect) (a b : ℕ) → a < b → sametxn x a b ≡ true → InOneRun x a b
sametxn_parts x a b less is = elim (or_cases (nat_eq a b) (both (λ e f. same_run e.member f.member) (effect_at x a) (effect_at x b)) is) [
  | inl same ↦ absurd (let equal = eqb-true a b same in omega (arith, equal, less))
  | inr run ↦
      let found = both-found (λ e f. same_run e.member f.member) (effect_at x a) (effect_at x b) run in
      record { first = found.0; second = found.1; first_at = found.2; second_at = found.3; one_run = found.4 }
]

pub sametxn_from : (x : List Effect) (a b : ℕ) (e f : Effect) → effect_at x a ≡ Some e → effect_at x b ≡ Some f → same_run e.member f.member ≡ true → sametxn x a b ≡ true
sametxn_from x a b e f at there same = or_right (nat_eq a b) _ (rw (at, there) same)

-- two memberships of the transaction of a third
pub same_run-join : (m n q : Member) → same_run m q ≡ true → same_run n q ≡ true → same_run m n ≡ true
same_run-join m n Alone one two = absurd (false≢true one)
same_run-join m Alone (Inside run name) one two = absurd (false≢true two)
same_run-join m (Inside r s) (Inside run name) one two = let same : r.0 ≡ run.0 = eqb-true r.0 run.0 two in rw same one

pub in_run-along : (run : ℕ) (m n : Member) → in_run run m ≡ true → same_run m n ≡ true → in_run run n ≡ true
in_run-along run m Alone is same = absurd (false≢true same)
in_run-along run Alone (Inside r s) is same = absurd (false≢true is)
in_run-along run (Inside o t) (Inside r s) is same =
    let one : o.0 ≡ run = eqb-true o.0 run is in
    let two : o.0 ≡ r.0 = eqb-true o.0 r.0 same in
    eq-eqb r.0 run (sym two ∙ one)

pub same_run-of : (run : ℕ) (m n : Member) → in_run run m ≡ true → in_run run n ≡ true → same_run m n ≡ true
same_run-of run m Alone one two = absurd (false≢true two)
same_run-of run Alone (Inside r s) one two = absurd (false≢true one)
same_run-of run (Inside o t) (Inside r s) one two =
    let first : o.0 ≡ run = eqb-true o.0 run one in
    let second : r.0 ≡ run = eqb-true r.0 run two in
    eq-eqb o.0 r.0 (first ∙ sym second)

-- ---- fronts of a list
pub take_one_more : (x : List Effect) (k : ℕ) (e : Effect) → slice_get x k ≡ Some e → take (suc k) x ≡ take k x ++ e ∷ []
take_one_more [] k e is = absurd (let never : None ≡ Some e = is in cc)
take_one_more (f ∷ x) zero e is = ap (λ (g : Effect). g ∷ []) (same_Some f e is)
take_one_more (f ∷ x) (suc k) e is = ap (λ (y : List Effect). f ∷ y) (take_one_more x k e is)

all_taken : (x : List Effect) → take (length x) x ≡ x
all_taken [] = refl
all_taken (e ∷ x) = ap (λ (y : List Effect). e ∷ y) (all_taken x)

-- all but the last effect, and that one
pub all_but_last : (x : List Effect) (k n : ℕ) (e : Effect) → k ≡ n - 1 → 1 ≤ n → n ≡ length x → e ≡ get_or x k e → x ≡ take k x ++ e ∷ []
all_but_last x k n e k_is some n_is is =
    let at : slice_get x k ≡ Some e = slice_get_read x (length x) k e refl (omega (arith, k_is, some, n_is)) is in
    let more : suc k ≡ length x = omega (arith, k_is, some, n_is) in
    let whole : take (suc k) x ≡ x = ap (λ (m : ℕ). take m x) more ∙ all_taken x in
    sym whole ∙ take_one_more x k e at
