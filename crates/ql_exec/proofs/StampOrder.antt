-- Stamps ascend along session order and visibility.
use Rattle.std.proofs.Common.{◌≡◌, ℕ, zero, suc, ◌<◌, ◌≤◌, ◌⊎◌, max, true, false, nat_eq, List, [], ◌∷◌, ◌++◌, length, Option, Some, None, refl, ap, sym, ◌∙◌, inl, inr, arith}
use Rattle.std.specs.Option.{option_map_or}
use Rattle.std.proofs.lemmas.Option.{same_Some}
use Rattle.std.proofs.lemmas.Bool.{false≢true, or_cases, or_left, eq-eqb, eqb-true, cases_order}
use Rattle.ql_base.specs.IdLists.{has_id}
use Rattle.ql_base.specs.declared.ids.SessId.{SessId}
use Rattle.ql_exec.specs.declared.effect.Effect.{Effect}
use Rattle.ql_exec.specs.Effects.{effect_at}
use Rattle.ql_exec.specs.Relations.{so, vis, hb_step}
use Rattle.ql_exec.specs.Execution.{stamp_at, session_stamp, seen_stamp, stamp_of, IsExecution}
use Rattle.ql_exec.proofs.Finding.{grown, effect_at-within, effect_at-append, cases_pushed, both-found, so_parts, so_from}
use Rattle.ql_exec.proofs.Law.{IsExecution-front}

at_stamp : (x : List Effect) (id : ℕ) (e : Effect) → effect_at x id ≡ Some e → stamp_at x id ≡ e.stamp
at_stamp x id e is = ap (λ (o : Option Effect). option_map_or (λ f. f.stamp) o 0) is

of_session_below : (x : List Effect) (s : SessId) (a : ℕ) (e : Effect) → effect_at x a ≡ Some e → nat_eq e.session.0 s.0 ≡ true → e.stamp ≤ session_stamp x s
of_session_below x s zero e is own = absurd (let never : None ≡ Some e = is in cc)
of_session_below [] s (suc k) e is own = absurd (let never : None ≡ Some e = is in cc)
of_session_below (f ∷ x) s (suc zero) e is own =
    let same : f ≡ e = same_Some f e is in
    let first : nat_eq f.session.0 s.0 ≡ true = ap (λ (g : Effect). nat_eq g.session.0 s.0) same ∙ own in
    let one : f.stamp ≡ e.stamp = ap (λ (g : Effect). g.stamp) same in
    let ends : e.stamp ≤ max f.stamp (session_stamp x s) = omega (arith, one) in
    rw first ends
of_session_below (f ∷ x) s (suc (suc k)) e is own =
    let more = of_session_below x s (suc k) e is own in
    elim (nat_eq f.session.0 s.0) as (λ b. nat_eq f.session.0 s.0 ≡ b → e.stamp ≤ session_stamp (f ∷ x) s) [
      | true ↦ λ first. let ends : e.stamp ≤ max f.stamp (session_stamp x s) = omega (arith, more) in rw first ends
      | false ↦ λ other. rw other more
    ] refl

seen_below : (x : List Effect) (seen : List ℕ) (a : ℕ) → has_id seen a ≡ true → stamp_at x a ≤ seen_stamp x seen
seen_below x [] a has = absurd (false≢true has)
seen_below x (id ∷ seen) a has = elim (or_cases (nat_eq id a) (has_id seen a) has) [
  | inl same ↦
      let one : stamp_at x id ≡ stamp_at x a = ap (stamp_at x) (eqb-true id a same) in
      let ends : stamp_at x a ≤ max (stamp_at x id) (seen_stamp x seen) = omega (arith, one) in
      ends
  | inr later ↦
      let more = seen_below x seen a later in
      let ends : stamp_at x a ≤ max (stamp_at x id) (seen_stamp x seen) = omega (arith, more) in
      ends
]

-- what a step is: two effects, the second of which is later in the session of the first or sees it
record Step (x : List Effect) (a b : ℕ) : Type 0 where
  first : Effect
  second : Effect
  first_at : effect_at x a ≡ Some first
  second_at : effect_at x b ≡ Some second
  less : a < b
  why : (nat_eq first.session.0 second.session.0 ≡ true) ⊎ (has_id second.seen a ≡ true)

step_parts : (x : List Effect) → IsExecution x → (a b : ℕ) → hb_step x a b ≡ true → Step x a b
step_parts x law a b is = elim (or_cases (so x a b) (vis x a b) is) [
  | inl order ↦
      let parts = so_parts x a b order in
      record { first = parts.first; second = parts.second; first_at = parts.first_at; second_at = parts.second_at; less = parts.less; why = inl (eq-eqb parts.first.session.0 parts.second.session.0 parts.one_session) }
  | inr sees ↦
      let found = both-found (λ e f. has_id f.seen a) (effect_at x a) (effect_at x b) sees in
      let earlier = (law.sees b found.1 found.3).0 a found.4 in
      record { first = found.0; second = found.1; first_at = found.2; second_at = found.3; less = earlier.0; why = inr found.4 }
]

step_front : (x more : List Effect) (a b : ℕ) → a ≤ length x → b ≤ length x → hb_step (x ++ more) a b ≡ hb_step x a b
step_front x more a b first second = rw (effect_at-append x more a first, effect_at-append x more b second) refl

stamp_front : (x more : List Effect) (a : ℕ) → a ≤ length x → stamp_at (x ++ more) a ≡ stamp_at x a
stamp_front x more a within = ap (λ (o : Option Effect). option_map_or (λ f. f.stamp) o 0) (effect_at-append x more a within)

abbrev pub Ascends : List Effect → Type 0
Ascends x = (a b : ℕ) → hb_step x a b ≡ true → stamp_at x a < stamp_at x b

nothing_steps : IsExecution [] → Ascends []
nothing_steps law a b is = let parts = step_parts [] law a b is in let within = effect_at-within [] b parts.second parts.second_at in absurd (let less = parts.less in omega (arith, within, less))

step_to_new : (x : List Effect) (e : Effect) → IsExecution (x ++ e ∷ []) → (a b : ℕ) → (parts : Step (x ++ e ∷ []) a b) → b ≡ suc (length x) → parts.second ≡ e
    → stamp_at (x ++ e ∷ []) a < stamp_at (x ++ e ∷ []) b
step_to_new x e law a b parts last same =
    let less = parts.less in
    let within : a ≤ length x = omega (arith, last, less) in
    let stamp : e.stamp ≡ stamp_of x e.session e.seen = law.stamped x e [] refl in
    let of_b : stamp_at (x ++ e ∷ []) b ≡ e.stamp = at_stamp (x ++ e ∷ []) b parts.second parts.second_at ∙ ap (λ (f : Effect). f.stamp) same in
    let of_a : stamp_at (x ++ e ∷ []) a ≡ stamp_at x a = stamp_front x (e ∷ []) a within in
    let first_at : effect_at x a ≡ Some parts.first = sym (effect_at-append x (e ∷ []) a within) ∙ parts.first_at in
    elim parts.why [
      | inl session ↦
          let own : nat_eq parts.first.session.0 e.session.0 ≡ true = sym (ap (λ (f : Effect). nat_eq parts.first.session.0 f.session.0) same) ∙ session in
          let below = of_session_below x e.session a parts.first first_at own in
          let is = at_stamp x a parts.first first_at in
          omega (arith, stamp, of_b, of_a, below, is)
      | inr sees ↦
          let has : has_id e.seen a ≡ true = sym (ap (λ (f : Effect). has_id f.seen a) same) ∙ sees in
          let below = seen_below x e.seen a has in
          omega (arith, stamp, of_b, of_a, below)
    ]

pub stamps-ascend : (x : List Effect) → IsExecution x → Ascends x
stamps-ascend x law = grown (λ (y : List Effect). IsExecution y → Ascends y) nothing_steps step x law
  where
    step : (y : List Effect) (e : Effect) → (IsExecution y → Ascends y) → IsExecution (y ++ e ∷ []) → Ascends (y ++ e ∷ [])
    step y e before law a b is =
        let parts = step_parts (y ++ e ∷ []) law a b is in
        elim (cases_pushed y e parts.second b parts.second_at) [
          | inl there ↦
              let less = parts.less in
              let low = there.0 in
              let within : a ≤ length y = omega (arith, low, less) in
              let one = before (IsExecution-front y (e ∷ []) law) a b (sym (step_front y (e ∷ []) a b within low) ∙ is) in
              let of_a = stamp_front y (e ∷ []) a within in
              let of_b = stamp_front y (e ∷ []) b low in
              omega (arith, one, of_a, of_b)
          | inr new ↦ step_to_new y e law a b parts new.0 new.1
        ]

later_is_higher : (x : List Effect) → IsExecution x → (a b : ℕ) (e f : Effect) → effect_at x a ≡ Some e → effect_at x b ≡ Some f → e.session.0 ≡ f.session.0 → a < b → e.stamp < f.stamp
later_is_higher x law a b e f first second session less =
    let one = stamps-ascend x law a b (or_left (so x a b) (vis x a b) (so_from x a b e f first second session less)) in
    let of_a = at_stamp x a e first in
    let of_b = at_stamp x b f second in
    omega (arith, one, of_a, of_b)

pub stamps-apart : (x : List Effect) → IsExecution x → (a b : ℕ) (e f : Effect) → effect_at x a ≡ Some e → effect_at x b ≡ Some f → e.session ≡ f.session → e.stamp ≡ f.stamp → a ≡ b
stamps-apart x law a b e f first second session stamp =
    let same : e.session.0 ≡ f.session.0 = ap (λ (s : SessId). s.0) session in
    elim (cases_order a b) [
      | inl equal ↦ equal
      | inr (inl less) ↦ absurd (let one = later_is_higher x law a b e f first second same less in omega (arith, one, stamp))
      | inr (inr more) ↦ absurd (let one = later_is_higher x law b a f e second first (sym same) more in omega (arith, one, stamp))
    ]
