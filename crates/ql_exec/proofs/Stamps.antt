-- Stamps of an execution: the last effect of a session has the greatest of its session, and none is above its id.
use Rattle.std.proofs.Common.{◌≡◌, ℕ, zero, suc, ◌<◌, ◌≤◌, max, true, false, nat_eq, List, [], ◌∷◌, ◌++◌, map, length, drop, get_or, ◌+◌, add-one, drop-cons, drop_of_length-le, Option, refl, ap, sym, ◌∙◌, inl, inr, arith, length-append}
use Rattle.std.specs.Option.{option_map_or}
use Rattle.std.proofs.lemmas.Bool.{cases_Bool, eqb-true}
use Rattle.ql_base.specs.declared.ids.SessId.{SessId}
use Rattle.ql_exec.specs.declared.effect.Effect.{Effect}
use Rattle.ql_exec.specs.Effects.{of_session, last}
use Rattle.ql_exec.specs.Execution.{greatest, stamp_at, session_stamp, seen_stamp, stamp_of, IsExecution}
use Rattle.ql_exec.proofs.Finding.{grown, last-push, of_session-own, of_session-other}
use Rattle.ql_exec.proofs.Law.{IsExecution-front}

-- the greatest stamp of a list
abbrev pub top : List Effect → ℕ
top x = greatest (map (λ e. e.stamp) x)

top-push : (x : List Effect) (e : Effect) → top (x ++ e ∷ []) ≡ max (top x) e.stamp
top-push [] e = let ends : max e.stamp 0 ≡ max 0 e.stamp = omega arith in ends
top-push (f ∷ x) e =
    let one = top-push x e in
    let ends : max f.stamp (top (x ++ e ∷ [])) ≡ max (max f.stamp (top x)) e.stamp = omega (arith, one) in
    ends

stamp_within : (x : List Effect) (id : ℕ) → stamp_at x id ≤ top x
stamp_within x zero = omega arith
stamp_within [] (suc k) = omega arith
stamp_within (f ∷ x) (suc zero) = let ends : f.stamp ≤ max f.stamp (top x) = omega arith in ends
stamp_within (f ∷ x) (suc (suc k)) =
    let one = stamp_within x (suc k) in
    let ends : stamp_at x (suc k) ≤ max f.stamp (top x) = omega (arith, one) in
    ends

seen_within : (x : List Effect) (seen : List ℕ) → seen_stamp x seen ≤ top x
seen_within x [] = omega arith
seen_within x (id ∷ seen) =
    let one = stamp_within x id in
    let more = seen_within x seen in
    let ends : max (stamp_at x id) (seen_stamp x seen) ≤ top x = omega (arith, one, more) in
    ends

session_within : (x : List Effect) (s : SessId) → session_stamp x s ≤ top x
session_within [] s = omega arith
session_within (e ∷ x) s = elim (nat_eq e.session.0 s.0) as (λ b. nat_eq e.session.0 s.0 ≡ b → session_stamp (e ∷ x) s ≤ top (e ∷ x)) [
  | true ↦ λ own.
      let more = session_within x s in
      let ends : max e.stamp (session_stamp x s) ≤ max e.stamp (top x) = omega (arith, more) in
      rw own ends
  | false ↦ λ other.
      let more = session_within x s in
      let ends : session_stamp x s ≤ max e.stamp (top x) = omega (arith, more) in
      rw other ends
] refl

last_law : (x : List Effect) (e : Effect) → IsExecution (x ++ e ∷ []) → e.stamp ≡ stamp_of x e.session e.seen
last_law x e law = law.stamped x e [] refl

-- no stamp is above the number of effects
pub stamps_few : (x : List Effect) → IsExecution x → top x ≤ length x
stamps_few x law = grown (λ (y : List Effect). IsExecution y → top y ≤ length y) (λ _. omega arith) step x law
  where
    step : (y : List Effect) (e : Effect) → (IsExecution y → top y ≤ length y) → IsExecution (y ++ e ∷ []) → top (y ++ e ∷ []) ≤ length (y ++ e ∷ [])
    step y e before law =
        let few = before (IsExecution-front y (e ∷ []) law) in
        let seen = seen_within y e.seen in
        let own = session_within y e.session in
        omega (arith, few, seen, own, last_law y e law, top-push y e, length-append y (e ∷ []))

pub stamp_few : (x : List Effect) → IsExecution x → (seen : List ℕ) (s : SessId) → (seen_stamp x seen ≤ length x) × (session_stamp x s ≤ length x)
stamp_few x law seen s =
    let few = stamps_few x law in
    let one = seen_within x seen in
    let own = session_within x s in
    (omega (arith, few, one), omega (arith, few, own))

-- the last effect of a session has the greatest stamp of the session
pub last_stamp : (x : List Effect) (s : SessId) → IsExecution x → option_map_or (λ e. e.stamp) (last (of_session x s)) 0 ≡ session_stamp x s
last_stamp x s law = grown (λ (y : List Effect). IsExecution y → of_last y ≡ session_stamp y s) (λ _. refl) step x law
  where
    of_last : List Effect → ℕ
    of_last y = option_map_or (λ e. e.stamp) (last (of_session y s)) 0

    step : (y : List Effect) (e : Effect) → (IsExecution y → of_last y ≡ session_stamp y s) → IsExecution (y ++ e ∷ []) → of_last (y ++ e ∷ []) ≡ session_stamp (y ++ e ∷ []) s
    step y e before law = elim (cases_Bool (nat_eq e.session.0 s.0)) [
      | inl own ↦
          let is = of_session-own y e s own in
          let left : of_last (y ++ e ∷ []) ≡ e.stamp = ap (λ (l : List Effect). option_map_or (λ f. f.stamp) (last l) 0) is ∙ ap (λ (o : Option Effect). option_map_or (λ f. f.stamp) o 0) (last-push (of_session y s) e) in
          let right : session_stamp (y ++ e ∷ []) s ≡ max (session_stamp y s) e.stamp = ap top is ∙ top-push (of_session y s) e in
          let same : session_stamp y e.session ≡ session_stamp y s = ap (λ (n : ℕ). let t : SessId = record { 0 = n } in session_stamp y t) (eqb-true e.session.0 s.0 own) in
          omega (arith, left, right, same, last_law y e law)
      | inr other ↦
          let is = of_session-other y e s other in
          ap (λ (l : List Effect). option_map_or (λ f. f.stamp) (last l) 0) is ∙ before (IsExecution-front y (e ∷ []) law) ∙ sym (ap top is)
    ]

-- ---- a loop over the seen effects
pub stamp_loop-step : (x : List Effect) (seen : List ℕ) (i stamp best : ℕ) → i < length seen
    → max stamp (greatest (map (stamp_at x) (drop i seen))) ≡ best
    → max (max stamp (stamp_at x (get_or seen i 0))) (greatest (map (stamp_at x) (drop (i + 1) seen))) ≡ best
stamp_loop-step x seen i stamp best inside is =
    let cut : drop i seen ≡ get_or seen i 0 ∷ drop (i + 1) seen = rw (add-one, drop-cons seen i 0) refl in
    let split : greatest (map (stamp_at x) (drop i seen)) ≡ max (stamp_at x (get_or seen i 0)) (greatest (map (stamp_at x) (drop (i + 1) seen))) =
    ap (λ (l : List ℕ). greatest (map (stamp_at x) l)) cut in
    omega (arith, is, split)

pub stamp_loop-end : (x : List Effect) (seen : List ℕ) (i stamp best : ℕ) → length seen ≤ i → max stamp (greatest (map (stamp_at x) (drop i seen))) ≡ best → stamp ≡ best
stamp_loop-end x seen i stamp best past is =
    let none : greatest (map (stamp_at x) (drop i seen)) ≡ 0 = ap (λ (l : List ℕ). greatest (map (stamp_at x) l)) (drop_of_length-le seen past) in
    omega (arith, is, none)
