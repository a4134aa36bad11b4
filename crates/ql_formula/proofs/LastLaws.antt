-- The last effects of sessions, as effects are added.
use Rattle.std.proofs.Common.{◌≡◌, ℕ, ◌<◌, true, false, List, [], ◌∷◌, ◌++◌, length, get_or, Option, Some, None, refl, sym, subst, inl, inr, arith, length-append}
use Rattle.std.specs.Prelude.{cond}
use Rattle.std.proofs.lemmas.Bool.{cases_lt}
use Rattle.std.proofs.lemmas.List.{get_or_append_left, get_or_push}
use Rattle.ql_formula.specs.declared.rows.Closure.{Closure}
use Rattle.ql_formula.specs.declared.rows.Closure.TheVariants.{OnOneObject, Across}
use Rattle.ql_formula.specs.declared.rows.Key.{Key}
use Rattle.ql_formula.specs.Tables.{IsLastBefore, follows, group_of, same_group}

pub same_group-follows : (closure : Closure) (e f : Key) → same_group (group_of closure e) (group_of closure f) ≡ follows closure e f
same_group-follows OnOneObject e f = refl
same_group-follows Across e f = refl

-- with one more effect, that one is the last where it is in the session
pub last_with : (closure : Closure) (keys : List Key) (e q : Key) (o : Option ℕ) → IsLastBefore closure keys q o
    → IsLastBefore closure (keys ++ e ∷ []) q (cond (follows closure e q) (Some (length keys)) o)
last_with closure keys e q o known = elim (follows closure e q) as (λ b. follows closure e q ≡ b → IsLastBefore closure (keys ++ e ∷ []) q (cond b (Some (length keys)) o)) [
  | true ↦ λ is. (
    omega (arith, length-append keys (e ∷ [])),
    subst (λ (f : Key). follows closure f q ≡ true) (sym (get_or_push keys e q (length keys) refl)) is,
    λ k more within. absurd (omega (arith, more, within, length-append keys (e ∷ []))),
  )
  | false ↦ λ other. still other o known
] refl
  where
    apart : follows closure e q ≡ false → (k : ℕ) → k < length (keys ++ e ∷ []) → (k < length keys → follows closure (get_or keys k q) q ≡ false)
        → follows closure (get_or (keys ++ e ∷ []) k q) q ≡ false
    apart other k within before = elim (cases_lt k (length keys)) [
      | inl inside ↦ subst (λ (f : Key). follows closure f q ≡ false) (sym (get_or_append_left keys (e ∷ []) q k inside)) (before inside)
      | inr past ↦
          let place : length keys ≡ k = omega (arith, within, past, length-append keys (e ∷ [])) in
          subst (λ (f : Key). follows closure f q ≡ false) (sym (get_or_push keys e q k place)) other
    ]

    still : follows closure e q ≡ false → (o : Option ℕ) → IsLastBefore closure keys q o → IsLastBefore closure (keys ++ e ∷ []) q o
    still other None none = λ k within. apart other k within (λ inside. none k inside)
    still other (Some last) found =
        let inside = found.0 in (
          omega (arith, inside, length-append keys (e ∷ [])),
          subst (λ (f : Key). follows closure f q ≡ true) (sym (get_or_append_left keys (e ∷ []) q last inside)) found.1,
          λ k more within. apart other k within (λ less. found.2 k more less),
        )
