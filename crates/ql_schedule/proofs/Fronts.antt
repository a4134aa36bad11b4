-- a line that is read from its start, part by part
use Rattle.std.proofs.Common.{◌≡◌, ℕ, List, [], ◌∷◌, Option, None, Some, MatchOption, drop, codes, ap, sym, subst, ◌∙◌}
use Rattle.ql_lines.specs.Fields.{Fields}
use Rattle.ql_lines.proofs.Conses.{heads}
use Rattle.ql_schedule.specs.EventLines.{CallerAt, IsCalled}
use Rattle.ql_schedule.specs.declared.event_parts.Caller.{Caller}
use Rattle.ql_schedule.specs.Numbers.{IsNumber}
use Rattle.ql_schedule.specs.Headers.{IsReplicas}

-- nothing is read where its first part isn't there
pub no_other_first : (parts : Fields) (first : List ℕ) (rest : Fields) → parts ≡ first ∷ rest → ((n : ℕ) → IsNumber first n → ⊥)
    → (field : List ℕ) (n : ℕ) (more : Fields) → IsNumber field n → parts ≡ field ∷ more → ⊥
no_other_first parts first rest are none field n more is e = none n (subst (λ f. IsNumber f n) (heads field first more rest (sym e ∙ are)) is)

pub no_caller : (parts : Fields) → ((field : List ℕ) (n : ℕ) (rest : Fields) → IsNumber field n → parts ≡ field ∷ rest → ⊥) → (c : Caller) (rest : Fields) → CallerAt c parts rest → ⊥
no_caller parts none c rest h = none h.session c.session _ h.is_session h.are

pub no_called : (parts : Fields) → ((c : Caller) (rest : Fields) → CallerAt c parts rest → ⊥) → (c : Caller) (object op : List ℕ) (rest : Fields) → IsCalled parts c object op rest → ⊥
no_called parts none c object op rest h = none c h.remaining h.caller

pub no_replica : (parts p1 p2 : Fields) (field : List ℕ) → parts ≡ field ∷ p1 → p1 ≡ codes "at" ∷ p2 → ((f : List ℕ) (n : ℕ) (rest : Fields) → IsNumber f n → p2 ≡ f ∷ rest → ⊥)
    → (c : Caller) (rest : Fields) → CallerAt c parts rest → ⊥
no_replica parts p1 p2 field are at none c rest h =
    none h.replica c.replica rest h.is_replica (ap (λ (fs : Fields). drop 1 fs) (sym at) ∙ ap (λ (fs : Fields). drop 2 fs) (sym are ∙ h.are))

pub no_number_alone : (parts : Fields) → ((field : List ℕ) (n : ℕ) (rest : Fields) → IsNumber field n → parts ≡ field ∷ rest → ⊥) → (field : List ℕ) (n : ℕ) → IsNumber field n → parts ≡ field ∷ [] → ⊥
no_number_alone parts none field n is e = none field n [] is e

pub no_count : (parts p1 : Fields) → parts ≡ codes "replicas" ∷ p1 → ((field : List ℕ) (n : ℕ) → IsNumber field n → p1 ≡ field ∷ [] → ⊥) → (n : ℕ) → IsReplicas parts n → ⊥
no_count parts p1 are none n h = none h.field n h.number (ap (λ (fs : Fields). drop 1 fs) (sym are ∙ h.are))

pub count_read : (parts p1 : Fields) (r : Option ℕ) → parts ≡ codes "replicas" ∷ p1
    → MatchOption r ((field : List ℕ) (n : ℕ) → IsNumber field n → p1 ≡ field ∷ [] → ⊥) (λ n. (field : List ℕ) × IsNumber field n × (p1 ≡ field ∷ []))
    → MatchOption r ((n : ℕ) → IsReplicas parts n → ⊥) (λ n. IsReplicas parts n)
count_read parts p1 None are h = no_count parts p1 are h
count_read parts p1 (Some n) are h = record { field = h.0; number = h.1; are = are ∙ ap (λ (fs : Fields). codes "replicas" ∷ fs) h.2 }
