-- The effects on an object that a transaction sees, when those of others are known.
use Rattle.std.specs.Prelude.{◌≡◌, ◌↔◌, ℕ, Bool, true, false, not, ◌&&◌, ◌||◌, nat_eq, if◌then◌else◌, List}
use Rattle.ql_base.specs.IdLists.{IsAscending, has_id, with_id}
use Rattle.ql_base.specs.declared.ids.SessId.{SessId}
use Rattle.ql_exec.specs.declared.effect.Effect.{Effect}
use Rattle.ql_exec.specs.Effects.{effect_at}
use Rattle.ql_exec.specs.Relations.{hbo_step}
use Rattle.ql_holder.specs.Closed.{Has}
use Rattle.ql_machine.specs.Blocking.{IsOf}
use Rattle.ql_machine.specs.Sets.{AreThose, has_all}

-- the given effects of others on the object, and each own one for which all that is one step before it is seen
pub record IsJoined (x : List Effect) (own others on ids : List ℕ) : Type 0 where
  pub ascending : IsAscending ids
  pub within : (a : ℕ) → Has ids a → Has on a
  pub theirs : (a : ℕ) → Has on a → has_id own a ≡ false → Has ids a ↔ Has others a
  pub ours : (a : ℕ) → Has on a → Has own a → Has ids a ↔ ((b : ℕ) → hbo_step x b a ≡ true → Has ids b)

-- All own effects and these of others, which leave out nothing that an own one saw and nothing of the session.
pub record IsComplete (x : List Effect) (own saw others : List ℕ) (s : SessId) (on ids : List ℕ) : Type 0 where
  pub those : AreThose (λ a. Has on a × ((has_id own a || has_id others a) ≡ true)) ids
  pub rest : (a : ℕ) → Has on a → (has_id own a || has_id others a) ≡ false → (has_id saw a ≡ false) × (IsOf s (effect_at x a) → ⊥)

-- whether the next effect is seen, by those before it that are
abbrev pub is_seen_next : List ℕ → Bool → Effect → ℕ → List ℕ → List ℕ → Bool
is_seen_next ids whole e a own others = if has_id own a then whole && has_all ids e.seen else has_id others a

-- the next effect was taken
pub record IsNextJoined (ids : List ℕ) (whole : Bool) (e : Effect) (a : ℕ) (s : SessId) (own others ids' : List ℕ) (whole' : Bool) : Type 0 where
  pub ids_are : ids' ≡ (if is_seen_next ids whole e a own others then with_id ids a else ids)
  pub whole_is : whole' ≡ (whole && (is_seen_next ids whole e a own others || not (nat_eq e.session.0 s.0)))
