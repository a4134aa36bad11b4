-- What an effect needs: the effects that it sees, those before it in its session on its object, and the others of its
-- transaction where that is committed. The rules on the order of delivery are ours; the relations are those of
-- Sivaramakrishnan, Kaki and Jagannathan, 'Declarative Programming over Eventually Consistent Data Stores' (PLDI 2015).
use Rattle.std.specs.Prelude.{◌≡◌, ◌⊎◌, ◌++◌, ◌≤◌, ◌<◌, ℕ, Bool, true, false, List, length}
use Rattle.ql_base.specs.IdLists.{has_id}
use Rattle.ql_exec.specs.declared.effect.Effect.{Effect}
use Rattle.ql_exec.specs.Relations.{hbo_step, sametxn}
use Rattle.ql_holder.specs.Closed.{Reaches, Has}

-- effect a needs effect b, where `committed` holds of the effects of committed transactions
abbrev pub NeedsWhen : (ℕ → Bool) → List Effect → ℕ → ℕ → Type 0
NeedsWhen committed x a b = (hbo_step x b a ≡ true) ⊎ ((committed a ≡ true) × (sametxn x a b ≡ true))

-- effect a needs effect b, every transaction taken as committed
abbrev pub Needs : List Effect → ℕ → ℕ → Type 0
Needs x a b = NeedsWhen (λ e. true) x a b

-- ---- packages

-- each of these is an effect
abbrev pub AreThere : List Effect → List ℕ → Type 0
AreThere x ids = (a : ℕ) → Has ids a → (1 ≤ a) × (a ≤ length x)

-- effects, and with each of them all effects of its transaction
pub record AreWhole (x : List Effect) (ids : List ℕ) : Type 0 where
  pub there : AreThere x ids
  pub whole : (a b : ℕ) → Has ids a → sametxn x a b ≡ true → Has ids b

-- All effects of one transaction. An effect outside any is a transaction by itself.
pub record IsPackage (x : List Effect) (ids : List ℕ) : Type 0 where
  pub member : ℕ
  pub first : 1 ≤ member
  pub last : member ≤ length x
  pub all : (a : ℕ) → has_id ids a ≡ sametxn x member a

-- an effect is needed by one of these, directly or through others, which needn't be of these themselves
abbrev pub IsNeeded : List Effect → List ℕ → ℕ → Type 0
IsNeeded x ids a = (e : ℕ) × Has ids e × Reaches (Needs x) e a

-- no later effect is of a transaction with one of these
abbrev pub JoinsNone : List Effect → List Effect → List ℕ → Type 0
JoinsNone x more ids = (a b : ℕ) → Has ids a → length x < b → sametxn (x ++ more) a b ≡ false
