-- What a call must find before it is answered, by the level of its operation and by that of an open transaction.
-- A store that waits until the call can be answered is the article's; that the reply is `Blocked` is ours.
use Rattle.std.specs.Prelude.{◌≡◌, ◌⊎◌, ℕ, true, false, List, Option, Some, None}
use Rattle.ql_base.specs.declared.ids.SessId.{SessId}
use Rattle.ql_exec.specs.declared.effect.Effect.{Effect}
use Rattle.ql_exec.specs.Effects.{effect_at}
use Rattle.ql_exec.specs.Execution.{IsOn}
use Rattle.ql_exec.specs.Relations.{hb, inside, vis}
use Rattle.ql_levels.specs.declared.level.Level.{Level}
use Rattle.ql_levels.specs.declared.level.Level.TheVariants.{Eventual, Causal, Wide, Strong}
use Rattle.ql_levels.specs.declared.level.TxnLevel.{TxnLevel}
use Rattle.ql_levels.specs.declared.level.TxnLevel.TheVariants.{Rc, Mav, Rr}
use Rattle.ql_machine.specs.declared.open_txn.OpenTxn.{OpenTxn}
use Rattle.ql_machine.specs.State.{Machine, received_at, open_of}
use Rattle.ql_machine.specs.Rules.{Rules, Call}
use Rattle.ql_machine.specs.Views.{InView, AppliedWithOwn}

-- there is an effect, and it is of a session
abbrev pub IsOf : SessId → Option Effect → Type 0
IsOf session None = ⊥
IsOf session (Some effect) = effect.session ≡ session

-- an effect is of the session, or is seen
abbrev pub IsAtHand : List Effect → SessId → (ℕ → Type 0) → ℕ → Type 0
IsAtHand x session sees a = IsOf session (effect_at x a) ⊎ sees a

-- It is one of these, or happened before one of them, by way of any object. Happened-before is Lamport's ('Time, Clocks, and
-- the Ordering of Events in a Distributed System', 1978), made of session order and visibility as in the article.
abbrev pub InPast : List Effect → SessId → (ℕ → Type 0) → ℕ → Type 0
InPast x session sees a = (c : ℕ) × IsAtHand x session sees c × ((a ≡ c) ⊎ (hb x a c ≡ true))

-- What a call that sees some effects must see, by the level of its operation. At causal: what the session did before on the
-- object. At wide: what is on the object in the past of the session and of what is seen.
abbrev pub MustSee : Machine → Call → (ℕ → Type 0) → Level → ℕ → Type 0
MustSee s c sees Eventual a = ⊥
MustSee s c sees Causal a = IsOn c.object (effect_at s.effects a) × IsOf c.session (effect_at s.effects a)
MustSee s c sees Wide a = IsOn c.object (effect_at s.effects a) × InPast s.effects c.session sees a
MustSee s c sees Strong a = ⊥

-- an effect of others that an earlier call of the transaction saw
abbrev pub SawOfOthers : Machine → OpenTxn → ℕ → Type 0
SawOfOthers s t a = (inside s.effects t.run.0 a ≡ false) × (b : ℕ) × (inside s.effects t.run.0 b ≡ true) × (vis s.effects a b ≡ true)

-- What must be applied at the called replica, own effects joined, by the level of the transaction. At monotonic atomic
-- view: what its earlier calls saw of others, on whatever object.
abbrev pub MustHave : Machine → OpenTxn → TxnLevel → ℕ → Type 0
MustHave s t Rc a = ⊥
MustHave s t Mav a = SawOfOthers s t a
MustHave s t Rr a = ⊥

abbrev pub MissingInTxn : Rules → Machine → Call → Option OpenTxn → ℕ → Type 0
MissingInTxn rules s c None a = ⊥
MissingInTxn rules s c (Some t) a = MustHave s t (rules.txn_level t.decl) a × (AppliedWithOwn s t (received_at s.received c.replica.0) a → ⊥)

-- an effect is missing, by either rule
abbrev pub IsMissing : Rules → Machine → Call → ℕ → Type 0
IsMissing rules s c a =
    (MustSee s c (InView rules s c) (rules.level c.op) a × (InView rules s c a → ⊥)) ⊎ MissingInTxn rules s c (open_of s.open_txns c.session) a

abbrev pub NoneMissingInTxn : Rules → Machine → Call → Option OpenTxn → Type 0
NoneMissingInTxn rules s c None = Unit {0}
NoneMissingInTxn rules s c (Some t) = (a : ℕ) → MustHave s t (rules.txn_level t.decl) a → AppliedWithOwn s t (received_at s.received c.replica.0) a

-- nothing is missing, by either rule
pub record NoneMissing (rules : Rules) (s : Machine) (c : Call) : Type 0 where
  pub seen : (a : ℕ) → MustSee s c (InView rules s c) (rules.level c.op) a → InView rules s c a
  pub applied : NoneMissingInTxn rules s c (open_of s.open_txns c.session)
