-- The table of each session's last effect, and what it keeps.
use Rattle.std.specs.Prelude.{◌≡◌, ℕ, ◌≤◌, length, Bool, true, nat_eq, if◌then◌else◌, List, [], ◌∷◌, Some}
use Rattle.std.specs.List.{list_any}
use Rattle.ql_base.specs.IdLists.{has_id}
use Rattle.ql_base.specs.declared.ids.SessId.{SessId}
use Rattle.ql_exec.specs.declared.effect.Effect.{Effect}
use Rattle.ql_exec.specs.declared.effect.Member.{Member}
use Rattle.ql_exec.specs.declared.effect.Member.TheVariants.{Alone, Inside}
use Rattle.ql_exec.specs.declared.latest.Entry.{Entry}
use Rattle.ql_exec.specs.Effects.{effect_at, in_run, of_session, last}

-- the id that the table has for a session, 0 if it has none
abbrev pub latest_of : List Entry → SessId → ℕ
latest_of [] session = 0
latest_of (entry ∷ entries) session = if nat_eq entry.session.0 session.0 then entry.last else latest_of entries session

-- the table has an entry for a session
abbrev pub has_entry : List Entry → SessId → Bool
has_entry entries session = list_any (λ entry. nat_eq entry.session.0 session.0) entries

-- the table with an id for a session that it has
abbrev pub with_latest : List Entry → SessId → ℕ → List Entry
with_latest [] session id = []
with_latest (entry ∷ entries) session id =
    if nat_eq entry.session.0 session.0 then record { session = entry.session; last = id } ∷ entries
    else entry ∷ with_latest entries session id

-- the id of a session's last effect, 0 if it has none
abbrev pub IsLastOf : List Effect → SessId → ℕ → Type 0
IsLastOf x session id =
    (id ≤ length x) × (effect_at x id ≡ last (of_session x session))
    × ((a : ℕ) (e : Effect) → effect_at x a ≡ Some e → e.session.0 ≡ session.0 → a ≤ id)

-- the table has the last effect of each session
abbrev pub FindsLast : List Entry → List Effect → Type 0
FindsLast entries x = (session : SessId) → IsLastOf x session (latest_of entries session)

-- each transaction that has an effect is among these
abbrev pub KnowsRuns : List ℕ → List Effect → Type 0
KnowsRuns runs x = (run : ℕ) → list_any (λ e. in_run run e.member) x ≡ true → has_id runs run ≡ true

-- the transaction of a membership is among these
abbrev pub KnowsRunOf : List ℕ → Member → Type 0
KnowsRunOf runs Alone = Unit {0}
KnowsRunOf runs (Inside run name) = has_id runs run.0 ≡ true
