-- The lines of a schedule before its events, as they are written.
use Rattle.std.specs.Prelude.{ℕ, ◌≡◌, ◌⊎◌, List, [], ◌∷◌, codes, decimal}
use Rattle.ql_base.specs.Names.{IsName}
use Rattle.ql_lines.specs.Fields.{Fields}
use Rattle.ql_schedule.specs.declared.header.Declaration.{Declaration}
use Rattle.ql_schedule.specs.declared.header.Declaration.TheVariants.{Object, Events}
use Rattle.ql_schedule.specs.Numbers.{IsNumber}

-- the versions of the format; only the second has joins
abbrev pub IsVersion : ℕ → Type 0
IsVersion version = (version ≡ 1) ⊎ (version ≡ 2)

abbrev pub schedule_title : ℕ → Fields
schedule_title version = codes "quelea" ∷ codes "schedule" ∷ decimal version ∷ []

abbrev pub IsTitle : Fields → ℕ → Type 0
IsTitle parts version = IsVersion version × (parts ≡ schedule_title version)

-- `replicas N`
pub record IsReplicas (parts : Fields) (n : ℕ) : Type 0 where
  pub field : List ℕ
  pub number : IsNumber field n
  pub are : parts ≡ codes "replicas" ∷ field ∷ []

-- `object NAME TYPE`, or `events`
abbrev pub IsDeclaration : Fields → Declaration → Type 0
IsDeclaration parts (Object name kind) = IsName name × IsName kind × (parts ≡ codes "object" ∷ name ∷ kind ∷ [])
IsDeclaration parts Events = parts ≡ codes "events" ∷ []
