-- Named relations that are known of effects, one by one.
use Rattle.std.specs.Prelude.{ℕ, ◌≡◌, true, List}
use Rattle.std.specs.List.{All}
use Rattle.ql_lang.specs.Formulas.{Statement}
use Rattle.ql_exec.specs.declared.effect.Effect.{Effect}
use Rattle.ql_exec.specs.Execution.{IsExecution}
use Rattle.ql_formula.specs.Truth.{named, place_of}
use Rattle.ql_warnings.specs.Premises.{IsPart, known_statement}
use Rattle.ql_warnings.specs.declared.known.Known.{Known}

-- it holds of the effects that the variables stand for
abbrev pub IsKnownAt : List Effect → List ℕ → ℕ → Known → Type 0
IsKnownAt x places cur k = named x k.name (place_of places cur k.first) (place_of places cur k.second) ≡ true

-- wherever the first holds, the second does
abbrev pub Entails : Known → Known → Type 0
Entails k wanted = (x : List Effect) → IsExecution x → (places : List ℕ) (cur : ℕ) → IsKnownAt x places cur k → IsKnownAt x places cur wanted

-- it is one of the statement's parts
abbrev pub IsPartOf : Statement → Known → Type 0
IsPartOf s k = IsPart s (known_statement k)

-- the appended relations are parts of the statement, and so of any statement that has all of its parts
abbrev pub PartsKept : Statement → List Known → List Known → Type 0
PartsKept s old new = (whole : Statement) → ((part : Statement) → IsPart s part → IsPart whole part) → All (IsPartOf whole) old → All (IsPartOf whole) new
