-- Warnings appended one after another.
use Rattle.std.specs.Prelude.{ℕ, ◌≡◌, ◌<◌, ◌≤◌, ◌⊎◌, List}
use Rattle.std.specs.List.{All, Contains}
use Rattle.ql_base.specs.declared.ids.OpId.{OpId}
use Rattle.ql_lex.specs.declared.token.Token.{Token}
use Rattle.ql_lang.specs.Formulas.{Statement}
use Rattle.ql_lang.specs.declared.formula.OpChoice.{OpChoice}
use Rattle.ql_lang.specs.declared.program.Program.{Program}
use Rattle.ql_ground.specs.declared.goal.Goal.{Goal}
use Rattle.ql_warnings.specs.Brackets.{IsJoinedTo, IsUnbracketed}
use Rattle.ql_warnings.specs.Places.{IsPlaceOf}
use Rattle.ql_warnings.specs.Premises.{IsPremise}
use Rattle.ql_warnings.specs.Warnings.{IsNamedAs, IsOfPremise, IsOfPremises}
use Rattle.ql_warnings.specs.declared.warning.Place.{Place}
use Rattle.ql_warnings.specs.declared.warning.Warning.{Warning}
use Rattle.ql_warnings.specs.declared.warning.Warning.TheVariants as warning
use Rattle.ql_lang.specs.declared.contract.Var.{Var}

-- the appended warnings are true of one premise
abbrev pub PremiseKept : List ℕ → Program → Goal → List OpChoice → Statement → List Warning → List Warning → Type 0
PremiseKept source p g vars premise old new = All (IsOfPremise source p g vars premise) old → All (IsOfPremise source p g vars premise) new

-- the appended warnings are true of the premises of a body, and so of any statement that has all of these
abbrev pub PremisesKept : List ℕ → Program → Goal → List OpChoice → Statement → List Warning → List Warning → Type 0
PremisesKept source p g vars body old new =
    (whole : Statement) → ((s : Statement) → IsPremise body s → IsPremise whole s) → All (IsOfPremises source p g vars whole) old → All (IsOfPremises source p g vars whole) new

-- ---- names

-- a variable has the name of an operation
abbrev pub IsNameWarning : Program → List Var → Warning → Type 0
IsNameWarning p vars (warning.NamedAsOperation v op) = IsNamedAs p vars v op
IsNameWarning p vars _ = ⊥

-- all warnings of the first variables
pub record AreNameWarnings (p : Program) (vars : List Var) (count : ℕ) (ws : List Warning) : Type 0 where
  pub sound : All (IsNameWarning p vars) ws
  pub complete : (v : ℕ) (op : OpId) → v < count → IsNamedAs p vars v op → Contains ws (warning.NamedAsOperation v op)

-- ---- brackets

-- a position between two offsets, at statements without brackets
abbrev pub IsBracketWarning : List ℕ → ℕ → ℕ → Warning → Type 0
IsBracketWarning source start end (warning.Unbracketed place) = IsPlaceOf source place × IsUnbracketed source start place.at × (place.at < end)
IsBracketWarning source start end _ = ⊥

-- all warnings between two offsets
pub record AreBracketWarnings (source : List ℕ) (start end : ℕ) (ws : List Warning) : Type 0 where
  pub sound : All (IsBracketWarning source start end) ws
  pub complete : (place : Place) → IsPlaceOf source place → IsUnbracketed source start place.at → place.at < end → Contains ws (warning.Unbracketed place)

-- all warnings whose first `=>` is one of the first tokens
pub record AreJoined (source : List ℕ) (start end : ℕ) (tokens : List Token) (count : ℕ) (ws : List Warning) : Type 0 where
  pub sound : All (IsBracketWarning source start end) ws
  pub complete : (k : ℕ) (place : Place) → k < count → IsPlaceOf source place → IsJoinedTo source start tokens k place.at → place.at < end → Contains ws (warning.Unbracketed place)

-- ---- where the next target begins

-- the least of some offsets after `at` and before `end`, or `end`
pub record IsLeastBetween (Is : ℕ → Type 0) (at end next : ℕ) : Type 0 where
  pub within : next ≤ end
  pub least : (n : ℕ) → Is n → at < n → next ≤ n
  pub some : (next ≡ end) ⊎ ((at < next) × Is next)
