use Rattle.std.specs.Prelude.{◌≡◌, ℕ, List, Option, drop, take, length}
use Rattle.ql_lang.specs.declared.name.Name.{Name}
use Rattle.ql_typing.specs.declared.fault.TypeFault.{TypeFault}
use Rattle.ql_typing.specs.Faults.{each, earlier, first_fault, repeats, names_met}

-- with the names met and the fault so far, the rest of a list yields what the whole list yields after the names before
pub record IsRest (before met : List (List ℕ)) (fault : Option TypeFault) (rest all : List Name) : Type 0 where
  pub names : names_met met rest ≡ names_met before all
  pub faults : earlier fault (first_fault (repeats met rest)) ≡ first_fault (repeats before all)

-- a fault together with those of the items from the index i on is the first of all items'
abbrev pub SoFar : {A : Type 0} → (A → List TypeFault) → Option TypeFault → ℕ → List A → Type 0
SoFar faults fault i xs = earlier fault (first_fault (each faults (drop i xs))) ≡ first_fault (each faults xs)

-- the names of before are first, and the rest of a list adds what the whole list adds to them
pub record IsRestMet {A : Type 0} (meets : List (List ℕ) → List A → List (List ℕ)) (before names : List (List ℕ)) (rest all : List A) : Type 0 where
  pub kept : take (length before) names ≡ before
  pub met : meets names rest ≡ meets before all
