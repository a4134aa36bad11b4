-- what the loops over the parts of a text have read
use Rattle.std.proofs.Common.{◌≡◌, ℕ, List, [], ◌∷◌, ◌++◌, Option, None, Some, MatchOption, subst}
use Rattle.std.specs.List.{AllByRecursion}
use Rattle.ql_base.specs.Names.{IsName}
use Rattle.ql_lines.specs.Fields.{Fields}
use Rattle.ql_schedule.specs.declared.argument.Argument.{Argument}
use Rattle.ql_schedule.specs.Arguments.{AreArguments, IsArgument}
use Rattle.ql_schedule.specs.EventLines.{AreNumbers}
use Rattle.ql_schedule.specs.Numbers.{IsNumber}

pub arguments_more : (parts : Fields) (xs : List Argument) (part : List ℕ) (x : Argument) → AreArguments parts xs → IsArgument part x → AreArguments (parts ++ part ∷ []) (xs ++ x ∷ [])
arguments_more [] [] part x h is = (is, tt)
arguments_more [] (y ∷ ys) part x h is = absurd h
arguments_more (p ∷ ps) [] part x h is = absurd h
arguments_more (p ∷ ps) (y ∷ ys) part x h is = (h.0, arguments_more ps ys part x h.1 is)

-- a part among those that arguments are is one of them
pub argument_there : (parts : Fields) (part : List ℕ) (rest : Fields) (xs : List Argument) → AreArguments (parts ++ part ∷ rest) xs → (x : Argument) × IsArgument part x
argument_there [] part rest [] h = absurd h
argument_there [] part rest (x ∷ xs) h = (x, h.0)
argument_there (p ∷ ps) part rest [] h = absurd h
argument_there (p ∷ ps) part rest (x ∷ xs) h = argument_there ps part rest xs h.1

pub numbers_more : (parts : Fields) (xs : List ℕ) (part : List ℕ) (x : ℕ) → AreNumbers parts xs → IsNumber part x → AreNumbers (parts ++ part ∷ []) (xs ++ x ∷ [])
numbers_more [] [] part x h is = (is, tt)
numbers_more [] (y ∷ ys) part x h is = absurd h
numbers_more (p ∷ ps) [] part x h is = absurd h
numbers_more (p ∷ ps) (y ∷ ys) part x h is = (h.0, numbers_more ps ys part x h.1 is)

pub number_there : (parts : Fields) (part : List ℕ) (rest : Fields) (xs : List ℕ) → AreNumbers (parts ++ part ∷ rest) xs → (x : ℕ) × IsNumber part x
number_there [] part rest [] h = absurd h
number_there [] part rest (x ∷ xs) h = (x, h.0)
number_there (p ∷ ps) part rest [] h = absurd h
number_there (p ∷ ps) part rest (x ∷ xs) h = number_there ps part rest xs h.1

pub names_more : (parts : Fields) (part : List ℕ) → AllByRecursion IsName parts → IsName part → AllByRecursion IsName (parts ++ part ∷ [])
names_more [] part h is = (is, tt)
names_more (p ∷ ps) part h is = (h.0, names_more ps part h.1 is)

pub name_there : (parts : Fields) (part : List ℕ) (rest : Fields) → AllByRecursion IsName (parts ++ part ∷ rest) → IsName part
name_there [] part rest h = h.0
name_there (p ∷ ps) part rest h = name_there ps part rest h.1

pub none_read : {X : Type 0} (r : Option X) (N : Type 0) (S : X → Type 0) → r ≡ None → MatchOption r N S → N
none_read r N S e h = subst (λ o. MatchOption o N S) e h

pub some_read : {X : Type 0} (r : Option X) (N : Type 0) (S : X → Type 0) (x : X) → r ≡ Some x → MatchOption r N S → S x
some_read r N S x e h = subst (λ o. MatchOption o N S) e h
