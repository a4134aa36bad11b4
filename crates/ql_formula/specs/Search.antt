-- What a search over choices of effects knows: `front` has the effects chosen for the variables before those in `vars`,
-- and `true_at` says whether the body is true at a choice.
use Rattle.std.specs.Prelude.{◌≡◌, ℕ, List, ◌++◌, Bool, true, false}
use Rattle.ql_lang.specs.declared.formula.OpChoice.{OpChoice}
use Rattle.ql_exec.specs.declared.effect.Effect.{Effect}
use Rattle.ql_exec.specs.Relations.{inside}
use Rattle.ql_formula.specs.declared.search.Current.{Current}
use Rattle.ql_formula.specs.declared.search.Current.TheVariants.{AtEffect, OfRun}
use Rattle.ql_formula.specs.Truth.{Chosen, IsBefore, none_inside}

-- the effects of the current transaction, and the current effect, 0 if there is none
abbrev pub inside_of : List Effect → Current → ℕ → Bool
inside_of x (AtEffect cur) a = none_inside a
inside_of x (OfRun run) a = inside x run.0 a

abbrev pub cur_of : Current → ℕ
cur_of (AtEffect cur) = cur.0
cur_of (OfRun run) = 0

-- the body is true however the choice continues
abbrev pub AllTrueFrom : List Effect → (List ℕ → Bool) → List ℕ → List OpChoice → Type 0
AllTrueFrom x true_at front vars = (places : List ℕ) → Chosen x vars places → true_at (front ++ places) ≡ true

-- the first continuation of the choice at which the body is false
pub record IsFirstFrom (x : List Effect) (true_at : List ℕ → Bool) (front : List ℕ) (vars : List OpChoice) (places : List ℕ) : Type 0 where
  pub chosen : Chosen x vars places
  pub is_false : true_at (front ++ places) ≡ false
  pub first : (others : List ℕ) → Chosen x vars others → IsBefore others places → true_at (front ++ others) ≡ true
