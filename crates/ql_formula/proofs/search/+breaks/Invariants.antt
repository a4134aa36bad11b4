use Rattle.std.proofs.Common.{◌≡◌, ℕ, ◌≤◌, true, [], ◌∷◌, ◌++◌, List, length, take}
use Rattle.ql_lang.specs.Formulas.{statement_of}
use Rattle.ql_formula.specs.Truth.{in_range, statement_true}
use Rattle.ql_formula.specs.Search.{AllTrueFrom, inside_of, cur_of}
use Rattle.ql_formula.proofs.search.+breaks.Given as goal

abbrev pub decreases-breaks : goal.decreases-breaks
decreases-breaks l = length l.vars.now

abbrev pub invariant-loop-before : goal.invariant-loop-before
invariant-loop-before l =
    (length l.places ≡ length l.initial.places)
    × (take l.at l.places ≡ take l.at l.initial.places)
    × ((p : ℕ) → p ≤ l.before → in_range l.execution l.choice p ≡ true
    → AllTrueFrom l.execution (λ (ps : List ℕ). statement_true l.execution (inside_of l.execution l.fn.current) ps (cur_of l.fn.current) (statement_of l.body)) (take l.at l.initial.places ++ p ∷ []) l.others)
