use Rattle.std.proofs.Common.{◌≡◌, ◌⊎◌, ℕ, true, drop}
use Rattle.ql_base.specs.IdLists.{IsAscending, has_id}
use Rattle.ql_lang.specs.Formulas.{resolved_of}
use Rattle.ql_formula.specs.Truth.{HoldsTxn}
use Rattle.ql_verify.proofs.judging.first_among.Given as goal

abbrev pub invariant-loop-run : goal.invariant-loop-run
invariant-loop-run l =
    ((other : ℕ) → has_id l.runs other ≡ true → (has_id (drop l.run-index l.runs) other ≡ true) ⊎ HoldsTxn l.execution (resolved_of l.contract) other)
    × ((other : ℕ) → has_id (drop l.run-index l.runs) other ≡ true → has_id l.runs other ≡ true)
    × IsAscending (drop l.run-index l.runs)
