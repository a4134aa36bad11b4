-- What a contract is read to.
use Rattle.std.specs.Prelude.{ℕ, List, refl}
use Rattle.std.specs.Coded.{Coded, code_by, coded×, coded_list, coded_ℕ}
use Rattle.ql_lang.specs.Formulas.{Resolved}
use Rattle.ql_lang.specs.FormulaCode.{resolved_code}

-- a formula, and the names of its variables in order
pub record NamedFormula : Type 0 where
  pub formula : Resolved
  pub names : List (List ℕ)

-- the code of named formulas
abbrev pub named_code : Coded NamedFormula
named_code =
    code_by (Resolved × List (List ℕ)) (coded× resolved_code (coded_list (coded_list coded_ℕ)))
    (λ n. (n.formula, n.names)) (λ p. record { formula = p.0; names = p.1 }) (λ n. refl)
