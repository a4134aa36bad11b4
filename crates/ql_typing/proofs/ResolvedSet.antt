-- Two proofs that resolved contracts are equal are equal: each resolved contract is that of a formula.
use Rattle.std.proofs.Common.{◌≡◌, ◌<◌, ℕ, List, Option, Some, length, get_or, map, option_map, refl, sym, ap, ◌∙◌, arith}
use Rattle.std.specs.List.{slice_get}
use Rattle.std.proofs.Math.Logic.{∥∥₁_elim}
use Rattle.std.proofs.lemmas.List.{length-map}
use Rattle.std.proofs.lemmas.Option.{slice_get-map, slice_get_read}
use Rattle.std.specs.Coded.{Coded-set, coded_option}
use Rattle.ql_lang.specs.Formulas.{Resolved, resolved_of}
use Rattle.ql_lang.specs.FormulaCode.{resolved_code}
use Rattle.ql_lang.specs.declared.formula.Formula.{Formula}

-- an equation between resolved contracts has one proof
pub one_proof : (f g : Option Resolved) → IsProp (f ≡ g)
one_proof = Coded-set (coded_option resolved_code)

-- the formula at a place is the resolved contract there
pub formula_at : (fs : List Formula) (all : List Resolved) (k : ℕ) (f : Formula) → ∥ map resolved_of fs ≡ all ∥₁ → k < length all → f ≡ get_or fs k f → slice_get all k ≡ Some (resolved_of f)
formula_at fs all k f same below is = ∥∥₁_elim same (one_proof _ _) (λ e.
    let within : k < length fs = omega (arith, below, ap length e, length-map fs resolved_of) in
    ap (λ xs. slice_get xs k) (sym e) ∙ slice_get-map resolved_of fs k ∙ ap (option_map resolved_of) (slice_get_read fs (length fs) k f refl within is))
