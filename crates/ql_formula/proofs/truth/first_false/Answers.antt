use Rattle.std.proofs.Common.{◌≡◌, ◌-◌, ℕ, List, [], ◌∷◌, ◌++◌, length, take, drop, refl, sym, ap, subst, ◌∙◌, arith}
use Rattle.std.proofs.lemmas.List.{length-take}
use Rattle.ql_lang.specs.declared.formula.OpChoice.{OpChoice}
use Rattle.ql_lang.specs.Formulas.{resolved_of, statement_of}
use Rattle.ql_formula.specs.Truth.{Chosen, IsFirstFalse, statement_true}
use Rattle.ql_formula.specs.Search.{IsFirstFrom, inside_of, cur_of}
use Rattle.ql_formula.proofs.truth.first_false.Goals as goal

pub returns-then-breaks : goal.returns-then-breaks
returns-then-breaks c =
    let x = c.args.execution.now in
    let body = λ (ps : List ℕ). statement_true x (inside_of x c.args.current) ps (cur_of c.args.current) (statement_of c.args.formula.now.body) in
    let vars = c.items-vars.result.now in
    let zeros : List ℕ = 0 ∷ 0 ∷ 0 ∷ 0 ∷ 0 ∷ [] in
    let row = take (length vars) zeros in
    let new = c.breaks.new.places in
    let none : length row - length vars ≡ 0 = omega (arith, length-take (length vars) zeros) in
    let found : IsFirstFrom x body (take (length row - length vars) row) vars (drop (length row - length vars) new) = c.if-breaks.ensures.first refl in
    let whole : IsFirstFrom x body [] vars new = subst (λ (m : ℕ). IsFirstFrom x body (take m row) vars (drop m new)) none found in
    let here : IsFirstFrom x body [] c.args.formula.now.vars new = subst (λ (vs : List OpChoice). IsFirstFrom x body [] vs new) c.items-vars.ensures whole in
    subst (λ (ps : List ℕ). IsFirstFalse x (inside_of x c.args.current) (cur_of c.args.current) (resolved_of c.args.formula.now) ps) (sym c.places_of.ensures)
    (record { chosen = here.chosen; is_false = here.is_false; first = here.first })

pub returns-else-breaks : goal.returns-else-breaks
returns-else-breaks c = λ places chosen.
    let x = c.args.execution.now in
    let vars = c.items-vars.result.now in
    let zeros : List ℕ = 0 ∷ 0 ∷ 0 ∷ 0 ∷ 0 ∷ [] in
    let row = take (length vars) zeros in
    let none : length row - length vars ≡ 0 = omega (arith, length-take (length vars) zeros) in
    ap (λ (m : ℕ). statement_true x (inside_of x c.args.current) (take m row ++ places) (cur_of c.args.current) (statement_of c.args.formula.now.body)) (sym none)
    ∙ c.if-breaks.ensures.holds refl places (subst (λ (vs : List OpChoice). Chosen x vs places) (sym c.items-vars.ensures) chosen)
