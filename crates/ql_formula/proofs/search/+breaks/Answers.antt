use Rattle.std.proofs.Common.{◌≡◌, ℕ, List, true, false, ◌+◌, ◌-◌, ◌<◌, [], ◌∷◌, ◌++◌, length, take, drop, set, drop_of_length-le, length-set, refl, sym, ap, subst, ◌∙◌, arith, inl, inr}
use Rattle.std.proofs.lemmas.List.{length-take, length-drop, take_all, nil_from_length}
use Rattle.std.proofs.lemmas.Bool.{cases_lt, not-true, not-false}
use Rattle.ql_lang.specs.declared.formula.OpChoice.{OpChoice}
use Rattle.ql_lang.specs.Formulas.{statement_of}
use Rattle.ql_exec.specs.declared.effect.Effect.{Effect}
use Rattle.ql_formula.specs.Truth.{in_range, statement_true}
use Rattle.ql_formula.specs.Search.{AllTrueFrom, IsFirstFrom, inside_of, cur_of}
use Rattle.ql_formula.proofs.SearchLaws.{whole_true, whole_false, all_places, first_here, turned, opened, place_within}
use Rattle.ql_formula.proofs.search.+breaks.Goals as goal

pub returns-in_default-clause-holds : goal.returns-in_default-clause-holds
returns-in_default-clause-holds t c = λ no_break.
    let x = c.args.execution.now in
    let body = λ (ps : List ℕ). statement_true x (inside_of x c.args.current) ps (cur_of c.args.current) (statement_of c.args.body.now) in
    let vars = c.args.vars.now in
    let places = c.args.places.now in
    let at = length places - length vars in
    let empty = c.in_default.len_below in
    let none : vars ≡ [] = nil_from_length vars (omega (arith, empty)) in
    let front : take at places ≡ places = take_all at places (omega (arith, empty)) in
    let here : body places ≡ true = sym c.is_true.ensures ∙ not-false c.is_true.result no_break in
    subst (λ (vs : List OpChoice). AllTrueFrom x body (take at places) vs) (sym none)
    (subst (λ (f : List ℕ). AllTrueFrom x body f []) (sym front) (whole_true x body places here))

pub returns-in_default-clause-first : goal.returns-in_default-clause-first
returns-in_default-clause-first t c = λ break_here.
    let x = c.args.execution.now in
    let body = λ (ps : List ℕ). statement_true x (inside_of x c.args.current) ps (cur_of c.args.current) (statement_of c.args.body.now) in
    let vars = c.args.vars.now in
    let places = c.args.places.now in
    let at = length places - length vars in
    let empty = c.in_default.len_below in
    let none : vars ≡ [] = nil_from_length vars (omega (arith, empty)) in
    let front : take at places ≡ places = take_all at places (omega (arith, empty)) in
    let behind : drop at places ≡ [] = drop_of_length-le places (omega (arith, empty)) in
    let here : body places ≡ false = sym c.is_true.ensures ∙ not-true c.is_true.result break_here in
    subst (λ (vs : List OpChoice). IsFirstFrom x body (take at places) vs (drop at places)) (sym none)
    (subst (λ (f : List ℕ). IsFirstFrom x body f [] (drop at places)) (sym front)
    (subst (λ (d : List ℕ). IsFirstFrom x body places [] d) (sym behind) (whole_false x body places here)))

pub returns-then-breaks-clause-first : goal.returns-then-breaks-clause-first
returns-then-breaks-clause-first t c = λ _.
    let x = c.args.execution.now in
    let body = λ (ps : List ℕ). statement_true x (inside_of x c.args.current) ps (cur_of c.args.current) (statement_of c.args.body.now) in
    let vars = c.args.vars.now in
    let before = c.args.places.now in
    let places = c.loop-before.places in
    let choice = c.choice-item.result in
    let others = take (length vars - 1) (drop 1 vars) in
    let at = length before - length vars in
    let p = c.loop-before.before + 1 in
    let new = c.breaks.new.places in
    let k = length (set places at p) - length others in
    let some = c.in-len1-up.len_at_least in
    let enough = c.requires.few in
    let few : length others ≡ length vars - 1 = omega (arith, length-take (length vars - 1) (drop 1 vars), length-drop 1 vars) in
    let len : length places ≡ length before = c.loop-before.invariant.0 in
    let is : k ≡ at + 1 = omega (arith, few, len, some, enough, length-set places at p) in
    let inside : at < length places = omega (arith, len, some, enough) in
    let turn = turned places new at k p inside is c.if-breaks.ensures.kept in
    let front : take k (set places at p) ≡ take at before ++ p ∷ [] = turn.0 ∙ ap (λ (w : List ℕ). w ++ p ∷ []) c.loop-before.invariant.1 in
    let here = subst (λ (w : List ℕ). IsFirstFrom x body w others (drop k new)) front (c.if-breaks.ensures.first refl) in
    let range : in_range x choice p ≡ true = ap (λ (y : List Effect). in_range y choice p) (sym c.effects.ensures.same) ∙ sym c.is_in_range.ensures ∙ c.if-not-is_in_range.false in
    let first = first_here x body (take at before) choice others p (drop k new) range (λ m less r. c.loop-before.invariant.2 m (omega (arith, less)) r) here in
    let whole : vars ≡ choice ∷ others = opened vars choice some ∙ ap (λ (v : OpChoice). v ∷ others) (sym c.choice-item.is) in
    subst (λ (vs : List OpChoice). IsFirstFrom x body (take at before) vs (drop at new)) (sym whole)
    (subst (λ (ps : List ℕ). IsFirstFrom x body (take at before) (choice ∷ others) ps) (sym turn.2) first)

pub loop-before-preserved : goal.loop-before-preserved
loop-before-preserved t c =
    let x = c.args.execution.now in
    let body = λ (ps : List ℕ). statement_true x (inside_of x c.args.current) ps (cur_of c.args.current) (statement_of c.args.body.now) in
    let vars = c.args.vars.now in
    let before = c.args.places.now in
    let places = c.loop-before.places in
    let choice = c.choice-item.result in
    let others = take (length vars - 1) (drop 1 vars) in
    let at = length before - length vars in
    let p = c.loop-before.before + 1 in
    let new = c.breaks.new.places in
    let k = length (set places at p) - length others in
    let some = c.in-len1-up.len_at_least in
    let enough = c.requires.few in
    let few : length others ≡ length vars - 1 = omega (arith, length-take (length vars - 1) (drop 1 vars), length-drop 1 vars) in
    let len : length places ≡ length before = c.loop-before.invariant.0 in
    let is : k ≡ at + 1 = omega (arith, few, len, some, enough, length-set places at p) in
    let inside : at < length places = omega (arith, len, some, enough) in
    let turn = turned places new at k p inside is c.if-breaks.ensures.kept in
    let front : take k (set places at p) ≡ take at before ++ p ∷ [] = turn.0 ∙ ap (λ (w : List ℕ). w ++ p ∷ []) c.loop-before.invariant.1 in
    let here : AllTrueFrom x body (take at before ++ p ∷ []) others = subst (λ (w : List ℕ). AllTrueFrom x body w others) front (c.if-breaks.ensures.holds refl) in
    let same = c.if-breaks.ensures.length in (
      omega (arith, same, len, length-set places at p),
      turn.1 ∙ c.loop-before.invariant.1,
      λ m low r. elim (cases_lt m p) [
        | inl less ↦ c.loop-before.invariant.2 m (omega (arith, less)) r
        | inr le ↦ let equal : p ≡ m = omega (arith, low, le) in subst (λ (n : ℕ). AllTrueFrom x body (take at before ++ n ∷ []) others) equal here
      ],
    )

pub returns-clause-holds : goal.returns-clause-holds
returns-clause-holds t c = λ _.
    let x = c.args.execution.now in
    let body = λ (ps : List ℕ). statement_true x (inside_of x c.args.current) ps (cur_of c.args.current) (statement_of c.args.body.now) in
    let vars = c.args.vars.now in
    let before = c.args.places.now in
    let choice = c.choice-item.result in
    let others = take (length vars - 1) (drop 1 vars) in
    let front = take (length before - length vars) before in
    let past = c.loop-before-test.false in
    let count = c.len-before-end.ensures.length in
    let all = all_places x body front choice others (λ p r. let within = (place_within x choice p r).1 in c.loop-before.invariant.2 p (omega (arith, within, past, count)) r) in
    let whole : vars ≡ choice ∷ others = opened vars choice c.in-len1-up.len_at_least ∙ ap (λ (v : OpChoice). v ∷ others) (sym c.choice-item.is) in
    subst (λ (vs : List OpChoice). AllTrueFrom x body front vs) (sym whole) all
