-- The truth of formulas in an execution: at an effect, and for a begun transaction. It is over the plain effects of ground
-- problems; that of `ql_formula` is over the store's effects, and the law of `ql_implication` joins the two.
use Rattle.std.specs.Prelude.{ℕ, ◌≡◌, Bool, true, false, not, ◌&&◌, ◌||◌, ◌==◌, List, [], ◌∷◌, map, slice_index}
use Rattle.std.specs.List.{list_all, list_any}
use Rattle.ql_lang.specs.Trees.{Relation, Basic, Union, Intersection}
use Rattle.ql_lang.specs.Formulas.{Statement, Always, Related, BothOf, IfThen, InOneTxn, Resolved}
use Rattle.ql_lang.specs.Formulas as formula
use Rattle.ql_lang.specs.declared.relation.RelName.{RelName}
use Rattle.ql_lang.specs.declared.relation.RelName.TheVariants.{Vis, So, Soo, SameObj, Eq, Hb, Hbo}
use Rattle.ql_lang.specs.declared.formula.OpChoice.{OpChoice}
use Rattle.ql_lang.specs.declared.formula.OpChoice.TheVariants.{Any, OneOf}
use Rattle.ql_lang.specs.declared.formula.Term.{Term}
use Rattle.ql_lang.specs.declared.formula.Term.TheVariants.{Cur, Var}
use Rattle.ql_ground.specs.Effects.{Effect, effect_at}
use Rattle.ql_ground.specs.Relations.{one, so, vis, sameobj, soo, sametxn, hbo, hb, inside}

abbrev pub named : List Effect → RelName → ℕ → ℕ → Bool
named x Vis a b = vis x a b
named x So a b = so x a b
named x Soo a b = soo x a b
named x SameObj a b = sameobj x a b
named x Eq a b = a == b
named x Hb a b = hb x a b
named x Hbo a b = hbo x a b

abbrev pub related : List Effect → Relation → ℕ → ℕ → Bool
related x (Basic name at) a b = named x name a b
related x (Union r s) a b = related x r a b || related x s a b
related x (Intersection r s) a b = related x r a b && related x s a b

-- the members are current; the others aren't, and are in one transaction
abbrev pub in_one_txn : List Effect → (ℕ → Bool) → List ℕ → List ℕ → Bool
in_one_txn x current members [] = list_all current members
in_one_txn x current members (c ∷ others) =
    list_all current members && (list_all (λ d. not (current d)) (c ∷ others) && list_all (sametxn x c) (c ∷ others))

-- the effect of a term: the current one, or the one chosen for its variable
abbrev pub place_of : List ℕ → ℕ → Term → ℕ
place_of places cur Cur = cur
place_of places cur (Var v) = slice_index places v

abbrev pub statement_true : List Effect → (ℕ → Bool) → List ℕ → ℕ → Statement → Bool
statement_true x current places cur Always = true
statement_true x current places cur (Related r t u) = related x r (place_of places cur t) (place_of places cur u)
statement_true x current places cur (BothOf p q) = statement_true x current places cur p && statement_true x current places cur q
statement_true x current places cur (formula.OneOf p q) = statement_true x current places cur p || statement_true x current places cur q
statement_true x current places cur (IfThen p q) = not (statement_true x current places cur p) || statement_true x current places cur q
statement_true x current places cur (InOneTxn members others) = in_one_txn x current (map (place_of places cur) members) (map (place_of places cur) others)

-- the effect is one of those over which the variable ranges
abbrev pub in_range : List Effect → OpChoice → ℕ → Bool
in_range x Any p = one (λ e. true) (effect_at x p)
in_range x (OneOf ops) p = one (λ e. list_any (λ o. e.op == o) ops) (effect_at x p)

-- the number of an effect for each variable, one over which it ranges
abbrev pub Chosen : List Effect → List OpChoice → List ℕ → Type 0
Chosen x [] [] = Unit {0}
Chosen x (choice ∷ vars) (p ∷ places) = (in_range x choice p ≡ true) × Chosen x vars places
Chosen x [] (p ∷ places) = ⊥
Chosen x (choice ∷ vars) [] = ⊥

-- the formula holds at the effect: for every choice of effects its body is true
abbrev pub Holds : List Effect → Resolved → ℕ → Type 0
Holds x f cur = (places : List ℕ) → Chosen x f.vars places → statement_true x (λ a. false) places cur f.body ≡ true

-- the formula holds of the begun transaction
abbrev pub HoldsTxn : List Effect → Resolved → ℕ → Type 0
HoldsTxn x f run = (places : List ℕ) → Chosen x f.vars places → statement_true x (inside x run) places 0 f.body ≡ true
