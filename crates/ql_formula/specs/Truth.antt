-- The truth of contracts in an execution: at an effect, and of a begun transaction.
-- From Sivaramakrishnan, Kaki and Jagannathan, 'Declarative Programming over Eventually Consistent Data Stores'
-- (PLDI 2015): that a contract quantifies universally over effects and refers to one current effect, its relations, and
-- their unions and intersections. Ours: the order of the choices of effects for the variables, the exact meaning of
-- `txn`, and that an effect outside any transaction is a transaction by itself.
use Rattle.std.specs.Prelude.{◌≡◌, ◌⊎◌, ℕ, ◌<◌, Bool, true, false, not, ◌&&◌, ◌||◌, nat_eq, List, [], ◌∷◌, slice_index}
use Rattle.std.specs.List.{list_all}
use Rattle.ql_base.specs.IdLists.{has_id}
use Rattle.ql_lang.specs.Trees.{Relation, Basic, Union, Intersection}
use Rattle.ql_lang.specs.Formulas.{Statement, Always, Related, BothOf, IfThen, InOneTxn, Resolved}
use Rattle.ql_lang.specs.Formulas as formula
use Rattle.ql_lang.specs.declared.relation.RelName.{RelName}
use Rattle.ql_lang.specs.declared.relation.RelName.TheVariants.{Vis, So, Soo, SameObj, Eq, Hb, Hbo}
use Rattle.ql_lang.specs.declared.formula.OpChoice.{OpChoice}
use Rattle.ql_lang.specs.declared.formula.OpChoice.TheVariants.{Any, OneOf}
use Rattle.ql_lang.specs.declared.formula.Term.{Term}
use Rattle.ql_lang.specs.declared.formula.Term.TheVariants.{Cur, Var}
use Rattle.ql_exec.specs.declared.effect.Effect.{Effect}
use Rattle.ql_exec.specs.Effects.{effect_at, one}
use Rattle.ql_exec.specs.Relations.{so, vis, sameobj, soo, sametxn, inside, hbo, hb}

-- ---- relations

abbrev pub named : List Effect → RelName → ℕ → ℕ → Bool
named x Vis a b = vis x a b
named x So a b = so x a b
named x Soo a b = soo x a b
named x SameObj a b = sameobj x a b
named x Eq a b = nat_eq a b
named x Hb a b = hb x a b
named x Hbo a b = hbo x a b

abbrev pub related : List Effect → Relation → ℕ → ℕ → Bool
related x (Basic name at) a b = named x name a b
related x (Union r s) a b = related x r a b || related x s a b
related x (Intersection r s) a b = related x r a b && related x s a b

-- ---- a body at a choice of effects

-- the effect of a term: the current one, or the one chosen for its variable
abbrev pub place_of : List ℕ → ℕ → Term → ℕ
place_of places cur Cur = cur
place_of places cur (Var v) = slice_index places v

-- all are in one transaction
abbrev pub together : List Effect → (Term → ℕ) → List Term → Bool
together x place [] = true
together x place (t ∷ others) = list_all (λ u. sametxn x (place t) (place u)) (t ∷ others)

-- the members are in the current transaction; the others aren't, and are together in one
abbrev pub in_one_txn : List Effect → (ℕ → Bool) → (Term → ℕ) → List Term → List Term → Bool
in_one_txn x current place members others =
    list_all (λ t. current (place t)) members && (list_all (λ t. not (current (place t))) others && together x place others)

-- what a formula says, by cases; `current` is true of the effects of the current transaction
abbrev pub statement_true : List Effect → (ℕ → Bool) → List ℕ → ℕ → Statement → Bool
statement_true x current places cur Always = true
statement_true x current places cur (Related r t u) = related x r (place_of places cur t) (place_of places cur u)
statement_true x current places cur (BothOf p q) = statement_true x current places cur p && statement_true x current places cur q
statement_true x current places cur (formula.OneOf p q) = statement_true x current places cur p || statement_true x current places cur q
statement_true x current places cur (IfThen p q) = not (statement_true x current places cur p) || statement_true x current places cur q
statement_true x current places cur (InOneTxn members others) = in_one_txn x current (place_of places cur) members others

-- ---- choices of effects

-- an effect is one of those over which the variable ranges
abbrev pub in_range : List Effect → OpChoice → ℕ → Bool
in_range x Any p = one (λ e. true) (effect_at x p)
in_range x (OneOf ops) p = one (λ e. has_id ops e.op.0) (effect_at x p)

-- an effect for each variable, one over which it ranges
abbrev pub Chosen : List Effect → List OpChoice → List ℕ → Type 0
Chosen x [] [] = Unit {0}
Chosen x (choice ∷ vars) (p ∷ places) = (in_range x choice p ≡ true) × Chosen x vars places
Chosen x [] (p ∷ places) = ⊥
Chosen x (choice ∷ vars) [] = ⊥

-- one choice comes before another: the first variable counts most
abbrev pub IsBefore : List ℕ → List ℕ → Type 0
IsBefore [] places = ⊥
IsBefore (q ∷ others) [] = ⊥
IsBefore (q ∷ others) (p ∷ places) = (q < p) ⊎ ((q ≡ p) × IsBefore others places)

-- ---- truth

-- at every choice of effects the body is true
abbrev pub HoldsFor : List Effect → (ℕ → Bool) → ℕ → Resolved → Type 0
HoldsFor x current cur f = (places : List ℕ) → Chosen x f.vars places → statement_true x current places cur f.body ≡ true

-- the first choice at which the body is false
pub record IsFirstFalse (x : List Effect) (current : ℕ → Bool) (cur : ℕ) (f : Resolved) (places : List ℕ) : Type 0 where
  pub chosen : Chosen x f.vars places
  pub is_false : statement_true x current places cur f.body ≡ false
  pub first : (others : List ℕ) → Chosen x f.vars others → IsBefore others places → statement_true x current others cur f.body ≡ true

-- no effect is inside a transaction to which an operation's contract could refer
abbrev pub none_inside : ℕ → Bool
none_inside a = false

-- the formula holds at the effect
abbrev pub Holds : List Effect → Resolved → ℕ → Type 0
Holds x f cur = HoldsFor x none_inside cur f

-- the formula holds of the begun transaction
abbrev pub HoldsTxn : List Effect → Resolved → ℕ → Type 0
HoldsTxn x f run = HoldsFor x (inside x run) 0 f
