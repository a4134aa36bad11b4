-- Parts of the ground clauses, which the code makes one after another.
use Rattle.std.specs.Prelude.{ℕ, Bool, true, false, ◌++◌, ◌<◌, ◌==◌, nat_lt, if◌then◌else◌, List, [], ◌∷◌, map, slice_index}
use Rattle.std.specs.List.{All}
use Rattle.ql_atoms.specs.declared.atoms.Atom.{Atom}
use Rattle.ql_atoms.specs.declared.atoms.Atom.TheVariants.{Pair, Current, Is}
use Rattle.ql_atoms.specs.declared.atoms.PairKind.TheVariants.{SameObj, SameTxn}
use Rattle.ql_atoms.specs.Atoms.{Size, number_of}
use Rattle.ql_cnf.specs.declared.lit.Lit.{Lit}
use Rattle.ql_ground.specs.declared.rule.Rule as declared
use Rattle.ql_ground.specs.declared.axiom.Axiom.{Axiom}
use Rattle.ql_ground.specs.declared.axiom.Axiom.TheVariants.{Reflexive, Symmetric, Transitive, Irreflexive, Within, AlikeLeft, AlikeRight, FromOne, ToOne, OfSession, Transaction}
use Rattle.ql_ground.specs.declared.axiom.TransactionAxiom.{TransactionAxiom}
use Rattle.ql_ground.specs.declared.axiom.TransactionAxiom.TheVariants.{AlikeCurrent, OneSession, Contiguous, InOne, Whole}
use Rattle.ql_ground.specs.Rules.{Rule, reflexive, symmetric, transitive, irreflexive, within, alike_left, alike_right, from_one_rule, to_one_rule, of_session_rule, one_session_rule, contiguous_rule, in_one_rule, whole_rule, equality_rules, session_rules, object_rules, object_order_rules, order_rules, alike_current, transaction_rules, level_rule, txn_level_rules}
use Rattle.ql_lang.specs.declared.formula.Term.{Term}
use Rattle.ql_lang.specs.Formulas.{Statement, Always, Related, BothOf, OneOf, IfThen, InOneTxn}
use Rattle.ql_lang.specs.declared.formula.OpChoice.{OpChoice}
use Rattle.ql_levels.specs.declared.level.Level.{Level}
use Rattle.ql_levels.specs.declared.level.TxnLevel.{TxnLevel}
use Rattle.ql_ground.specs.Bodies.{constant_of, current_effect}
use Rattle.ql_base.specs.Ranges.{upto}
use Rattle.ql_base.specs.Ids.{op}
use Rattle.ql_ground.specs.Ground.{at, implication, instances, all_instances, alike_operations, axioms, all_variable_operations}

-- the literal of an atom, or of its negation
abbrev pub literal_of : Size → Bool → Atom → Lit
literal_of s positive a = record { var = number_of s a; positive = positive }

-- the operations of a rule's atom are in the program
abbrev pub IsRuleAtom : Size → Atom → Type 0
IsRuleAtom s (Pair kind i j) = Unit {0}
IsRuleAtom s (Current i) = Unit {0}
IsRuleAtom s (Is o i) = o.0 < s.operations

-- a rule of the code
abbrev pub rule_of : declared.Rule → Rule
rule_of r = record { places = r.places; hypotheses = r.hypotheses.now; conclusions = r.conclusions.now }

-- an axiom of the code
abbrev pub transaction_axiom_of : TransactionAxiom → Rule
transaction_axiom_of AlikeCurrent = alike_current
transaction_axiom_of OneSession = one_session_rule
transaction_axiom_of Contiguous = contiguous_rule
transaction_axiom_of InOne = in_one_rule
transaction_axiom_of Whole = whole_rule

abbrev pub axiom_of : Axiom → Rule
axiom_of (Reflexive r) = reflexive r
axiom_of (Symmetric r) = symmetric r
axiom_of (Transitive r) = transitive r
axiom_of (Irreflexive r) = irreflexive r
axiom_of (Within r q) = within r q
axiom_of (AlikeLeft r) = alike_left r
axiom_of (AlikeRight r) = alike_right r
axiom_of FromOne = from_one_rule
axiom_of ToOne = to_one_rule
axiom_of OfSession = of_session_rule
axiom_of (Transaction name) = transaction_axiom_of name

-- the clause of a rule at constants
abbrev pub instance : Size → Rule → List ℕ → List (List Lit)
instance s r constants = implication s (map (at s constants) r.hypotheses) (map (at s constants) r.conclusions) ∷ []

-- an effect has an operation
abbrev pub some_operation_of : Size → ℕ → List (List Lit)
some_operation_of s i = implication s [] (upto s.operations (λ o. Is (op o) i ∷ [])) ∷ []

-- an effect of an operation isn't of another, a later one
abbrev pub not_both : Size → ℕ → ℕ → ℕ → List (List Lit)
not_both s i o p = if nat_lt o p then implication s (Is (op o) i ∷ Is (op p) i ∷ []) [] ∷ [] else []

-- the same of each later one
abbrev pub not_another : Size → ℕ → ℕ → List (List Lit)
not_another s i o = upto s.operations (λ p. not_both s i o p)

-- the same for each of its operations
abbrev pub one_operation_of : Size → ℕ → List (List Lit)
one_operation_of s i = upto s.operations (λ o. not_another s i o)

-- two effects on one object aren't of operations of two types
abbrev pub other_type : List ℕ → Size → ℕ → ℕ → ℕ → ℕ → List (List Lit)
other_type types s i j o p =
    if slice_index types o == slice_index types p then [] else implication s (Pair SameObj i j ∷ Is (op o) i ∷ Is (op p) j ∷ []) [] ∷ []

-- the same for each operation of the second
abbrev pub other_types : List ℕ → Size → ℕ → ℕ → ℕ → List (List Lit)
other_types types s i j o = upto s.operations (λ p. other_type types s i j o p)

-- the same for each operation of the first
abbrev pub one_type_between : List ℕ → Size → ℕ → ℕ → List (List Lit)
one_type_between types s i j = upto s.operations (λ o. other_types types s i j o)

-- and for each second effect
abbrev pub one_type_from : List ℕ → Size → ℕ → List (List Lit)
one_type_from types s i = upto s.constants (λ j. one_type_between types s i j)

-- the axioms on session order, objects and happens-before
abbrev pub relation_axioms : Size → List (List Lit)
relation_axioms s = all_instances s session_rules ++ all_instances s object_rules ++ all_instances s object_order_rules ++ all_instances s order_rules

-- all groups of a goal but the body's, over a size
abbrev pub op_groups : List ℕ → ℕ → Level → List OpChoice → Size → List (List Lit)
op_groups types o level vars s =
    all_instances s equality_rules ++ alike_operations s
    ++ axioms types s
    ++ instances s (level_rule level)
    ++ implication s [] (Is (op o) (current_effect s) ∷ []) ∷ []
    ++ all_variable_operations s 0 vars

abbrev pub txn_groups : List ℕ → TxnLevel → List OpChoice → Size → List (List Lit)
txn_groups types level vars s =
    all_instances s equality_rules ++ alike_operations s ++ instances s alike_current
    ++ axioms types s ++ all_instances s transaction_rules
    ++ all_instances s (txn_level_rules level)
    ++ all_variable_operations s 0 vars

-- a term stands for a constant
abbrev pub IsConstant : Size → Term → Type 0
IsConstant s t = constant_of s t < s.constants

-- each term of a body does
abbrev pub OverConstants : Size → Statement → Type 0
OverConstants s Always = Unit {0}
OverConstants s (Related r x y) = IsConstant s x × IsConstant s y
OverConstants s (BothOf p q) = OverConstants s p × OverConstants s q
OverConstants s (OneOf p q) = OverConstants s p × OverConstants s q
OverConstants s (IfThen p q) = OverConstants s p × OverConstants s q
OverConstants s (InOneTxn members others) = All (IsConstant s) members × All (IsConstant s) others

-- these are current effects
abbrev pub member_literals : Size → List ℕ → List Lit
member_literals s members = map (λ m. literal_of s true (Current m)) members

-- these are in the transaction of c
abbrev pub same_literals : Size → ℕ → List ℕ → List Lit
same_literals s c others = map (λ d. literal_of s true (Pair SameTxn c d)) others

-- the first isn't a current effect, and the others are in its transaction
abbrev pub other_literals : Size → List ℕ → List Lit
other_literals s [] = []
other_literals s (c ∷ others) = literal_of s false (Current c) ∷ same_literals s c others
