-- The relative ground problem of a target: its ground problem, and then clauses for what all effects keep.
use Rattle.std.specs.Prelude.{ℕ, Bool, if◌then◌else◌, List, [], ◌∷◌, ◌++◌}
use Rattle.ql_base.specs.Ids.{op}
use Rattle.ql_base.specs.Ranges.{upto}
use Rattle.ql_base.specs.declared.ids.OpId.{OpId}
use Rattle.ql_atoms.specs.Atoms.{Size}
use Rattle.ql_atoms.specs.declared.atoms.Atom.{Atom}
use Rattle.ql_atoms.specs.declared.atoms.Atom.TheVariants.{Pair, Current, Is}
use Rattle.ql_atoms.specs.declared.atoms.PairKind.TheVariants.{Eq, Hb, Hbo, SameObj, Vis}
use Rattle.ql_cnf.specs.Circuits.{clauses_of}
use Rattle.ql_cnf.specs.Satisfaction.{ClauseList}
use Rattle.ql_cnf.specs.declared.lit.Lit.{Lit}
use Rattle.ql_lang.specs.Formulas.{Resolved}
use Rattle.ql_levels.specs.declared.level.Level.{Level}
use Rattle.ql_levels.specs.declared.level.Level.TheVariants.{Eventual, Causal, Wide, Strong}
use Rattle.ql_levels.specs.Lists.{LevelLists}
use Rattle.ql_ground.specs.Ground.{implication, instances, op_problem, op_size, txn_problem, txn_size}
use Rattle.ql_ground.specs.Parts.{instance}
use Rattle.ql_ground.specs.Rules.{Rule, i, j, k, rule}
use Rattle.ql_relative.specs.Keeping.{op_level, txn_level}

-- The rules are over an effect i, of which they say what it sees. Whatever its level is, it sees what is before an
-- effect that it sees, on one object.
abbrev pub eventual_rule : Rule
eventual_rule = rule 3 (Pair Hbo j k ∷ Pair Vis k i ∷ []) (Pair Vis j i ∷ [])

-- where it is of a causal operation, it sees what is before it on the object
abbrev pub causal_rule : OpId → Rule
causal_rule o = rule 2 (Is o i ∷ Pair Hbo j i ∷ []) (Pair Vis j i ∷ [])

-- of a wide one, also what is before it by way of other objects
abbrev pub wide_rule : OpId → Rule
wide_rule o = rule 2 (Is o i ∷ Pair Hb j i ∷ Pair SameObj j i ∷ []) (Pair Vis j i ∷ [])

-- of a strong one, each other effect on the object, or is seen by it
abbrev pub strong_rule : OpId → Rule
strong_rule o = rule 2 (Is o i ∷ Pair SameObj j i ∷ []) (Pair Vis j i ∷ Pair Vis i j ∷ Pair Eq j i ∷ [])

-- the clauses of a rule of two variables for the first one's constant
abbrev pub instances_at : Size → ℕ → Rule → List (List Lit)
instances_at s first r = upto s.constants (λ second. instance s r (first ∷ second ∷ []))

-- what an effect of an operation keeps above the lowest level
abbrev pub kept_at : Size → ℕ → OpId → Level → List (List Lit)
kept_at s effect o Eventual = []
kept_at s effect o Causal = instances_at s effect (causal_rule o)
kept_at s effect o Wide = instances_at s effect (wide_rule o)
kept_at s effect o Strong = instances_at s effect (strong_rule o)

-- the same of each operation
abbrev pub kept_of : LevelLists → Size → ℕ → List (List Lit)
kept_of levels s effect = upto s.operations (λ o. kept_at s effect (op o) (op_level levels o))

-- what all effects keep
abbrev pub kept : LevelLists → Size → List (List Lit)
kept levels s = instances s eventual_rule ++ upto s.constants (kept_of levels s)

-- the operations that are used
abbrev pub used_atoms : (ℕ → Bool) → Size → ℕ → List Atom
used_atoms uses s effect = upto s.operations (λ o. if uses o then Is (op o) effect ∷ [] else [])

-- an effect of the current transaction is of an operation that it uses
abbrev pub used_at : (ℕ → Bool) → Size → ℕ → List (List Lit)
used_at uses s effect = implication s (Current effect ∷ []) (used_atoms uses s effect) ∷ []

abbrev pub used : (ℕ → Bool) → Size → List (List Lit)
used uses s = upto s.constants (used_at uses s)

-- the problem with more clauses at its end, over the same variables
abbrev pub with_lists : ClauseList → List (List Lit) → ClauseList
with_lists c lists = record { variables = c.variables; clauses = c.clauses ++ clauses_of lists }

-- the problem of an operation relative to levels, and of a declared transaction
abbrev pub op_relative : List ℕ → LevelLists → ℕ → Resolved → ClauseList
op_relative types levels o f = with_lists (op_problem types o (op_level levels o) f) (kept levels (op_size types f))

abbrev pub txn_relative : List ℕ → LevelLists → (ℕ → Bool) → ℕ → Resolved → ClauseList
txn_relative types levels uses d f =
    with_lists (txn_problem types (txn_level levels d) f) (kept levels (txn_size types f) ++ used uses (txn_size types f))
