-- The body of a formula over constants.
use Rattle.std.specs.Prelude.{ℕ, ◌-◌, List, [], ◌∷◌, ◌++◌, map}
use Rattle.ql_atoms.specs.declared.atoms.Atom.{Atom}
use Rattle.ql_atoms.specs.declared.atoms.Atom.TheVariants.{Pair, Current}
use Rattle.ql_atoms.specs.declared.atoms.PairKind.TheVariants.{SameTxn}
use Rattle.ql_atoms.specs.declared.atoms.PairKind.TheVariants as kind
use Rattle.ql_atoms.specs.Atoms.{Size, number_of}
use Rattle.ql_cnf.specs.Circuits.{Circuit, Input, Both, yes, no}
use Rattle.ql_cnf.specs.Circuits as circuit
use Rattle.ql_lang.specs.Trees.{Relation, Basic, Union, Intersection}
use Rattle.ql_lang.specs.Formulas.{Statement, Always, Related, BothOf, OneOf, IfThen, InOneTxn}
use Rattle.ql_lang.specs.declared.relation.RelName.{RelName}
use Rattle.ql_lang.specs.declared.relation.RelName.TheVariants.{Vis, So, Soo, SameObj, Eq, Hb, Hbo}
use Rattle.ql_lang.specs.declared.formula.Term.{Term}
use Rattle.ql_lang.specs.declared.formula.Term.TheVariants.{Cur, Var}

-- the constant of the current effect is the last
abbrev pub current_effect : Size → ℕ
current_effect s = s.constants - 1

abbrev pub constant_of : Size → Term → ℕ
constant_of s Cur = current_effect s
constant_of s (Var v) = v

abbrev pub holds : Size → Atom → Circuit
holds s a = Input (yes (number_of s a))

abbrev pub fails : Size → Atom → Circuit
fails s a = Input (no (number_of s a))

-- soo is session order on one object; each other relation has atoms of its own
abbrev pub named_circuit : Size → RelName → ℕ → ℕ → Circuit
named_circuit s Soo i j = Both (holds s (Pair kind.So i j)) (holds s (Pair kind.SameObj i j))
named_circuit s Vis i j = holds s (Pair kind.Vis i j)
named_circuit s So i j = holds s (Pair kind.So i j)
named_circuit s SameObj i j = holds s (Pair kind.SameObj i j)
named_circuit s Eq i j = holds s (Pair kind.Eq i j)
named_circuit s Hb i j = holds s (Pair kind.Hb i j)
named_circuit s Hbo i j = holds s (Pair kind.Hbo i j)

abbrev pub relation_circuit : Size → Relation → ℕ → ℕ → Circuit
relation_circuit s (Basic name at) i j = named_circuit s name i j
relation_circuit s (Union p q) i j = circuit.Either (relation_circuit s p i j) (relation_circuit s q i j)
relation_circuit s (Intersection p q) i j = Both (relation_circuit s p i j) (relation_circuit s q i j)

-- all of these, grouped to the left
abbrev pub grouped : Circuit → List Circuit → Circuit
grouped g [] = g
grouped g (h ∷ more) = grouped (Both g h) more

abbrev pub all_of : List Circuit → Circuit
all_of [] = circuit.Always
all_of (g ∷ more) = grouped g more

-- effects of one other transaction: the first isn't current, and the others are in its transaction
abbrev pub other_circuits : Size → List ℕ → List Circuit
other_circuits s [] = []
other_circuits s (c ∷ more) = fails s (Current c) ∷ map (λ d. holds s (Pair SameTxn c d)) more

abbrev pub txn_circuit : Size → List ℕ → List ℕ → Circuit
txn_circuit s members others = all_of (map (λ m. holds s (Current m)) members ++ other_circuits s others)

abbrev pub body_circuit : Size → Statement → Circuit
body_circuit s Always = circuit.Always
body_circuit s (Related r x y) = relation_circuit s r (constant_of s x) (constant_of s y)
body_circuit s (BothOf p q) = Both (body_circuit s p) (body_circuit s q)
body_circuit s (OneOf p q) = circuit.Either (body_circuit s p) (body_circuit s q)
body_circuit s (IfThen p q) = circuit.IfThen (body_circuit s p) (body_circuit s q)
body_circuit s (InOneTxn members others) = txn_circuit s (map (constant_of s) members) (map (constant_of s) others)
