-- The circuit of a contract has no more gates than the contract has nodes, so those of a source's program are small.
use Rattle.std.proofs.Common.{◌≡◌, ℕ, zero, suc, ◌+◌, ◌≤◌, List, [], ◌∷◌, ◌++◌, Some, length, map, refl, subst, arith, length-append}
use Rattle.std.specs.Prelude.{slice_get}
use Rattle.std.specs.List.{AllByRecursion}
use Rattle.std.proofs.lemmas.List.{length-map}
use Rattle.ql_base.specs.declared.limits.TheConstants.{MAX_BODY_VARIABLES, MAX_NODES}
use Rattle.ql_atoms.specs.declared.atoms.Atom.{Atom}
use Rattle.ql_atoms.specs.declared.atoms.Atom.TheVariants.{Pair, Current}
use Rattle.ql_atoms.specs.declared.atoms.PairKind.TheVariants.{SameTxn}
use Rattle.ql_atoms.specs.Atoms.{Size}
use Rattle.ql_cnf.specs.Circuits.{Circuit, Both, gates}
use Rattle.ql_lang.specs.declared.operation.OpDecl.{OpDecl}
use Rattle.ql_lang.specs.declared.program.Program.{Program}
use Rattle.ql_lang.specs.declared.program.TypeDecl.{TypeDecl}
use Rattle.ql_lang.specs.declared.program.TxnDecl.{TxnDecl}
use Rattle.ql_lang.specs.declared.relation.RelName.TheVariants.{Vis, So, Soo, SameObj, Eq, Hb, Hbo}
use Rattle.ql_lang.specs.Formulas.{Resolved, Statement}
use Rattle.ql_lang.specs.Expressions.{Expression}
use Rattle.ql_lang.specs.Programs.{operation_of, replicated_of, transaction_of, source_of}
use Rattle.ql_lang.specs.Trees.{Relation, Basic, Union, Intersection, Proposition, Truth, Application, Conjunction, Disjunction, Implication, InTxn, Sentence, sentence_of}
use Rattle.ql_typing.specs.Operations.{all_ops, op_contract, op_words, txn_contract}
use Rattle.ql_typing.specs.ContractFaults.{var_names}
use Rattle.ql_typing.specs.Faults.{names_met}
use Rattle.ql_typing.specs.Resolved.{statement_in, resolved_in, term_of}
use Rattle.ql_ground.specs.Bodies.{holds, constant_of, relation_circuit, grouped, all_of, other_circuits, txn_circuit, body_circuit}
use Rattle.ql_ground.specs.SmallBodies.{IsBodyWithin, AreBodiesWithin}
use Rattle.ql_text_laws.specs.Printed.{relation_nodes, prop_nodes}
use Rattle.ql_text_laws.specs.PrintedPrograms.{EachOfOperation, EachOfType, EachOfTransaction, HasFewNodes, expression_nodes}

relation_small : (s : Size) (r : Relation) (i j : ℕ) → gates (relation_circuit s r i j) ≤ relation_nodes r
relation_small s (Basic Soo at) i j = omega arith
relation_small s (Basic Vis at) i j = omega arith
relation_small s (Basic So at) i j = omega arith
relation_small s (Basic SameObj at) i j = omega arith
relation_small s (Basic Eq at) i j = omega arith
relation_small s (Basic Hb at) i j = omega arith
relation_small s (Basic Hbo at) i j = omega arith
relation_small s (Union p q) i j = omega (arith, relation_small s p i j, relation_small s q i j)
relation_small s (Intersection p q) i j = omega (arith, relation_small s p i j, relation_small s q i j)

-- the circuits are inputs
abbrev AreInputs : List Circuit → Type 0
AreInputs gs = AllByRecursion (λ g. gates g ≡ 0) gs

inputs_append : (gs hs : List Circuit) → AreInputs gs → AreInputs hs → AreInputs (gs ++ hs)
inputs_append [] hs a b = b
inputs_append (g ∷ gs) hs a b = (a.0, inputs_append gs hs a.1 b)

atoms_hold : (s : Size) (atom : ℕ → Atom) (xs : List ℕ) → AreInputs (map (λ x. holds s (atom x)) xs)
atoms_hold s atom [] = tt
atoms_hold s atom (x ∷ xs) = (refl, atoms_hold s atom xs)

others_hold : (s : Size) (xs : List ℕ) → AreInputs (other_circuits s xs)
others_hold s [] = tt
others_hold s (x ∷ xs) = (refl, atoms_hold s (λ y. Pair SameTxn x y) xs)

count_others : (s : Size) (xs : List ℕ) → length (other_circuits s xs) ≡ length xs
count_others s [] = refl
count_others s (x ∷ xs) = omega (arith, length-map xs (λ y. holds s (Pair SameTxn x y)))

grouped_gates : (g : Circuit) (hs : List Circuit) → AreInputs hs → gates (grouped g hs) ≡ gates g + length hs
grouped_gates g [] a = omega arith
grouped_gates g (h ∷ hs) a = omega (arith, grouped_gates (Both g h) hs a.1, a.0)

inputs_small : (gs : List Circuit) → AreInputs gs → gates (all_of gs) ≤ 1 + length gs
inputs_small [] a = omega arith
inputs_small (g ∷ gs) a = omega (arith, grouped_gates g gs a.1, a.0)

txn_small : (s : Size) (members others : List ℕ) → gates (txn_circuit s members others) ≤ 1 + length members + length others
txn_small s members others =
    let current : List Circuit = map (λ m. holds s (Current m)) members in
    let inputs = inputs_append current (other_circuits s others) (atoms_hold s (λ m. Current m) members) (others_hold s others) in
    omega (arith, inputs_small (current ++ other_circuits s others) inputs, length-append current (other_circuits s others), length-map members (λ m. holds s (Current m)), count_others s others)

body_small : (s : Size) (vars : List (List ℕ)) (p : Proposition) → gates (body_circuit s (statement_in vars p)) ≤ prop_nodes p
unfolding statement_in
body_small s vars Truth = omega arith
body_small s vars (Application r x y) = omega (arith, relation_small s r (constant_of s (term_of vars x)) (constant_of s (term_of vars y)))
body_small s vars (Conjunction p q) = omega (arith, body_small s vars p, body_small s vars q)
body_small s vars (Disjunction p q) = omega (arith, body_small s vars p, body_small s vars q)
body_small s vars (Implication p q) = omega (arith, body_small s vars p, body_small s vars q)
body_small s vars (InTxn at members others) =
    let ms = map (term_of vars) members in
    let ns = map (term_of vars) others in
    omega (arith, txn_small s (map (constant_of s) ms) (map (constant_of s) ns), length-map ms (constant_of s), length-map ns (constant_of s), length-map members (term_of vars), length-map others (term_of vars))

-- at most as many gates as a contract may have nodes
abbrev IsFew : Statement → Type 0
IsFew body = IsBodyWithin MAX_BODY_VARIABLES body

abbrev HasFew : Sentence → Type 0
HasFew c = prop_nodes c.body ≤ MAX_NODES

sentence_small : (ops : List (List ℕ)) (c : Sentence) → HasFew c → IsFew (resolved_in ops c).body
unfolding resolved_in
sentence_small ops c few = λ s. omega (arith, body_small s (names_met [] (var_names c.vars)) c.body, few)

-- each contract of a list of operations, of types and of transactions

ops_small : (words : List (List ℕ)) (os : List OpDecl) → AllByRecursion (λ (o : OpDecl). HasFew (sentence_of o.contract)) os → (k : ℕ) (f : Resolved) → slice_get (map (op_contract words) os) k ≡ Some f → IsFew f.body
ops_small words [] few k f h = absurd (cc)
ops_small words (o ∷ os) few zero f h =
    let same : op_contract words o ≡ f = cc in
    subst (λ (g : Resolved). IsFew g.body) same (sentence_small words (sentence_of o.contract) few.0)
ops_small words (o ∷ os) few (suc k) f h = ops_small words os few.1 k f h

txns_small : (words : List (List ℕ)) (ds : List TxnDecl) → AllByRecursion (λ (d : TxnDecl). HasFew (sentence_of d.contract)) ds → (k : ℕ) (f : Resolved) → slice_get (map (txn_contract words) ds) k ≡ Some f → IsFew f.body
txns_small words [] few k f h = absurd (cc)
txns_small words (d ∷ ds) few zero f h =
    let same : txn_contract words d ≡ f = cc in
    subst (λ (g : Resolved). IsFew g.body) same (sentence_small words (sentence_of d.contract) few.0)
txns_small words (d ∷ ds) few (suc k) f h = txns_small words ds few.1 k f h

module _ (OfExpression : Expression → Type 0) where
  ops_before : (os more : List OpDecl) → AllByRecursion (EachOfOperation HasFew OfExpression) (map operation_of os) → AllByRecursion (λ (o : OpDecl). HasFew (sentence_of o.contract)) more → AllByRecursion (λ (o : OpDecl). HasFew (sentence_of o.contract)) (os ++ more)
  ops_before [] more few rest = rest
  ops_before (o ∷ os) more few rest = (few.0.0, ops_before os more few.1 rest)

  ops_few : (types : List TypeDecl) → AllByRecursion (EachOfType HasFew OfExpression) (map replicated_of types) → AllByRecursion (λ (o : OpDecl). HasFew (sentence_of o.contract)) (all_ops types)
  ops_few [] few = tt
  ops_few (t ∷ types) few = ops_before t.ops (all_ops types) few.0 (ops_few types few.1)

  txns_few : (ds : List TxnDecl) → AllByRecursion (EachOfTransaction HasFew OfExpression) (map transaction_of ds) → AllByRecursion (λ (d : TxnDecl). HasFew (sentence_of d.contract)) ds
  txns_few [] few = tt
  txns_few (d ∷ ds) few = (few.0, txns_few ds few.1)

pub program_few : (p : Program) → HasFewNodes (source_of p) → AreBodiesWithin MAX_BODY_VARIABLES p
program_few p few = record {
  ops = ops_small (op_words p.types) (all_ops p.types) (ops_few (λ e. expression_nodes e ≤ MAX_NODES) p.types few.0);
  txns = txns_small (op_words p.types) p.txns (txns_few (λ e. expression_nodes e ≤ MAX_NODES) p.txns few.1);
}
