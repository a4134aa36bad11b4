-- What is printed of a tree doesn't depend on its offsets.
use Rattle.std.proofs.Common.{◌≡◌, ℕ, List, [], ◌∷◌, ◌++◌, Option, Some, None, map, option_map, codes, refl, ap, ◌∙◌}
use Rattle.std.specs.List.{concat}
use Rattle.ql_lang.specs.declared.name.Name.{Name}
use Rattle.ql_lang.specs.declared.relation.RelName.TheVariants.{Vis, So, Soo, SameObj, Eq, Hb, Hbo}
use Rattle.ql_lang.specs.declared.contract.Point.{Point}
use Rattle.ql_lang.specs.declared.contract.Point.TheVariants.{CurAt, Named}
use Rattle.ql_lang.specs.declared.contract.Var.{Var}
use Rattle.ql_lang.specs.Trees.{Relation, Basic, Union, Intersection, Proposition, Truth, Application, Conjunction, Disjunction, Implication, InTxn, Sentence}
use Rattle.ql_lang.specs.Expressions as e
use Rattle.ql_lang.specs.Expressions.{Expression, Operands, NoMore, More}
use Rattle.ql_lang.specs.Programs.{Binding, Assignment, Emission, Operation, Replicated, Transaction, Source}
use Rattle.ql_lang.specs.Spelling.{listed, term_text, relation_text, application_text, is_joined, in_brackets, prop_text, word_of, operations_text, var_text, vars_text, contract_text}
use Rattle.ql_lang.specs.ExpressionSpelling.{expression_text, operand_texts, operator_word, is_compound}
use Rattle.ql_lang.specs.ProgramSpelling.{base_word, kind_text, field_text, param_text, binding_text, assignment_text, effect_text, signature_text, body_text, operation_text, replicated_text, transaction_text, program_text}
use Rattle.ql_text_laws.specs.Printed.{unplaced_name, unplaced_term, unplaced_relation, unplaced_prop, unplaced_var, unplaced}
use Rattle.ql_text_laws.specs.PrintedPrograms.{unplaced_expression, unplaced_operands, unplaced_field, unplaced_param, unplaced_binding, unplaced_assignment, unplaced_emission, unplaced_operation, unplaced_type, unplaced_transaction, unplaced_source}
use Rattle.ql_text_laws.proofs.PiecesRead.{same_parts}

module _ {T : Type 0} (bare : T → T) (text : T → List ℕ) (same : (t : T) → text (bare t) ≡ text t) where
  all_same : (ts : List T) → map text (map bare ts) ≡ map text ts
  all_same [] = refl
  all_same (t ∷ ts) = same_parts (λ (x : List ℕ) (xs : List (List ℕ)). x ∷ xs) (same t) (all_same ts)

-- contracts

term_same : (p : Point) → term_text (unplaced_term p) ≡ term_text p
term_same (CurAt n) = refl
term_same (Named name) = refl

relation_same : (r : Relation) → relation_text (unplaced_relation r) ≡ relation_text r
relation_same (Basic r n) = refl
relation_same (Union r s) = same_parts (λ x y. codes "[" ++ x ++ codes " | " ++ y ++ codes "]") (relation_same r) (relation_same s)
relation_same (Intersection r s) = same_parts (λ x y. codes "[" ++ x ++ codes " & " ++ y ++ codes "]") (relation_same r) (relation_same s)

applied : List ℕ → List ℕ → List ℕ → List ℕ
applied r a b = r ++ codes "(" ++ a ++ codes ", " ++ b ++ codes ")"

applied_same : (r : Relation) (a b : Point) → applied (relation_text (unplaced_relation r)) (term_text (unplaced_term a)) (term_text (unplaced_term b)) ≡ applied (relation_text r) (term_text a) (term_text b)
applied_same r a b = same_parts (λ x y. applied x y (term_text (unplaced_term b))) (relation_same r) (term_same a) ∙ ap (λ y. applied (relation_text r) (term_text a) y) (term_same b)

application_same : (r : Relation) (a b : Point) → application_text (unplaced_relation r) (unplaced_term a) (unplaced_term b) ≡ application_text r a b
unfolding applied
application_same (Basic Eq n) a b = same_parts (λ x y. x ++ codes " = " ++ y) (term_same a) (term_same b)
application_same (Basic Vis n) a b = applied_same (Basic Vis n) a b
application_same (Basic So n) a b = applied_same (Basic So n) a b
application_same (Basic Soo n) a b = applied_same (Basic Soo n) a b
application_same (Basic SameObj n) a b = applied_same (Basic SameObj n) a b
application_same (Basic Hb n) a b = applied_same (Basic Hb n) a b
application_same (Basic Hbo n) a b = applied_same (Basic Hbo n) a b
application_same (Union r s) a b = applied_same (Union r s) a b
application_same (Intersection r s) a b = applied_same (Intersection r s) a b

joined_same : (p : Proposition) → is_joined (unplaced_prop p) ≡ is_joined p
joined_same Truth = refl
joined_same (Application r a b) = refl
joined_same (Conjunction p q) = refl
joined_same (Disjunction p q) = refl
joined_same (Implication p q) = refl
joined_same (InTxn n ps qs) = refl

prop_same : (p : Proposition) → prop_text (unplaced_prop p) ≡ prop_text p
prop_same Truth = refl
prop_same (Application r a b) = application_same r a b
prop_same (Conjunction p q) =
    same_parts (λ x y. x ++ codes " /\\ " ++ y) (same_parts (λ b t. in_brackets b t) (joined_same p) (prop_same p)) (same_parts (λ b t. in_brackets b t) (joined_same q) (prop_same q))
prop_same (Disjunction p q) =
    same_parts (λ x y. x ++ codes " \\/ " ++ y) (same_parts (λ b t. in_brackets b t) (joined_same p) (prop_same p)) (same_parts (λ b t. in_brackets b t) (joined_same q) (prop_same q))
prop_same (Implication p q) =
    same_parts (λ x y. x ++ codes " => " ++ y) (same_parts (λ b t. in_brackets b t) (joined_same p) (prop_same p)) (same_parts (λ b t. in_brackets b t) (joined_same q) (prop_same q))
prop_same (InTxn n ps qs) =
    same_parts (λ (x : List (List ℕ)) (y : List (List ℕ)). codes "txn{" ++ listed (codes ", ") x ++ codes "}{" ++ listed (codes ", ") y ++ codes "}")
    (all_same unplaced_term term_text term_same ps) (all_same unplaced_term term_text term_same qs)

operations_same : (ops : List Name) → operations_text (map unplaced_name ops) ≡ operations_text ops
operations_same [] = refl
operations_same (op ∷ ops) = ap (λ (ts : List (List ℕ)). codes ": " ++ listed (codes " | ") ts) (all_same unplaced_name word_of (λ n. refl) (op ∷ ops))

var_same : (v : Var) → var_text (unplaced_var v) ≡ var_text v
var_same v = ap (λ t. v.name.word ++ t) (operations_same v.ops)

vars_same : (vs : List Var) → vars_text (map unplaced_var vs) ≡ vars_text vs
vars_same [] = refl
vars_same (v ∷ vs) = ap (λ (ts : List (List ℕ)). codes "forall " ++ listed (codes ", ") ts ++ codes ". ") (all_same unplaced_var var_text var_same (v ∷ vs))

pub contract_same : (s : Sentence) → contract_text (unplaced s) ≡ contract_text s
contract_same s = same_parts (λ (x : List ℕ) (y : List ℕ). x ++ y) (vars_same s.vars) (prop_same s.body)

-- expressions

compound_same : (x : Expression) → is_compound (unplaced_expression x) ≡ is_compound x
unfolding unplaced_expression
compound_same (e.Number n z) = refl
compound_same (e.Literal n t) = refl
compound_same (e.Truth n b) = refl
compound_same (e.Nothing n) = refl
compound_same (e.Reading n name) = refl
compound_same (e.Calling n name args) = refl
compound_same (e.Choosing n a b c) = refl
compound_same (e.Combining n op a b) = refl
compound_same (e.Denying n a) = refl
compound_same (e.Negating n a) = refl

mutual
  unfolding expression_text unplaced_expression

  expression_same : (x : Expression) → expression_text (unplaced_expression x) ≡ expression_text x
  expression_same (e.Number n z) = refl
  expression_same (e.Literal n t) = refl
  expression_same (e.Truth n b) = refl
  expression_same (e.Nothing n) = refl
  expression_same (e.Reading n name) = refl
  expression_same (e.Calling n name args) = ap (λ (ts : List (List ℕ)). name.word ++ codes "(" ++ listed (codes ", ") ts ++ codes ")") (operands_same args)
  expression_same (e.Choosing n a b c) =
      same_parts (λ x y. codes "if " ++ x ++ codes " then " ++ y ++ codes " else " ++ expression_text (unplaced_expression c)) (expression_same a) (expression_same b)
      ∙ ap (λ z. codes "if " ++ expression_text a ++ codes " then " ++ expression_text b ++ codes " else " ++ z) (expression_same c)
  expression_same (e.Combining n op a b) =
      same_parts (λ x y. x ++ codes " " ++ operator_word op ++ codes " " ++ y)
      (same_parts (λ c t. in_brackets c t) (compound_same a) (expression_same a)) (same_parts (λ c t. in_brackets c t) (compound_same b) (expression_same b))
  expression_same (e.Denying n a) = ap (λ t. codes "not " ++ t) (same_parts (λ c t. in_brackets c t) (compound_same a) (expression_same a))
  expression_same (e.Negating n a) = ap (λ t. codes "-" ++ t) (same_parts (λ c t. in_brackets c t) (compound_same a) (expression_same a))

  operands_same : (args : Operands) → operand_texts (unplaced_operands args) ≡ operand_texts args
  operands_same NoMore = refl
  operands_same (More a more) = same_parts (λ (x : List ℕ) (xs : List (List ℕ)). x ∷ xs) (expression_same a) (operands_same more)

-- declarations

binding_same : (b : Binding) → binding_text (unplaced_binding b) ≡ binding_text b
binding_same b = ap (λ t. b.name.word ++ codes ": " ++ base_word b.base ++ codes " = " ++ t) (expression_same b.value)

assignment_same : (a : Assignment) → assignment_text (unplaced_assignment a) ≡ assignment_text a
assignment_same a = ap (λ t. codes "      " ++ a.target.word ++ codes " := " ++ t ++ codes ";\n") (expression_same a.value)

abbrev emitted : List (List ℕ) → List ℕ → List (List ℕ) → List ℕ
emitted bs test stmts =
    codes "    emit " ++ listed (codes ", ") bs ++ codes " when " ++ test ++ codes ";\n" ++ (codes "    apply {\n" ++ concat stmts ++ codes "    }\n")

effect_same : (o : Option Emission) → effect_text (option_map unplaced_emission o) ≡ effect_text o
effect_same None = refl
effect_same (Some e) =
    same_parts (λ (x : List (List ℕ)) (y : List ℕ). emitted x y (map assignment_text (map unplaced_assignment e.stmts))) (all_same unplaced_binding binding_text binding_same e.binds) (expression_same e.test)
    ∙ ap (λ (z : List (List ℕ)). emitted (map binding_text e.binds) (expression_text e.test) z) (all_same unplaced_assignment assignment_text assignment_same e.stmts)

signature_same : (o : Operation) → signature_text (unplaced_operation o) ≡ signature_text o
signature_same o = ap (λ (ps : List (List ℕ)). o.name.word ++ codes "(" ++ listed (codes ", ") ps ++ codes "): " ++ kind_text o.kind) (all_same unplaced_param param_text (λ p. refl) o.params)

body_same : (o : Operation) → body_text (unplaced_operation o) ≡ body_text o
body_same o =
    same_parts (λ x y. codes "    contract " ++ x ++ codes ";\n    answer " ++ y ++ codes ";\n" ++ effect_text (option_map unplaced_emission o.effect)) (contract_same o.contract) (expression_same o.answer)
    ∙ ap (λ z. codes "    contract " ++ contract_text o.contract ++ codes ";\n    answer " ++ expression_text o.answer ++ codes ";\n" ++ z) (effect_same o.effect)

operation_same : (o : Operation) → operation_text (unplaced_operation o) ≡ operation_text o
operation_same o = same_parts (λ x y. codes "  op " ++ x ++ codes " {\n" ++ y ++ codes "  }\n") (signature_same o) (body_same o)

type_same : (t : Replicated) → replicated_text (unplaced_type t) ≡ replicated_text t
type_same t =
    same_parts (λ (x : List (List ℕ)) (y : List (List ℕ)). codes "type " ++ t.name.word ++ codes " {\n" ++ concat x ++ concat y ++ codes "}\n")
    (all_same unplaced_field field_text (λ f. refl) t.fields) (all_same unplaced_operation operation_text operation_same t.ops)

transaction_same : (t : Transaction) → transaction_text (unplaced_transaction t) ≡ transaction_text t
transaction_same t =
    same_parts (λ (x : List (List ℕ)) (y : List ℕ). codes "transaction " ++ t.name.word ++ codes " {\n" ++ (codes "  uses " ++ listed (codes ", ") x ++ codes ";\n") ++ codes "  contract " ++ y ++ codes ";\n}\n")
    (all_same unplaced_name word_of (λ n. refl) t.uses) (contract_same t.contract)

-- what is printed of a source doesn't depend on its offsets
pub source_same : (p : Source) → program_text (unplaced_source p) ≡ program_text p
source_same p =
    same_parts (λ (x : List (List ℕ)) (y : List (List ℕ)). concat x ++ concat y) (all_same unplaced_type replicated_text type_same p.types) (all_same unplaced_transaction transaction_text transaction_same p.txns)
