use Rattle.std.specs.Prelude.{ℕ, List, [], ◌++◌, Option, None, Some, map, codes}
use Rattle.std.specs.Fmt.{signed_decimal}
use Rattle.std.specs.List.{concat}
use Rattle.ql_lang.specs.declared.name.Name.{Name}
use Rattle.ql_lang.specs.declared.operation.Base.{Base}
use Rattle.ql_lang.specs.declared.operation.Base.TheVariants as base
use Rattle.ql_lang.specs.declared.operation.Kind.{Kind}
use Rattle.ql_lang.specs.declared.operation.Kind.TheVariants as kind
use Rattle.ql_lang.specs.declared.operation.Param.{Param}
use Rattle.ql_lang.specs.declared.program.Field.{Field}
use Rattle.ql_lang.specs.declared.program.InitNode.{InitNode}
use Rattle.ql_lang.specs.declared.program.InitNode.TheVariants as init
use Rattle.ql_lang.specs.Programs.{Binding, Assignment, Emission, Operation, Replicated, Transaction, Source}
use Rattle.ql_lang.specs.Spelling.{contract_text, listed, word_of}
use Rattle.ql_lang.specs.ExpressionSpelling.{expression_text, quoted, truth_word}

-- How declarations and whole sources are spelled: one text for each tree, whatever its source offsets. Each field,
-- contract, answer, emission and statement has its own line, indented by two blanks more than what it belongs to.

abbrev pub base_word : Base → List ℕ
base_word base.Int = codes "int"
base_word base.Bool = codes "bool"
base_word base.Text = codes "text"

abbrev pub kind_text : Kind → List ℕ
kind_text kind.Unit = codes "unit"
kind_text kind.Int = codes "int"
kind_text kind.Bool = codes "bool"
kind_text kind.Text = codes "text"
kind_text (kind.Set b) = codes "set(" ++ base_word b ++ codes ")"
kind_text (kind.Map b c) = codes "map(" ++ base_word b ++ codes ", " ++ base_word c ++ codes ")"

abbrev pub init_text : InitNode → List ℕ
init_text (init.Int n) = signed_decimal n
init_text (init.Text text) = quoted text
init_text (init.Bool b) = truth_word b
init_text init.Unit = codes "unit"
init_text init.Empty = codes "empty"

abbrev pub field_text : Field → List ℕ
field_text f = codes "  state " ++ f.name.word ++ codes ": " ++ kind_text f.kind ++ codes " = " ++ init_text f.init.node ++ codes ";\n"

abbrev pub param_text : Param → List ℕ
param_text p = p.name.word ++ codes ": " ++ base_word p.base

abbrev pub binding_text : Binding → List ℕ
binding_text b = b.name.word ++ codes ": " ++ base_word b.base ++ codes " = " ++ expression_text b.value

abbrev pub assignment_text : Assignment → List ℕ
assignment_text a = codes "      " ++ a.target.word ++ codes " := " ++ expression_text a.value ++ codes ";\n"

abbrev pub apply_text : List Assignment → List ℕ
apply_text stmts = codes "    apply {\n" ++ concat (map assignment_text stmts) ++ codes "    }\n"

abbrev pub emission_text : Emission → List ℕ
emission_text e =
    codes "    emit " ++ listed (codes ", ") (map binding_text e.binds) ++ codes " when " ++ expression_text e.test ++ codes ";\n" ++ apply_text e.stmts

abbrev pub effect_text : Option Emission → List ℕ
effect_text None = []
effect_text (Some e) = emission_text e

abbrev pub signature_text : Operation → List ℕ
signature_text o = o.name.word ++ codes "(" ++ listed (codes ", ") (map param_text o.params) ++ codes "): " ++ kind_text o.kind

abbrev pub body_text : Operation → List ℕ
body_text o = codes "    contract " ++ contract_text o.contract ++ codes ";\n    answer " ++ expression_text o.answer ++ codes ";\n" ++ effect_text o.effect

abbrev pub operation_text : Operation → List ℕ
operation_text o = codes "  op " ++ signature_text o ++ codes " {\n" ++ body_text o ++ codes "  }\n"

abbrev pub replicated_text : Replicated → List ℕ
replicated_text t =
    codes "type " ++ t.name.word ++ codes " {\n" ++ concat (map field_text t.fields) ++ concat (map operation_text t.ops) ++ codes "}\n"

abbrev pub uses_text : List Name → List ℕ
uses_text names = codes "  uses " ++ listed (codes ", ") (map word_of names) ++ codes ";\n"

abbrev pub transaction_text : Transaction → List ℕ
transaction_text t =
    codes "transaction " ++ t.name.word ++ codes " {\n" ++ uses_text t.uses ++ codes "  contract " ++ contract_text t.contract ++ codes ";\n}\n"

abbrev pub program_text : Source → List ℕ
program_text s = concat (map replicated_text s.types) ++ concat (map transaction_text s.txns)
