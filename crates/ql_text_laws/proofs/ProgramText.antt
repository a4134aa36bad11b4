-- The pieces of a source spell its text.
use Rattle.std.proofs.Common.{◌≡◌, ℕ, List, [], ◌∷◌, ◌++◌, Option, Some, None, map, codes, pos, negsuc, refl, ap, ◌∙◌}
use Rattle.std.specs.List.{concat}
use Rattle.std.proofs.lemmas.List.{append-nil}
use Rattle.ql_lex.specs.declared.token.TokenKind.TheVariants.{Mark, Keyword}
use Rattle.ql_lang.specs.declared.name.Name.{Name}
use Rattle.ql_lang.specs.declared.operation.Base.{Base}
use Rattle.ql_lang.specs.declared.operation.Kind.{Kind}
use Rattle.ql_lang.specs.declared.operation.Kind.TheVariants as kind
use Rattle.ql_lang.specs.declared.operation.Param.{Param}
use Rattle.ql_lang.specs.declared.program.Field.{Field}
use Rattle.ql_lang.specs.declared.program.InitNode.{InitNode}
use Rattle.ql_lang.specs.declared.program.InitNode.TheVariants as init
use Rattle.ql_lang.specs.Expressions.{Expression}
use Rattle.ql_lang.specs.Trees.{Sentence}
use Rattle.ql_lang.specs.Programs.{Binding, Assignment, Emission, Operation, Replicated, Transaction, Source}
use Rattle.ql_lang.specs.Spelling.{listed, word_of, contract_text}
use Rattle.ql_lang.specs.ExpressionSpelling.{expression_text}
use Rattle.ql_lang.specs.ProgramSpelling.{base_word, kind_text, init_text, field_text, param_text, binding_text, assignment_text, apply_text, emission_text, effect_text, signature_text, body_text, operation_text, replicated_text, uses_text, transaction_text, program_text}
use Rattle.ql_grammar.specs.declared.terminal.Terminal.TheVariants.{TypeWord, StateWord, OpWord, ContractWord, AnswerWord, EmitWord, WhenWord, ApplyWord, TransactionWord, UsesWord, SetWord, MapWord, OpenParen, CloseParen, Equals, Assign}
use Rattle.ql_grammar.specs.declared.role.Role.TheVariants.{Plain, Before}
use Rattle.ql_text_laws.proofs.Pieces.{Piece, Blank, Said, text_of}
use Rattle.ql_text_laws.proofs.PiecesRead.{comma, items_pieces, name_pieces, contract_pieces}
use Rattle.ql_text_laws.proofs.PiecesText.{two, items_spell, contract_spells}
use Rattle.ql_text_laws.proofs.ExpressionPieces.{expression_pieces}
use Rattle.ql_text_laws.proofs.ExpressionText.{expression_spells}
use Rattle.ql_text_laws.proofs.ProgramPieces.{margin, word, colon, ends_line, opens, closes, each_pieces, base_pieces, kind_pieces, init_pieces, field_pieces, param_pieces, binding_pieces, assignment_pieces, apply_pieces, emission_pieces, effect_pieces, signature_pieces, asked_pieces, answered_pieces, operation_pieces, type_pieces, uses_pieces, transaction_pieces, source_pieces}

record Spelled (f : List Piece → List Piece) (w : List ℕ) : Type 0 where
  spells : (below : List Piece) → text_of (f below) ≡ w ++ text_of below

then : {f g : List Piece → List Piece} {v w : List ℕ} → Spelled f v → Spelled g w → Spelled (λ below. f (g below)) (v ++ w)
then {f} {g} {v} {w} c d = record { spells = λ below. c.spells (g below) ∙ ap (λ t. v ++ t) (d.spells below) ∙ two v w (text_of below) }

-- fixed pieces
fixed : (f : List Piece → List Piece) (w : List ℕ) → ((below : List Piece) → text_of (f below) ≡ w ++ text_of below) → Spelled f w
fixed f w is = record { spells = is }

name_spelled : (n : Name) → Spelled (λ below. name_pieces n below) n.word
name_spelled n = record { spells = λ below. refl }

expression_spelled : (e : Expression) → Spelled (λ below. expression_pieces e below) (expression_text e)
expression_spelled e = record { spells = expression_spells e }

contract_spelled : (s : Sentence) → Spelled (λ below. contract_pieces s below) (contract_text s)
contract_spelled s = record { spells = contract_spells s }

colon_spelled : Spelled (λ below. colon below) (codes ": ")
colon_spelled = record { spells = λ below. refl }

line_end : Spelled (λ below. ends_line below) (codes ";\n")
line_end = record { spells = λ below. refl }

module _ (T : Type 0) (pieces : T → List Piece → List Piece) (text : T → List ℕ) (item : (t : T) → Spelled (λ below. pieces t below) (text t)) where
  each_spelled : (ts : List T) → Spelled (λ below. each_pieces pieces ts below) (concat (map text ts))
  each_spelled [] = record { spells = λ below. refl }
  each_spelled (t ∷ ts) = then (item t) (each_spelled ts)

  listed_spelled : (ts : List T) → Spelled (λ below. items_pieces comma pieces ts below) (listed (codes ", ") (map text ts))
  listed_spelled ts = record { spells = items_spell T pieces comma text (codes ", ") (λ us. refl) (λ t below. (item t).spells below) ts }

base_spelled : (b : Base) → Spelled (λ below. base_pieces b below) (base_word b)
base_spelled b = record { spells = λ below. refl }

kind_spelled : (k : Kind) → Spelled (λ below. kind_pieces k below) (kind_text k)
kind_spelled kind.Unit = record { spells = λ below. refl }
kind_spelled kind.Int = record { spells = λ below. refl }
kind_spelled kind.Bool = record { spells = λ below. refl }
kind_spelled kind.Text = record { spells = λ below. refl }
kind_spelled (kind.Set b) =
    then (then (fixed (λ below. Said Keyword SetWord Plain (codes "set") ∷ Said Mark OpenParen Plain (codes "(") ∷ below) (codes "set(") (λ below. refl)) (base_spelled b))
    (fixed (λ below. Said Mark CloseParen Plain (codes ")") ∷ below) (codes ")") (λ below. refl))
kind_spelled (kind.Map b c) =
    then (then (then (then (fixed (λ below. Said Keyword MapWord Plain (codes "map") ∷ Said Mark OpenParen Plain (codes "(") ∷ below) (codes "map(") (λ below. refl)) (base_spelled b))
    (fixed (λ below. comma below) (codes ", ") (λ below. refl))) (base_spelled c)) (fixed (λ below. Said Mark CloseParen Plain (codes ")") ∷ below) (codes ")") (λ below. refl))

init_spelled : (i : InitNode) → Spelled (λ below. init_pieces i below) (init_text i)
init_spelled (init.Int (pos n)) = record { spells = λ below. refl }
init_spelled (init.Int (negsuc n)) = record { spells = λ below. refl }
init_spelled (init.Text text) = record { spells = λ below. refl }
init_spelled (init.Bool b) = record { spells = λ below. refl }
init_spelled init.Unit = record { spells = λ below. refl }
init_spelled init.Empty = record { spells = λ below. refl }

field_spelled : (f : Field) → Spelled (λ below. field_pieces f below) (field_text f)
field_spelled f =
    then (then (then (then (then (then
    (fixed (λ below. margin (word StateWord (codes "state") below)) (codes "  state ") (λ below. refl))
    (name_spelled f.name)) colon_spelled) (kind_spelled f.kind))
    (fixed (λ below. Blank ∷ Said Mark Equals Plain (codes "=") ∷ Blank ∷ below) (codes " = ") (λ below. refl)))
    (init_spelled f.init.node)) line_end

param_spelled : (p : Param) → Spelled (λ below. param_pieces p below) (param_text p)
param_spelled p = then (then (name_spelled p.name) colon_spelled) (base_spelled p.base)

binding_spelled : (b : Binding) → Spelled (λ below. binding_pieces b below) (binding_text b)
binding_spelled b =
    then (then (then (then (name_spelled b.name) colon_spelled) (base_spelled b.base))
    (fixed (λ below. Blank ∷ Said Mark Equals Before (codes "=") ∷ Blank ∷ below) (codes " = ") (λ below. refl))) (expression_spelled b.value)

assignment_spelled : (a : Assignment) → Spelled (λ below. assignment_pieces a below) (assignment_text a)
assignment_spelled a =
    then (then (then (then (fixed (λ below. margin (margin (margin below))) (codes "      ") (λ below. refl)) (name_spelled a.target))
    (fixed (λ below. Blank ∷ Said Mark Assign Before (codes ":=") ∷ Blank ∷ below) (codes " := ") (λ below. refl))) (expression_spelled a.value)) line_end

apply_spelled : (stmts : List Assignment) → Spelled (λ below. apply_pieces stmts below) (apply_text stmts)
apply_spelled stmts =
    then (then (fixed (λ below. margin (margin (Said Keyword ApplyWord Plain (codes "apply") ∷ opens below))) (codes "    apply {\n") (λ below. refl))
    (each_spelled Assignment assignment_pieces assignment_text assignment_spelled stmts)) (fixed (λ below. margin (margin (closes below))) (codes "    }\n") (λ below. refl))

emission_spelled : (e : Emission) → Spelled (λ below. emission_pieces e below) (emission_text e)
emission_spelled e =
    then (then (then (then (then
    (fixed (λ below. margin (margin (word EmitWord (codes "emit") below))) (codes "    emit ") (λ below. refl))
    (listed_spelled Binding binding_pieces binding_text binding_spelled e.binds))
    (fixed (λ below. Blank ∷ Said Keyword WhenWord Before (codes "when") ∷ Blank ∷ below) (codes " when ") (λ below. refl)))
    (expression_spelled e.test)) line_end) (apply_spelled e.stmts)

effect_spelled : (o : Option Emission) → Spelled (λ below. effect_pieces o below) (effect_text o)
effect_spelled None = record { spells = λ below. refl }
effect_spelled (Some e) = emission_spelled e

signature_spelled : (o : Operation) → Spelled (λ below. signature_pieces o below) (signature_text o)
signature_spelled o =
    then (then (then (then (name_spelled o.name) (fixed (λ below. Said Mark OpenParen Plain (codes "(") ∷ below) (codes "(") (λ below. refl)))
    (listed_spelled Param param_pieces param_text param_spelled o.params))
    (fixed (λ below. Said Mark CloseParen Plain (codes ")") ∷ colon below) (codes "): ") (λ below. refl))) (kind_spelled o.kind)

body_spelled : (o : Operation) → Spelled (λ below. asked_pieces o (answered_pieces o (effect_pieces o.effect below))) (body_text o)
body_spelled o =
    then (then (then (then (then
    (fixed (λ below. margin (margin (Said Keyword ContractWord Before (codes "contract") ∷ Blank ∷ below))) (codes "    contract ") (λ below. refl))
    (contract_spelled o.contract))
    (fixed (λ below. ends_line (margin (margin (Said Keyword AnswerWord Before (codes "answer") ∷ Blank ∷ below)))) (codes ";\n    answer ") (λ below. refl)))
    (expression_spelled o.answer)) line_end) (effect_spelled o.effect)

opens_spelled : Spelled (λ below. opens below) (codes " {\n")
opens_spelled = record { spells = λ below. refl }

operation_spelled : (o : Operation) → Spelled (λ below. operation_pieces o below) (operation_text o)
operation_spelled o =
    then (then (then (then (fixed (λ below. margin (word OpWord (codes "op") below)) (codes "  op ") (λ below. refl)) (signature_spelled o)) opens_spelled) (body_spelled o))
    (fixed (λ below. margin (closes below)) (codes "  }\n") (λ below. refl))

type_spelled : (t : Replicated) → Spelled (λ below. type_pieces t below) (replicated_text t)
type_spelled t =
    then (then (then (then (then (fixed (λ below. word TypeWord (codes "type") below) (codes "type ") (λ below. refl)) (name_spelled t.name)) opens_spelled)
    (each_spelled Field field_pieces field_text field_spelled t.fields)) (each_spelled Operation operation_pieces operation_text operation_spelled t.ops))
    (fixed (λ below. closes below) (codes "}\n") (λ below. refl))

uses_spelled : (names : List Name) → Spelled (λ below. uses_pieces names below) (uses_text names)
uses_spelled names =
    then (then (fixed (λ below. margin (word UsesWord (codes "uses") below)) (codes "  uses ") (λ below. refl)) (listed_spelled Name name_pieces word_of name_spelled names)) line_end

transaction_spelled : (t : Transaction) → Spelled (λ below. transaction_pieces t below) (transaction_text t)
transaction_spelled t =
    then (then (then (then (then (then (fixed (λ below. word TransactionWord (codes "transaction") below) (codes "transaction ") (λ below. refl)) (name_spelled t.name)) opens_spelled)
    (uses_spelled t.uses)) (fixed (λ below. margin (Said Keyword ContractWord Before (codes "contract") ∷ Blank ∷ below)) (codes "  contract ") (λ below. refl)))
    (contract_spelled t.contract)) (fixed (λ below. ends_line (closes below)) (codes ";\n}\n") (λ below. refl))

source_spelled : (p : Source) → Spelled (λ below. source_pieces p below) (program_text p)
source_spelled p = then (each_spelled Replicated type_pieces replicated_text type_spelled p.types) (each_spelled Transaction transaction_pieces transaction_text transaction_spelled p.txns)

pub source_spells : (p : Source) → text_of (source_pieces p []) ≡ program_text p
source_spells p = (source_spelled p).spells [] ∙ append-nil (program_text p)
