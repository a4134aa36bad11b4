-- The pieces of a source, each function with what follows.
use Rattle.std.proofs.Common.{ℕ, suc, List, ◌∷◌, Option, Some, None, codes, decimal, pos, negsuc}
use Rattle.ql_lex.specs.declared.token.TokenKind.TheVariants.{Int as IntKind, Text as TextKind, Mark, Keyword}
use Rattle.ql_lang.specs.declared.name.Name.{Name}
use Rattle.ql_lang.specs.declared.operation.Base.{Base}
use Rattle.ql_lang.specs.declared.operation.Base.TheVariants as base
use Rattle.ql_lang.specs.declared.operation.Kind.{Kind}
use Rattle.ql_lang.specs.declared.operation.Kind.TheVariants as kind
use Rattle.ql_lang.specs.declared.operation.Param.{Param}
use Rattle.ql_lang.specs.declared.program.Field.{Field}
use Rattle.ql_lang.specs.declared.program.InitNode.{InitNode}
use Rattle.ql_lang.specs.declared.program.InitNode.TheVariants as init
use Rattle.ql_lang.specs.Programs.{Binding, Assignment, Emission, Operation, Replicated, Transaction, Source}
use Rattle.ql_lang.specs.ExpressionSpelling.{quoted, truth_word}
use Rattle.ql_lang.specs.ProgramSpelling.{base_word}
use Rattle.ql_grammar.specs.declared.terminal.Terminal.{Terminal}
use Rattle.ql_grammar.specs.declared.terminal.Terminal.TheVariants.{IntToken, TextToken, TypeWord, StateWord, OpWord, ContractWord, AnswerWord, EmitWord, WhenWord, ApplyWord, TransactionWord, UsesWord, UnitWord, EmptyWord, IntWord, BoolWord, TextWord, SetWord, MapWord, OpenBrace, CloseBrace, OpenParen, CloseParen, Colon, Semicolon, Equals, Assign, Minus}
use Rattle.ql_grammar.specs.declared.role.Role.TheVariants.{Plain, Before}
use Rattle.ql_text_laws.proofs.Pieces.{Piece, Blank, Line, Said}
use Rattle.ql_text_laws.proofs.PiecesRead.{comma, items_behind, items_pieces, name_pieces, contract_pieces}
use Rattle.ql_text_laws.proofs.ExpressionPieces.{truth_terminal, expression_pieces}

-- fixed pieces

abbrev pub margin : List Piece → List Piece
margin below = Blank ∷ Blank ∷ below

abbrev pub word : Terminal → List ℕ → List Piece → List Piece
word t w below = Said Keyword t Plain w ∷ Blank ∷ below

abbrev pub colon : List Piece → List Piece
colon below = Said Mark Colon Plain (codes ":") ∷ Blank ∷ below

abbrev pub ends_line : List Piece → List Piece
ends_line below = Said Mark Semicolon Plain (codes ";") ∷ Line ∷ below

abbrev pub opens : List Piece → List Piece
opens below = Blank ∷ Said Mark OpenBrace Plain (codes "{") ∷ Line ∷ below

abbrev pub closes : List Piece → List Piece
closes below = Said Mark CloseBrace Plain (codes "}") ∷ Line ∷ below

-- items one after another
abbrev pub each_pieces : {T : Type 0} → (T → List Piece → List Piece) → List T → List Piece → List Piece
each_pieces pieces ts below = items_behind (λ more. more) pieces ts below

-- declarations

abbrev pub base_terminal : Base → Terminal
base_terminal base.Int = IntWord
base_terminal base.Bool = BoolWord
base_terminal base.Text = TextWord

abbrev pub base_pieces : Base → List Piece → List Piece
base_pieces b below = Said Keyword (base_terminal b) Plain (base_word b) ∷ below

abbrev pub kind_pieces : Kind → List Piece → List Piece
kind_pieces kind.Unit below = Said Keyword UnitWord Plain (codes "unit") ∷ below
kind_pieces kind.Int below = Said Keyword IntWord Plain (codes "int") ∷ below
kind_pieces kind.Bool below = Said Keyword BoolWord Plain (codes "bool") ∷ below
kind_pieces kind.Text below = Said Keyword TextWord Plain (codes "text") ∷ below
kind_pieces (kind.Set b) below =
    Said Keyword SetWord Plain (codes "set") ∷ Said Mark OpenParen Plain (codes "(") ∷ base_pieces b (Said Mark CloseParen Plain (codes ")") ∷ below)
kind_pieces (kind.Map b c) below =
    Said Keyword MapWord Plain (codes "map") ∷ Said Mark OpenParen Plain (codes "(") ∷ base_pieces b (comma (base_pieces c (Said Mark CloseParen Plain (codes ")") ∷ below)))

abbrev pub init_pieces : InitNode → List Piece → List Piece
init_pieces (init.Int (pos n)) below = Said IntKind IntToken Plain (decimal n) ∷ below
init_pieces (init.Int (negsuc n)) below = Said Mark Minus Plain (codes "-") ∷ Said IntKind IntToken Plain (decimal (suc n)) ∷ below
init_pieces (init.Text text) below = Said TextKind TextToken Plain (quoted text) ∷ below
init_pieces (init.Bool b) below = Said Keyword (truth_terminal b) Plain (truth_word b) ∷ below
init_pieces init.Unit below = Said Keyword UnitWord Plain (codes "unit") ∷ below
init_pieces init.Empty below = Said Keyword EmptyWord Plain (codes "empty") ∷ below

abbrev pub field_pieces : Field → List Piece → List Piece
field_pieces f below =
    margin (word StateWord (codes "state") (name_pieces f.name (colon (kind_pieces f.kind (Blank ∷ Said Mark Equals Plain (codes "=") ∷ Blank ∷ init_pieces f.init.node (ends_line below))))))

abbrev pub param_pieces : Param → List Piece → List Piece
param_pieces p below = name_pieces p.name (colon (base_pieces p.base below))

abbrev pub binding_pieces : Binding → List Piece → List Piece
binding_pieces b below = name_pieces b.name (colon (base_pieces b.base (Blank ∷ Said Mark Equals Before (codes "=") ∷ Blank ∷ expression_pieces b.value below)))

abbrev pub assignment_pieces : Assignment → List Piece → List Piece
assignment_pieces a below =
    margin (margin (margin (name_pieces a.target (Blank ∷ Said Mark Assign Before (codes ":=") ∷ Blank ∷ expression_pieces a.value (ends_line below)))))

abbrev pub apply_pieces : List Assignment → List Piece → List Piece
apply_pieces stmts below =
    margin (margin (Said Keyword ApplyWord Plain (codes "apply") ∷ opens (each_pieces assignment_pieces stmts (margin (margin (closes below))))))

abbrev pub emission_pieces : Emission → List Piece → List Piece
emission_pieces e below =
    margin (margin (word EmitWord (codes "emit") (items_pieces comma binding_pieces e.binds (Blank ∷ Said Keyword WhenWord Before (codes "when") ∷ Blank
    ∷ expression_pieces e.test (ends_line (apply_pieces e.stmts below))))))

abbrev pub effect_pieces : Option Emission → List Piece → List Piece
effect_pieces None below = below
effect_pieces (Some e) below = emission_pieces e below

abbrev pub signature_pieces : Operation → List Piece → List Piece
signature_pieces o below =
    name_pieces o.name (Said Mark OpenParen Plain (codes "(") ∷ items_pieces comma param_pieces o.params (Said Mark CloseParen Plain (codes ")") ∷ colon (kind_pieces o.kind below)))

abbrev pub asked_pieces : Operation → List Piece → List Piece
asked_pieces o below =
    margin (margin (Said Keyword ContractWord Before (codes "contract") ∷ Blank ∷ contract_pieces o.contract (ends_line below)))

abbrev pub answered_pieces : Operation → List Piece → List Piece
answered_pieces o below = margin (margin (Said Keyword AnswerWord Before (codes "answer") ∷ Blank ∷ expression_pieces o.answer (ends_line below)))

abbrev pub operation_pieces : Operation → List Piece → List Piece
operation_pieces o below =
    margin (word OpWord (codes "op") (signature_pieces o (opens (asked_pieces o (answered_pieces o (effect_pieces o.effect (margin (closes below))))))))

abbrev pub type_pieces : Replicated → List Piece → List Piece
type_pieces t below = word TypeWord (codes "type") (name_pieces t.name (opens (each_pieces field_pieces t.fields (each_pieces operation_pieces t.ops (closes below)))))

abbrev pub uses_pieces : List Name → List Piece → List Piece
uses_pieces names below = margin (word UsesWord (codes "uses") (items_pieces comma name_pieces names (ends_line below)))

abbrev pub transaction_pieces : Transaction → List Piece → List Piece
transaction_pieces t below =
    word TransactionWord (codes "transaction") (name_pieces t.name (opens (uses_pieces t.uses
    (margin (Said Keyword ContractWord Before (codes "contract") ∷ Blank ∷ contract_pieces t.contract (ends_line (closes below)))))))

abbrev pub source_pieces : Source → List Piece → List Piece
source_pieces p below = each_pieces type_pieces p.types (each_pieces transaction_pieces p.txns below)
