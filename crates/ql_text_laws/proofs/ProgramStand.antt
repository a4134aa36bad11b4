-- The pieces of a source stand.
use Rattle.std.proofs.Common.{◌≡◌, ℕ, suc, true, false, List, [], ◌∷◌, Option, Some, None, codes, pos, negsuc, refl, arith}
use Rattle.std.specs.List.{AllByRecursion}
use Rattle.ql_base.specs.Bytes.{is_lower, is_name_byte, is_word_byte, StopsBefore}
use Rattle.ql_base.specs.Names.{is_keyword, keywords}
use Rattle.ql_lex.specs.Starts.StartsWith.{keyword as keyword_front, pair, mark as mark_front}
use Rattle.ql_lex.specs.Marks.{is_mark_byte, is_mark_pair}
use Rattle.ql_lex.specs.declared.token.TokenKind.TheVariants.{Mark, Keyword}
use Rattle.ql_lang.specs.declared.name.Name.{Name}
use Rattle.ql_lang.specs.declared.operation.Base.{Base}
use Rattle.ql_lang.specs.declared.operation.Base.TheVariants as base
use Rattle.ql_lang.specs.declared.operation.Kind.{Kind}
use Rattle.ql_lang.specs.declared.operation.Kind.TheVariants as kind
use Rattle.ql_lang.specs.declared.operation.Param.{Param}
use Rattle.ql_lang.specs.declared.program.Field.{Field}
use Rattle.ql_lang.specs.declared.program.InitNode.{InitNode}
use Rattle.ql_lang.specs.declared.program.InitNode.TheVariants as init
use Rattle.ql_lang.specs.Programs.{Binding, Assignment, Emission, Operation, Replicated, Transaction, Source}
use Rattle.ql_lang.specs.ProgramSpelling.{base_word}
use Rattle.ql_grammar.specs.Terminals.{keyword, expression_word, logic_word, mark, operator}
use Rattle.ql_grammar.specs.Tokens.{terminal_of}
use Rattle.ql_grammar.specs.declared.terminal.Terminal.{Terminal}
use Rattle.ql_grammar.specs.declared.terminal.Terminal.TheVariants.{TypeWord, StateWord, OpWord, ContractWord, AnswerWord, EmitWord, WhenWord, ApplyWord, TransactionWord, UsesWord, EmptyWord, IntWord, BoolWord, TextWord, SetWord, MapWord, OpenParen, CloseParen, Colon, Semicolon, Equals, Assign, Minus}
use Rattle.ql_grammar.specs.declared.role.Role.{Role}
use Rattle.ql_grammar.specs.declared.role.Role.TheVariants.{Plain, Before}
use Rattle.ql_text_laws.specs.Printed.{NameFits}
use Rattle.ql_text_laws.specs.PrintedPrograms.{InitFits, FieldFits, ParamFits, BindingFits, AssignmentFits, EffectFits, OperationFits, TypeFits, TransactionFits, SourceFits}
use Rattle.ql_text_laws.proofs.Pieces.{Piece, text_of, Stands, IsSaid, plain, said_name, lone}
use Rattle.ql_text_laws.proofs.PiecesRead.{comma, items_behind, items_pieces, name_pieces}
use Rattle.ql_text_laws.proofs.PiecesStand.{IsFixed, fixed, Stops, open_brace, close_brace, comma_said, comma_stops, comma_stands, items_stand, contract_stands}
use Rattle.ql_text_laws.proofs.ExpressionStand.{Ends, text_ends, unit_fixed, truth_fixed, said_number, said_text, expression_stands}
use Rattle.ql_text_laws.proofs.ProgramPieces.{ends_line, each_pieces, base_terminal, kind_pieces, init_pieces, field_pieces, param_pieces, binding_pieces, assignment_pieces, effect_pieces, signature_pieces, operation_pieces, type_pieces, transaction_pieces, source_pieces}

-- tokens whose brackets don't count

reported_word : {t : Terminal} {r : Role} {w : List ℕ} (rest : List ℕ) → IsFixed w t → StopsBefore is_name_byte rest → IsSaid false Keyword t r w rest
reported_word {w = w} rest f stops = record { front = keyword_front w rest f.word stops f.kept; terminal = f.terminal; opens = tt }

reported_mark : {t : Terminal} {r : Role} (a : ℕ) (rest : List ℕ) → is_mark_byte a ≡ true → StopsBefore (is_mark_pair a) rest → terminal_of Mark (a ∷ []) ≡ t → IsSaid false Mark t r (a ∷ []) rest
reported_mark a rest is_one stops is = record { front = mark_front is_one stops; terminal = is; opens = tt }

-- the words

abbrev Word : List ℕ → Terminal → Type 0
Word = IsFixed

type_fixed : Word (codes "type") TypeWord
unfolding is_lower is_name_byte is_keyword keywords terminal_of keyword
type_fixed = fixed (codes "type") TypeWord (omega arith) refl refl refl refl

state_fixed : Word (codes "state") StateWord
unfolding is_lower is_name_byte is_keyword keywords terminal_of keyword
state_fixed = fixed (codes "state") StateWord (omega arith) refl refl refl refl

op_fixed : Word (codes "op") OpWord
unfolding is_lower is_name_byte is_keyword keywords terminal_of keyword
op_fixed = fixed (codes "op") OpWord (omega arith) refl refl refl refl

contract_fixed : Word (codes "contract") ContractWord
unfolding is_lower is_name_byte is_keyword keywords terminal_of keyword
contract_fixed = fixed (codes "contract") ContractWord (omega arith) refl refl refl refl

answer_fixed : Word (codes "answer") AnswerWord
unfolding is_lower is_name_byte is_keyword keywords terminal_of keyword
answer_fixed = fixed (codes "answer") AnswerWord (omega arith) refl refl refl refl

emit_fixed : Word (codes "emit") EmitWord
unfolding is_lower is_name_byte is_keyword keywords terminal_of keyword
emit_fixed = fixed (codes "emit") EmitWord (omega arith) refl refl refl refl

when_fixed : Word (codes "when") WhenWord
unfolding is_lower is_name_byte is_keyword keywords terminal_of keyword
when_fixed = fixed (codes "when") WhenWord (omega arith) refl refl refl refl

apply_fixed : Word (codes "apply") ApplyWord
unfolding is_lower is_name_byte is_keyword keywords terminal_of keyword
apply_fixed = fixed (codes "apply") ApplyWord (omega arith) refl refl refl refl

transaction_fixed : Word (codes "transaction") TransactionWord
unfolding is_lower is_name_byte is_keyword keywords terminal_of keyword
transaction_fixed = fixed (codes "transaction") TransactionWord (omega arith) refl refl refl refl

uses_fixed : Word (codes "uses") UsesWord
unfolding is_lower is_name_byte is_keyword keywords terminal_of keyword
uses_fixed = fixed (codes "uses") UsesWord (omega arith) refl refl refl refl

empty_fixed : Word (codes "empty") EmptyWord
unfolding is_lower is_name_byte is_keyword keywords terminal_of keyword expression_word logic_word
empty_fixed = fixed (codes "empty") EmptyWord (omega arith) refl refl refl refl

int_fixed : Word (codes "int") IntWord
unfolding is_lower is_name_byte is_keyword keywords terminal_of keyword expression_word
int_fixed = fixed (codes "int") IntWord (omega arith) refl refl refl refl

bool_fixed : Word (codes "bool") BoolWord
unfolding is_lower is_name_byte is_keyword keywords terminal_of keyword expression_word
bool_fixed = fixed (codes "bool") BoolWord (omega arith) refl refl refl refl

text_fixed : Word (codes "text") TextWord
unfolding is_lower is_name_byte is_keyword keywords terminal_of keyword expression_word
text_fixed = fixed (codes "text") TextWord (omega arith) refl refl refl refl

set_fixed : Word (codes "set") SetWord
unfolding is_lower is_name_byte is_keyword keywords terminal_of keyword expression_word
set_fixed = fixed (codes "set") SetWord (omega arith) refl refl refl refl

map_fixed : Word (codes "map") MapWord
unfolding is_lower is_name_byte is_keyword keywords terminal_of keyword expression_word
map_fixed = fixed (codes "map") MapWord (omega arith) refl refl refl refl

base_fixed : (b : Base) → IsFixed (base_word b) (base_terminal b)
base_fixed base.Int = int_fixed
base_fixed base.Bool = bool_fixed
base_fixed base.Text = text_fixed

-- the marks

semicolon_said : (rest : List ℕ) → IsSaid false Mark Semicolon Plain (codes ";") rest
unfolding is_mark_byte terminal_of mark operator
semicolon_said rest = reported_mark 59 rest refl (lone 59 refl rest) refl

colon_said : (rest : List ℕ) → IsSaid false Mark Colon Plain (codes ":") (32 ∷ rest)
unfolding is_mark_byte is_mark_pair terminal_of mark operator
colon_said rest = reported_mark 58 (32 ∷ rest) refl refl refl

equals_said : {r : Role} (rest : List ℕ) → IsSaid false Mark Equals r (codes "=") (32 ∷ rest)
unfolding is_mark_byte is_mark_pair terminal_of mark operator
equals_said rest = reported_mark 61 (32 ∷ rest) refl refl refl

assign_said : (rest : List ℕ) → IsSaid false Mark Assign Before (codes ":=") rest
unfolding is_mark_pair terminal_of mark operator
assign_said rest = record { front = pair refl; terminal = refl; opens = tt }

minus_said : (rest : List ℕ) → IsSaid false Mark Minus Plain (codes "-") rest
unfolding is_mark_byte terminal_of mark operator
minus_said rest = reported_mark 45 rest refl (lone 45 refl rest) refl

paren_opens : (rest : List ℕ) → IsSaid false Mark OpenParen Plain (codes "(") rest
unfolding is_mark_byte terminal_of mark operator
paren_opens rest = reported_mark 40 rest refl (lone 40 refl rest) refl

paren_closes : (rest : List ℕ) → IsSaid false Mark CloseParen Plain (codes ")") rest
unfolding is_mark_byte terminal_of mark operator
paren_closes rest = reported_mark 41 rest refl (lone 41 refl rest) refl

-- the parts stand

abbrev Stand : List Piece → Type 0
Stand ps = Stands false ps

name_first : (n : Name) → NameFits n → (below : List Piece) → Stops below → Stand below → Stand (name_pieces n below)
name_first n fits below stops stands = (said_name n.word (text_of below) fits plain stops, stands)

module _ (T : Type 0) (pieces : T → List Piece → List Piece) (ItemFits : T → Type 0) (item : (t : T) → ItemFits t → (below : List Piece) → Stand below → Stand (pieces t below)) where
  each_stand : (ts : List T) → AllByRecursion ItemFits ts → (below : List Piece) → Stand below → Stand (each_pieces pieces ts below)
  each_stand [] fits below stands = stands
  each_stand (t ∷ ts) fits below stands = item t fits.0 (each_pieces pieces ts below) (each_stand ts fits.1 below stands)

kind_stands : (k : Kind) (below : List Piece) → Stops below → Stand below → Stand (kind_pieces k below)
unfolding is_name_byte
kind_stands kind.Unit below stops stands = (reported_word _ unit_fixed stops, stands)
kind_stands kind.Int below stops stands = (reported_word _ int_fixed stops, stands)
kind_stands kind.Bool below stops stands = (reported_word _ bool_fixed stops, stands)
kind_stands kind.Text below stops stands = (reported_word _ text_fixed stops, stands)
kind_stands (kind.Set b) below stops stands = (reported_word _ set_fixed refl, (paren_opens _, (reported_word _ (base_fixed b) refl, (paren_closes _, stands))))
kind_stands (kind.Map b c) below stops stands =
    (reported_word _ map_fixed refl, (paren_opens _, (reported_word _ (base_fixed b) refl, (comma_said _, (reported_word _ (base_fixed c) refl, (paren_closes _, stands))))))

init_stands : (i : InitNode) → InitFits i → (below : List Piece) → Ends below → Stand below → Stand (init_pieces i below)
init_stands (init.Int (pos n)) fits below ends stands = (said_number n fits plain (text_of below) ends, stands)
init_stands (init.Int (negsuc n)) fits below ends stands = (minus_said _, (said_number (suc n) (omega arith) plain (text_of below) ends, stands))
init_stands (init.Text text) fits below ends stands = (said_text text fits plain (text_of below), stands)
init_stands (init.Bool b) fits below ends stands = (reported_word _ (truth_fixed b) (text_ends (text_of below) ends), stands)
init_stands init.Unit fits below ends stands = (reported_word _ unit_fixed (text_ends (text_of below) ends), stands)
init_stands init.Empty fits below ends stands = (reported_word _ empty_fixed (text_ends (text_of below) ends), stands)

field_stands : (f : Field) → FieldFits f → (below : List Piece) → Stand below → Stand (field_pieces f below)
unfolding is_name_byte is_word_byte
field_stands f fits below stands =
    (reported_word _ state_fixed refl, (said_name f.name.word _ fits.0 plain refl, (colon_said _, kind_stands f.kind _ refl (equals_said _, init_stands f.init.node fits.1 (ends_line below) refl (semicolon_said _, stands)))))

param_stands : (p : Param) → ParamFits p → (below : List Piece) → Stops below → Stand below → Stand (param_pieces p below)
unfolding is_name_byte
param_stands p fits below stops stands = (said_name p.name.word _ fits plain refl, (colon_said _, (reported_word _ (base_fixed p.base) stops, stands)))

-- items with a comma between them, which end as expressions do
module _ (T : Type 0) (pieces : T → List Piece → List Piece) (ItemFits : T → Type 0) (item : (t : T) → ItemFits t → (below : List Piece) → Ends below → Stand below → Stand (pieces t below)) where
  behind_ends : (ts : List T) (below : List Piece) → Ends below → Ends (items_behind comma pieces ts below)
  unfolding is_word_byte
  behind_ends [] below ends = ends
  behind_ends (t ∷ ts) below ends = refl

  behind_stand : (ts : List T) → AllByRecursion ItemFits ts → (below : List Piece) → Ends below → Stand below → Stand (items_behind comma pieces ts below)
  behind_stand [] fits below ends stands = stands
  behind_stand (t ∷ ts) fits below ends stands = (comma_said _, item t fits.0 (items_behind comma pieces ts below) (behind_ends ts below ends) (behind_stand ts fits.1 below ends stands))

  listed_stand : (ts : List T) → AllByRecursion ItemFits ts → (below : List Piece) → Ends below → Stand below → Stand (items_pieces comma pieces ts below)
  listed_stand [] fits below ends stands = stands
  listed_stand (t ∷ ts) fits below ends stands = item t fits.0 (items_behind comma pieces ts below) (behind_ends ts below ends) (behind_stand ts fits.1 below ends stands)

binding_stands : (b : Binding) → BindingFits b → (below : List Piece) → Ends below → Stand below → Stand (binding_pieces b below)
unfolding is_name_byte
binding_stands b fits below ends stands =
    (said_name b.name.word _ fits.0 plain refl, (colon_said _, (reported_word _ (base_fixed b.base) refl, (equals_said _, expression_stands false b.value fits.1 below ends stands))))

assignment_stands : (a : Assignment) → AssignmentFits a → (below : List Piece) → Stand below → Stand (assignment_pieces a below)
unfolding is_name_byte is_word_byte
assignment_stands a fits below stands = (said_name a.target.word _ fits.0 plain refl, (assign_said _, expression_stands false a.value fits.1 (ends_line below) refl (semicolon_said _, stands)))

effect_stands : (o : Option Emission) → EffectFits o → (below : List Piece) → Stand below → Stand (effect_pieces o below)
unfolding is_name_byte is_word_byte
effect_stands None fits below stands = stands
effect_stands (Some e) fits below stands = (
  reported_word _ emit_fixed refl,
  listed_stand Binding binding_pieces BindingFits binding_stands e.binds fits.1 _ refl (
    reported_word _ when_fixed refl,
    expression_stands false e.test fits.2 _ refl (
      semicolon_said _,
      (reported_word _ apply_fixed refl, (open_brace _, each_stand Assignment assignment_pieces AssignmentFits assignment_stands e.stmts fits.3 _ (close_brace _, stands))),
    ),
  ),
)

signature_stands : (o : Operation) → NameFits o.name → AllByRecursion ParamFits o.params → (below : List Piece) → Stops below → Stand below → Stand (signature_pieces o below)
unfolding is_name_byte
signature_stands o named fits below stops stands = (
  said_name o.name.word _ named plain refl,
  (
    paren_opens _,
    items_stand false Param param_pieces comma ParamFits (comma_stops false) (comma_stands false) param_stands o.params fits _ refl
        (paren_closes _, (colon_said _, kind_stands o.kind below stops stands)),
  ),
)

operation_stands : (o : Operation) → OperationFits o → (below : List Piece) → Stand below → Stand (operation_pieces o below)
unfolding is_name_byte is_word_byte
operation_stands o fits below stands = (
  reported_word _ op_fixed refl,
  signature_stands o fits.0 fits.1 _ refl (
    open_brace _,
    (
      reported_word _ contract_fixed refl,
      contract_stands false o.contract fits.2 _ refl (
        semicolon_said _,
        (
          reported_word _ answer_fixed refl,
          expression_stands false o.answer fits.3 _ refl (
            semicolon_said _,
            effect_stands o.effect fits.4 _ (close_brace _, stands),
          ),
        ),
      ),
    ),
  ),
)

type_stands : (t : Replicated) → TypeFits t → (below : List Piece) → Stand below → Stand (type_pieces t below)
unfolding is_name_byte
type_stands t fits below stands = (
  reported_word _ type_fixed refl,
  (
    said_name t.name.word _ fits.0 plain refl,
    (
      open_brace _,
      each_stand Field field_pieces FieldFits field_stands t.fields fits.1 _
          (each_stand Operation operation_pieces OperationFits operation_stands t.ops fits.3 _ (close_brace _, stands)),
    ),
  ),
)

transaction_stands : (t : Transaction) → TransactionFits t → (below : List Piece) → Stand below → Stand (transaction_pieces t below)
unfolding is_name_byte
transaction_stands t fits below stands = (
  reported_word _ transaction_fixed refl,
  (
    said_name t.name.word _ fits.0 plain refl,
    (
      open_brace _,
      (
        reported_word _ uses_fixed refl,
        items_stand false Name name_pieces comma NameFits (comma_stops false) (comma_stands false) name_first t.uses fits.2 _ refl (
          semicolon_said _,
          (reported_word _ contract_fixed refl, contract_stands false t.contract fits.3 _ refl (semicolon_said _, (close_brace _, stands))),
        ),
      ),
    ),
  ),
)

pub source_stands : (p : Source) → SourceFits p → Stand (source_pieces p [])
source_stands p fits =
    each_stand Replicated type_pieces TypeFits type_stands p.types fits.1 (each_pieces transaction_pieces p.txns [])
    (each_stand Transaction transaction_pieces TransactionFits transaction_stands p.txns fits.2 [] tt)
