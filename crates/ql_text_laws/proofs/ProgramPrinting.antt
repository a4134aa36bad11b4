-- What is printed of a source is that source, offsets aside.
use Rattle.std.proofs.Common.{◌≡◌, ◌≤◌, List, [], ◌∷◌, Option, Some, None, false, subst}
use Rattle.std.specs.List.{AllByRecursion}
use Rattle.ql_base.specs.declared.limits.TheConstants.{MAX_NODES}
use Rattle.ql_lang.specs.Expressions.{Expression}
use Rattle.ql_lang.specs.ExpressionSpelling.{expression_text}
use Rattle.ql_lang.specs.Programs.{Binding, Assignment, Emission, Operation, Replicated, Transaction, Source}
use Rattle.ql_lang.specs.ProgramSpelling.{program_text}
use Rattle.ql_lang.specs.Spelling.{contract_text}
use Rattle.ql_lang.specs.Trees.{Sentence}
use Rattle.ql_grammar.specs.ProgramGrammar.{ReadsProgram}
use Rattle.ql_parse.specs.Parsing.{IsProgramText}
use Rattle.ql_text_laws.specs.Printed.{OpensFew, prop_nodes}
use Rattle.ql_text_laws.specs.PrintedPrograms.{unplaced_source, expression_nodes, BindingFits, AssignmentFits, EffectFits, OperationFits, TypeFits, TransactionFits, SourceFits, EachOfEffect, EachOfOperation, EachOfType, EachOfTransaction, EachOf, HasFewNodes, HasFewBrackets, IsSourceInGrammar}
use Rattle.ql_text_laws.proofs.Printing.{in_grammar, is_text}
use Rattle.ql_text_laws.proofs.ProgramPieces.{source_pieces}
use Rattle.ql_text_laws.proofs.ProgramRead.{source_reads}
use Rattle.ql_text_laws.proofs.ProgramText.{source_spells}
use Rattle.ql_text_laws.proofs.ProgramStand.{source_stands}
use Rattle.ql_text_laws.proofs.ProgramCounts.{ContractIsFew, ExpressionIsFew, source_stays}

-- what fits, has few nodes and opens few brackets, part for part

abbrev FewNodes : Expression → Type 0
FewNodes e = expression_nodes e ≤ MAX_NODES

abbrev FewBrackets : Expression → Type 0
FewBrackets e = OpensFew (expression_text e)

abbrev FewContractNodes : Sentence → Type 0
FewContractNodes c = prop_nodes c.body ≤ MAX_NODES

abbrev FewContractBrackets : Sentence → Type 0
FewContractBrackets c = OpensFew (contract_text c)

module _ (T : Type 0) (Fit Nodes Brackets Few : T → Type 0) (item : (t : T) → Fit t → Nodes t → Brackets t → Few t) where
  all_few : (ts : List T) → AllByRecursion Fit ts → AllByRecursion Nodes ts → AllByRecursion Brackets ts → AllByRecursion Few ts
  all_few [] fit nodes brackets = tt
  all_few (t ∷ ts) fit nodes brackets = (item t fit.0 nodes.0 brackets.0, all_few ts fit.1 nodes.1 brackets.1)

effect_few : (o : Option Emission) → EffectFits o → EachOfEffect FewContractNodes FewNodes o → EachOfEffect FewContractBrackets FewBrackets o → EachOfEffect ContractIsFew ExpressionIsFew o
effect_few None fits nodes brackets = tt
effect_few (Some e) fits nodes brackets = (
  all_few Binding BindingFits (λ b. FewNodes b.value) (λ b. FewBrackets b.value) (λ b. ExpressionIsFew b.value) (λ b f n k. record { fits = f.1; nodes = n; brackets = k }) e.binds fits.1 nodes.0 brackets.0,
  record { fits = fits.2; nodes = nodes.1; brackets = brackets.1 },
  all_few Assignment AssignmentFits (λ a. FewNodes a.value) (λ a. FewBrackets a.value) (λ a. ExpressionIsFew a.value) (λ a f n k. record { fits = f.1; nodes = n; brackets = k }) e.stmts fits.3 nodes.2 brackets.2,
)

operation_few : (o : Operation) → OperationFits o → EachOfOperation FewContractNodes FewNodes o → EachOfOperation FewContractBrackets FewBrackets o → EachOfOperation ContractIsFew ExpressionIsFew o
operation_few o fits nodes brackets = (
  record { fits = fits.2; readable = record { few_nodes = nodes.0; few_brackets = brackets.0 } },
  record { fits = fits.3; nodes = nodes.1; brackets = brackets.1 },
  effect_few o.effect fits.4 nodes.2 brackets.2,
)

type_few : (t : Replicated) → TypeFits t → EachOfType FewContractNodes FewNodes t → EachOfType FewContractBrackets FewBrackets t → EachOfType ContractIsFew ExpressionIsFew t
type_few t fits nodes brackets =
    all_few Operation OperationFits (EachOfOperation FewContractNodes FewNodes) (EachOfOperation FewContractBrackets FewBrackets) (EachOfOperation ContractIsFew ExpressionIsFew) operation_few t.ops fits.3 nodes brackets

transaction_few : (t : Transaction) → TransactionFits t → EachOfTransaction FewContractNodes FewNodes t → EachOfTransaction FewContractBrackets FewBrackets t → EachOfTransaction ContractIsFew ExpressionIsFew t
transaction_few t fits nodes brackets = record { fits = fits.3; readable = record { few_nodes = nodes; few_brackets = brackets } }

source_few : (p : Source) → SourceFits p → HasFewNodes p → HasFewBrackets p → EachOf ContractIsFew ExpressionIsFew p
source_few p fits nodes brackets = (
  all_few Replicated TypeFits (EachOfType FewContractNodes FewNodes) (EachOfType FewContractBrackets FewBrackets) (EachOfType ContractIsFew ExpressionIsFew) type_few p.types fits.1 nodes.0 brackets.0,
  all_few Transaction TransactionFits (EachOfTransaction FewContractNodes FewNodes) (EachOfTransaction FewContractBrackets FewBrackets) (EachOfTransaction ContractIsFew ExpressionIsFew) transaction_few p.txns fits.2 nodes.1 brackets.1,
)

abbrev pub IsSourceInGrammarAgain : Source → Type 0
IsSourceInGrammarAgain p = (q : Source) × IsSourceInGrammar (program_text p) q × (unplaced_source q ≡ unplaced_source p)

abbrev pub IsSourceReadAgain : Source → Type 0
IsSourceReadAgain p = (q : Source) × IsProgramText (program_text p) q × (unplaced_source q ≡ unplaced_source p)

pub source_grammar : (p : Source) → SourceFits p → IsSourceInGrammarAgain p
source_grammar p fits =
    let r = source_reads p fits in
    (r.tree, subst (λ bytes. IsSourceInGrammar bytes r.tree) (source_spells p) (in_grammar ReadsProgram false (source_pieces p []) (source_stands p fits) r.tree r.reads), r.same)

pub source_text : (p : Source) → SourceFits p → HasFewNodes p → HasFewBrackets p → IsSourceReadAgain p
source_text p fits nodes brackets =
    let r = source_reads p fits in
    let found = is_text ReadsProgram false (source_pieces p []) (source_stands p fits) r.tree r.reads (source_stays p (source_few p fits nodes brackets)) in
    (r.tree, subst (λ bytes. IsProgramText bytes r.tree) (source_spells p) found, r.same)
