use Rattle.std.proofs.Common.{ℕ, List, [], ◌∷◌}
use Rattle.ql_lang.specs.declared.name.Name.{Name}
use Rattle.ql_lang.specs.declared.relation.RelName.{RelName}
use Rattle.ql_lang.specs.declared.contract.Point.{Point}
use Rattle.ql_lang.specs.declared.contract.Var.{Var}
use Rattle.ql_lang.specs.Trees.{Relation, Proposition}
use Rattle.ql_grammar.specs.declared.terminal.Terminal.{Terminal}
use Rattle.ql_grammar.specs.declared.terminal.Terminal.TheVariants.{NameToken, CurWord, ForallWord, TrueWord, TxnWord, OpenBrace, CloseBrace, OpenParen, CloseParen, OpenBracket, CloseBracket, Comma, Dot, Equals, Bar}
use Rattle.ql_grammar.specs.declared.role.Role.{Role}
use Rattle.ql_grammar.specs.declared.role.Role.TheVariants.{Plain, Makes, Opens, Closes}
use Rattle.ql_grammar.specs.Tokens.{Marked, marked}
use Rattle.ql_grammar.specs.ContractGrammar.{IsRelationWord, vis, so, soo, sameobj, eq, hb, hbo, current, variable, ReadsTerms, one, more, ReadsRelation, Applied, Single, Product, Sum, applied_named, applied_bracket, named, bracket, single, both, product, either, ReadsProp, Atom, Both, Either, Whole, truth, group, equal, applied, txn, atom, and, or, implies, ReadsNames, free, over, ReadsVars, plain, forall}
use Rattle.ql_grammar.specs.ExpressionGrammar.{Unary, Multiplied, Added, Compared, Conjoined, Disjoined, Chosen}
use Rattle.ql_grammar.specs.Table.{ExprAt, Arguments, BaseKind, AnyKind, Beginning, ListedNames, WholeSource, Value, TheTerms, ARelation, AProp, TheNames, AVar, TheVars, Sym, Word, Placed, ANameOf, Do, APart, Then, Part, Term, TermList, RelationAt, PropAt, BarredNames, Variable, VarList, WholeContract, ways, term_ways, relation_ways, atom_ways, MoreTerms, MoreFactors, MoreSummands, MoreAnds, MoreOrs, MoreImplied, MoreNames, Operations, MoreVars, to_cur, to_variable, to_terms, to_basic, add_truth, to_equality, to_application, to_txn, to_names, to_free, to_vars, to_plain, to_forall}
use Rattle.ql_grammar.proofs.Wanted.{Has, Widens, word, placed, name, change, term, terms, relation, prop, names, variable, vars, contract, stop, go}
use Rattle.ql_grammar.proofs.Leading.{Leads, lead_on, both_lead}
use Rattle.ql_grammar.proofs.ExpressionSound.{unary_leads, multiplied_leads, added_leads, compared_leads, conjoined_leads, disjoined_leads, chosen_leads, arguments_leads}
use Rattle.ql_grammar.proofs.ProgramSound.{base_leads, kind_leads, beginning_leads, listed_leads, source_leads}

-- What follows a part, on a text of that part, is a text of the part above.

absorb_terms : {ts rest : List Marked} {ps : List Point} {below : List Sym} {vs out : List Value} → ReadsTerms ts rest ps → Has (Then MoreTerms ∷ below) (TheTerms ps ∷ vs) rest out → Has (APart TermList ∷ below) vs ts out
absorb_terms reads (stop h) = terms reads h
absorb_terms reads (go (word (term next (change h)))) = absorb_terms (more reads next) h

absorb_factors : {ts rest : List Marked} {r : Relation} {below : List Sym} {vs out : List Value} → ReadsRelation Product ts rest r → Has (Then MoreFactors ∷ below) (ARelation r ∷ vs) rest out → Has (APart (RelationAt Product) ∷ below) vs ts out
absorb_factors reads (stop h) = relation reads h
absorb_factors reads (go (word (relation next (change h)))) = absorb_factors (both reads next) h

absorb_summands : {ts rest : List Marked} {r : Relation} {below : List Sym} {vs out : List Value} → ReadsRelation Sum ts rest r → Has (Then MoreSummands ∷ below) (ARelation r ∷ vs) rest out → Has (APart (RelationAt Sum) ∷ below) vs ts out
absorb_summands reads (stop h) = relation reads h
absorb_summands reads (go (word (relation next (change h)))) = absorb_summands (either reads next) h

absorb_ands : {ts rest : List Marked} {p : Proposition} {below : List Sym} {vs out : List Value} → ReadsProp Both ts rest p → Has (Then MoreAnds ∷ below) (AProp p ∷ vs) rest out → Has (APart (PropAt Both) ∷ below) vs ts out
absorb_ands reads (stop h) = prop reads h
absorb_ands reads (go (word (prop next (change h)))) = absorb_ands (and reads next) h

absorb_ors : {ts rest : List Marked} {p : Proposition} {below : List Sym} {vs out : List Value} → ReadsProp Either ts rest p → Has (Then MoreOrs ∷ below) (AProp p ∷ vs) rest out → Has (APart (PropAt Either) ∷ below) vs ts out
absorb_ors reads (stop h) = prop reads h
absorb_ors reads (go (word (prop next (change h)))) = absorb_ors (or reads next) h

absorb_implied : {ts rest : List Marked} {p : Proposition} {below : List Sym} {vs out : List Value} → ReadsProp Either ts rest p → Has (Then MoreImplied ∷ below) (AProp p ∷ vs) rest out → Has (APart (PropAt Whole) ∷ below) vs ts out
absorb_implied reads (stop h) = prop (either reads) h
absorb_implied reads (go (word (prop next (change h)))) = prop (implies reads next) h

absorb_names : {ts rest : List Marked} {ns : List Name} {below : List Sym} {vs out : List Value} → ReadsNames Bar ts rest ns → Has (Then MoreNames ∷ below) (TheNames ns ∷ vs) rest out → Has (APart BarredNames ∷ below) vs ts out
absorb_names reads (stop h) = names reads h
absorb_names reads (go (word (name (change h)))) = absorb_names (more reads) h

absorb_operations : {x : List ℕ} {n : ℕ} {rest : List Marked} {below : List Sym} {vs out : List Value} → Has (Then Operations ∷ below) (AVar (record { name = record { word = x; at = n }; ops = [] }) ∷ vs) rest out → Has (APart Variable ∷ below) vs (marked Plain NameToken x n ∷ rest) out
absorb_operations (stop h) = variable free h
absorb_operations (go (word (names reads (change h)))) = variable (over reads) h

absorb_vars : {ts rest : List Marked} {us : List Var} {below : List Sym} {vs out : List Value} → ReadsVars ts rest us → Has (Then MoreVars ∷ below) (TheVars us ∷ vs) rest out → Has (APart VarList ∷ below) vs ts out
absorb_vars reads (stop h) = vars reads h
absorb_vars reads (go (word (variable next (change h)))) = absorb_vars (more reads next) h

-- terms

cur_way : {r : Role} {below : List Sym} → Widens (Placed CurWord r ∷ Do to_cur ∷ below) (APart (Term r) ∷ below)
cur_way vs out ts (placed (change h)) = term current h

variable_way : {r : Role} {below : List Sym} → Widens (ANameOf r ∷ Do to_variable ∷ below) (APart (Term r) ∷ below)
variable_way vs out ts (name (change h)) = term variable h

term_leads : (r : Role) (below : List Sym) → Leads (APart (Term r) ∷ below) (term_ways r below)
term_leads r below = (cur_way, (variable_way, tt))

terms_on : {below : List Sym} → Widens (APart (Term (Makes 1)) ∷ Do to_terms ∷ Then MoreTerms ∷ below) (APart TermList ∷ below)
terms_on vs out ts (term reads (change h)) = absorb_terms (one reads) h

-- relations

applied_way : {k : Terminal} {r : RelName} {below : List Sym} → IsRelationWord k r → Widens (Placed k (Makes 2) ∷ Do (to_basic r) ∷ below) (APart (RelationAt Applied) ∷ below)
applied_way is vs out ts (placed (change h)) = relation (applied_named is) h

applied_bracket_way : {below : List Sym} → Widens (Word OpenBracket (Opens 1) ∷ APart (RelationAt Sum) ∷ Word CloseBracket Closes ∷ below) (APart (RelationAt Applied) ∷ below)
applied_bracket_way vs out ts (word (relation reads (word h))) = relation (applied_bracket reads) h

applied_leads : (below : List Sym) → Leads (APart (RelationAt Applied) ∷ below) (relation_ways (Makes 2) (Opens 1) below)
applied_leads below =
    (applied_bracket_way, (applied_way vis, (applied_way so, (applied_way soo, (applied_way sameobj, (applied_way eq, (applied_way hb, (applied_way hbo, tt))))))))

single_way : {k : Terminal} {r : RelName} {below : List Sym} → IsRelationWord k r → Widens (Placed k (Makes 1) ∷ Do (to_basic r) ∷ below) (APart (RelationAt Single) ∷ below)
single_way is vs out ts (placed (change h)) = relation (named is) h

single_bracket_way : {below : List Sym} → Widens (Word OpenBracket (Opens 0) ∷ APart (RelationAt Sum) ∷ Word CloseBracket Closes ∷ below) (APart (RelationAt Single) ∷ below)
single_bracket_way vs out ts (word (relation reads (word h))) = relation (bracket reads) h

single_leads : (below : List Sym) → Leads (APart (RelationAt Single) ∷ below) (relation_ways (Makes 1) (Opens 0) below)
single_leads below =
    (single_bracket_way, (single_way vis, (single_way so, (single_way soo, (single_way sameobj, (single_way eq, (single_way hb, (single_way hbo, tt))))))))

product_on : {below : List Sym} → Widens (APart (RelationAt Single) ∷ Then MoreFactors ∷ below) (APart (RelationAt Product) ∷ below)
product_on vs out ts (relation reads h) = absorb_factors (single reads) h

sum_on : {below : List Sym} → Widens (APart (RelationAt Product) ∷ Then MoreSummands ∷ below) (APart (RelationAt Sum) ∷ below)
sum_on vs out ts (relation reads h) = absorb_summands (product reads) h

product_leads : (below : List Sym) → Leads (APart (RelationAt Product) ∷ below) (relation_ways (Makes 1) (Opens 0) (Then MoreFactors ∷ below))
product_leads below = lead_on (APart (RelationAt Single) ∷ Then MoreFactors ∷ below) (APart (RelationAt Product) ∷ below) (relation_ways (Makes 1) (Opens 0) (Then MoreFactors ∷ below)) product_on (single_leads (Then MoreFactors ∷ below))

-- what contracts say

truth_way : {below : List Sym} → Widens (Word TrueWord (Makes 1) ∷ Do add_truth ∷ below) (APart (PropAt Atom) ∷ below)
truth_way vs out ts (word (change h)) = prop truth h

group_way : {below : List Sym} → Widens (Word OpenParen (Opens 0) ∷ APart (PropAt Whole) ∷ Word CloseParen Closes ∷ below) (APart (PropAt Atom) ∷ below)
group_way vs out ts (word (prop reads (word h))) = prop (group reads) h

txn_way : {below : List Sym} → Widens (Placed TxnWord (Makes 1) ∷ Word OpenBrace Plain ∷ APart TermList ∷ Word CloseBrace Plain ∷ Word OpenBrace Plain ∷ APart TermList ∷ Word CloseBrace Plain ∷ Do to_txn ∷ below) (APart (PropAt Atom) ∷ below)
txn_way vs out ts (placed (word (terms first (word (word (terms second (word (change h)))))))) = prop (txn first second) h

equal_on : {below : List Sym} → Widens (APart (Term Plain) ∷ Placed Equals (Makes 2) ∷ APart (Term Plain) ∷ Do to_equality ∷ below) (APart (PropAt Atom) ∷ below)
equal_on vs out ts (term a (placed (term b (change h)))) = prop (equal a b) h

applied_on : {below : List Sym} → Widens (APart (RelationAt Applied) ∷ Word OpenParen (Opens 0) ∷ APart (Term Plain) ∷ Word Comma Plain ∷ APart (Term Plain) ∷ Word CloseParen Closes ∷ Do to_application ∷ below) (APart (PropAt Atom) ∷ below)
applied_on vs out ts (relation r (word (term a (word (term b (word (change h))))))) = prop (applied r a b) h

term_atom_leads : (below : List Sym) → Leads (APart (PropAt Atom) ∷ below) (term_ways Plain (Placed Equals (Makes 2) ∷ APart (Term Plain) ∷ Do to_equality ∷ below))
term_atom_leads below = lead_on (APart (Term Plain) ∷ Placed Equals (Makes 2) ∷ APart (Term Plain) ∷ Do to_equality ∷ below) (APart (PropAt Atom) ∷ below) (term_ways Plain (Placed Equals (Makes 2) ∷ APart (Term Plain) ∷ Do to_equality ∷ below)) equal_on (term_leads Plain (Placed Equals (Makes 2) ∷ APart (Term Plain) ∷ Do to_equality ∷ below))

relation_atom_leads : (below : List Sym) → Leads (APart (PropAt Atom) ∷ below) (relation_ways (Makes 2) (Opens 1) (Word OpenParen (Opens 0) ∷ APart (Term Plain) ∷ Word Comma Plain ∷ APart (Term Plain) ∷ Word CloseParen Closes ∷ Do to_application ∷ below))
relation_atom_leads below = lead_on (APart (RelationAt Applied) ∷ Word OpenParen (Opens 0) ∷ APart (Term Plain) ∷ Word Comma Plain ∷ APart (Term Plain) ∷ Word CloseParen Closes ∷ Do to_application ∷ below) (APart (PropAt Atom) ∷ below) (relation_ways (Makes 2) (Opens 1) (Word OpenParen (Opens 0) ∷ APart (Term Plain) ∷ Word Comma Plain ∷ APart (Term Plain) ∷ Word CloseParen Closes ∷ Do to_application ∷ below)) applied_on (applied_leads (Word OpenParen (Opens 0) ∷ APart (Term Plain) ∷ Word Comma Plain ∷ APart (Term Plain) ∷ Word CloseParen Closes ∷ Do to_application ∷ below))

atom_leads : (below : List Sym) → Leads (APart (PropAt Atom) ∷ below) (atom_ways below)
atom_leads below = (
  truth_way,
  (
    group_way,
    (
      txn_way,
      both_lead (APart (PropAt Atom) ∷ below) (term_ways Plain (Placed Equals (Makes 2) ∷ APart (Term Plain) ∷ Do to_equality ∷ below)) (relation_ways (Makes 2) (Opens 1) (Word OpenParen (Opens 0) ∷ APart (Term Plain) ∷ Word Comma Plain ∷ APart (Term Plain) ∷ Word CloseParen Closes ∷ Do to_application ∷ below)) (term_atom_leads below) (relation_atom_leads below),
    ),
  ),
)

both_on : {below : List Sym} → Widens (APart (PropAt Atom) ∷ Then MoreAnds ∷ below) (APart (PropAt Both) ∷ below)
both_on vs out ts (prop reads h) = absorb_ands (atom reads) h

either_on : {below : List Sym} → Widens (APart (PropAt Both) ∷ Then MoreOrs ∷ below) (APart (PropAt Either) ∷ below)
either_on vs out ts (prop reads h) = absorb_ors (both reads) h

whole_on : {below : List Sym} → Widens (APart (PropAt Either) ∷ Then MoreImplied ∷ below) (APart (PropAt Whole) ∷ below)
whole_on vs out ts (prop reads h) = absorb_implied reads h

both_leads : (below : List Sym) → Leads (APart (PropAt Both) ∷ below) (atom_ways (Then MoreAnds ∷ below))
both_leads below = lead_on (APart (PropAt Atom) ∷ Then MoreAnds ∷ below) (APart (PropAt Both) ∷ below) (atom_ways (Then MoreAnds ∷ below)) both_on (atom_leads (Then MoreAnds ∷ below))

either_leads : (below : List Sym) → Leads (APart (PropAt Either) ∷ below) (atom_ways (Then MoreAnds ∷ Then MoreOrs ∷ below))
either_leads below = lead_on (APart (PropAt Both) ∷ Then MoreOrs ∷ below) (APart (PropAt Either) ∷ below) (atom_ways (Then MoreAnds ∷ Then MoreOrs ∷ below)) either_on (both_leads (Then MoreOrs ∷ below))

whole_leads : (below : List Sym) → Leads (APart (PropAt Whole) ∷ below) (atom_ways (Then MoreAnds ∷ Then MoreOrs ∷ Then MoreImplied ∷ below))
whole_leads below = lead_on (APart (PropAt Either) ∷ Then MoreImplied ∷ below) (APart (PropAt Whole) ∷ below) (atom_ways (Then MoreAnds ∷ Then MoreOrs ∷ Then MoreImplied ∷ below)) whole_on (either_leads (Then MoreImplied ∷ below))

-- contracts

names_way : {below : List Sym} → Widens (ANameOf Plain ∷ Do to_names ∷ Then MoreNames ∷ below) (APart BarredNames ∷ below)
names_way vs out ts (name (change h)) = absorb_names one h

variable_name_way : {below : List Sym} → Widens (ANameOf Plain ∷ Do to_free ∷ Then Operations ∷ below) (APart Variable ∷ below)
variable_name_way vs out ts (name (change h)) = absorb_operations h

vars_on : {below : List Sym} → Widens (APart Variable ∷ Do to_vars ∷ Then MoreVars ∷ below) (APart VarList ∷ below)
vars_on vs out ts (variable reads (change h)) = absorb_vars (one reads) h

forall_way : {below : List Sym} → Widens (Word ForallWord Plain ∷ APart VarList ∷ Word Dot Plain ∷ APart (PropAt Whole) ∷ Do to_forall ∷ below) (APart WholeContract ∷ below)
forall_way vs out ts (word (vars some (word (prop body (change h))))) = contract (forall some body) h

plain_on : {below : List Sym} → Widens (APart (PropAt Whole) ∷ Do to_plain ∷ below) (APart WholeContract ∷ below)
plain_on vs out ts (prop body (change h)) = contract (plain body) h

-- each way of a part begins a text of it
pub leads : (p : Part) (below : List Sym) → Leads (APart p ∷ below) (ways p below)
leads (Term r) below = term_leads r below
leads TermList below = lead_on (APart (Term (Makes 1)) ∷ Do to_terms ∷ Then MoreTerms ∷ below) (APart TermList ∷ below) (term_ways (Makes 1) (Do to_terms ∷ Then MoreTerms ∷ below)) terms_on (term_leads (Makes 1) (Do to_terms ∷ Then MoreTerms ∷ below))
leads (RelationAt Applied) below = applied_leads below
leads (RelationAt Single) below = single_leads below
leads (RelationAt Product) below = product_leads below
leads (RelationAt Sum) below = lead_on (APart (RelationAt Product) ∷ Then MoreSummands ∷ below) (APart (RelationAt Sum) ∷ below) (relation_ways (Makes 1) (Opens 0) (Then MoreFactors ∷ Then MoreSummands ∷ below)) sum_on (product_leads (Then MoreSummands ∷ below))
leads (PropAt Atom) below = atom_leads below
leads (PropAt Both) below = both_leads below
leads (PropAt Either) below = either_leads below
leads (PropAt Whole) below = whole_leads below
leads BarredNames below = (names_way, tt)
leads Variable below = (variable_name_way, tt)
leads VarList below = lead_on (APart Variable ∷ Do to_vars ∷ Then MoreVars ∷ below) (APart VarList ∷ below) ((ANameOf Plain ∷ Do to_free ∷ Then Operations ∷ Do to_vars ∷ Then MoreVars ∷ below) ∷ []) vars_on ((variable_name_way, tt))
leads WholeContract below = (forall_way, lead_on (APart (PropAt Whole) ∷ Do to_plain ∷ below) (APart WholeContract ∷ below) (atom_ways (Then MoreAnds ∷ Then MoreOrs ∷ Then MoreImplied ∷ Do to_plain ∷ below)) plain_on (whole_leads (Do to_plain ∷ below)))
leads (ExprAt Unary) below = unary_leads below
leads (ExprAt Multiplied) below = multiplied_leads below
leads (ExprAt Added) below = added_leads below
leads (ExprAt Compared) below = compared_leads below
leads (ExprAt Conjoined) below = conjoined_leads below
leads (ExprAt Disjoined) below = disjoined_leads below
leads (ExprAt Chosen) below = chosen_leads below
leads Arguments below = arguments_leads below
leads BaseKind below = base_leads below
leads AnyKind below = kind_leads below
leads Beginning below = beginning_leads below
leads ListedNames below = listed_leads below
leads WholeSource below = source_leads below
