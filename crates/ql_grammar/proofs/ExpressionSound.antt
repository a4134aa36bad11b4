use Rattle.std.proofs.Common.{ℕ, List, ◌∷◌, true, false}
use Rattle.ql_lang.specs.Expressions.{Expression, Reading}
use Rattle.ql_grammar.specs.declared.terminal.Terminal.TheVariants.{NameToken, IntToken, TextToken, TrueWord, FalseWord, UnitWord, IfWord, ThenWord, ElseWord, NotWord, OpenParen, CloseParen, Minus}
use Rattle.ql_grammar.specs.declared.role.Role.TheVariants.{Plain, Makes, Opens, Closes}
use Rattle.ql_grammar.specs.Tokens.{Marked, marked}
use Rattle.ql_grammar.specs.ExpressionGrammar.{Unary, Multiplied, Added, Compared, Conjoined, Disjoined, Chosen, ReadsExpr, ReadsArguments, number, text, true_value, false_value, unit_value, variable, call, group, denial, negation, unary, product, multiplied, sum, added, comparison, compared, both, conjoined, either, disjoined, choice, one, more}
use Rattle.ql_grammar.specs.Table.{Value, AnExpr, TheExprs, Sym, Word, Placed, ANameOf, Kept, Do, APart, Then, ExprAt, Arguments, MoreTimes, MorePlus, Comparison, MoreConjoined, MoreDisjoined, Called, MoreArguments, unary_ways, disjoined_ways, chosen_ways, to_number, to_literal, to_truth, to_nothing, to_reading, to_group, to_denial, to_negation, to_choice, to_arguments}
use Rattle.ql_grammar.proofs.Wanted.{Has, Widens, word, placed, name, kept, operator, change, expr, arguments, stop, go}
use Rattle.ql_grammar.proofs.Leading.{Leads, lead_on}

-- What follows a part of an expression, on a text of that part, is a text of the part above.

absorb_times : {ts rest : List Marked} {s : ℕ} {e : Expression} {below : List Sym} {vs out : List Value} → ReadsExpr Multiplied ts rest s e → Has (Then MoreTimes ∷ below) (AnExpr s e ∷ vs) rest out → Has (APart (ExprAt Multiplied) ∷ below) vs ts out
absorb_times reads (stop h) = expr reads h
absorb_times reads (go (operator is (expr next (change h)))) = absorb_times (product is reads next) h

absorb_plus : {ts rest : List Marked} {s : ℕ} {e : Expression} {below : List Sym} {vs out : List Value} → ReadsExpr Added ts rest s e → Has (Then MorePlus ∷ below) (AnExpr s e ∷ vs) rest out → Has (APart (ExprAt Added) ∷ below) vs ts out
absorb_plus reads (stop h) = expr reads h
absorb_plus reads (go (operator is (expr next (change h)))) = absorb_plus (sum is reads next) h

absorb_comparison : {ts rest : List Marked} {s : ℕ} {e : Expression} {below : List Sym} {vs out : List Value} → ReadsExpr Added ts rest s e → Has (Then Comparison ∷ below) (AnExpr s e ∷ vs) rest out → Has (APart (ExprAt Compared) ∷ below) vs ts out
absorb_comparison reads (stop h) = expr (added reads) h
absorb_comparison reads (go (operator is (expr next (change h)))) = expr (comparison is reads next) h

absorb_conjoined : {ts rest : List Marked} {s : ℕ} {e : Expression} {below : List Sym} {vs out : List Value} → ReadsExpr Conjoined ts rest s e → Has (Then MoreConjoined ∷ below) (AnExpr s e ∷ vs) rest out → Has (APart (ExprAt Conjoined) ∷ below) vs ts out
absorb_conjoined reads (stop h) = expr reads h
absorb_conjoined reads (go (operator is (expr next (change h)))) = absorb_conjoined (both is reads next) h

absorb_disjoined : {ts rest : List Marked} {s : ℕ} {e : Expression} {below : List Sym} {vs out : List Value} → ReadsExpr Disjoined ts rest s e → Has (Then MoreDisjoined ∷ below) (AnExpr s e ∷ vs) rest out → Has (APart (ExprAt Disjoined) ∷ below) vs ts out
absorb_disjoined reads (stop h) = expr reads h
absorb_disjoined reads (go (operator is (expr next (change h)))) = absorb_disjoined (either is reads next) h

absorb_called : {x : List ℕ} {n : ℕ} {rest : List Marked} {below : List Sym} {vs out : List Value} → Has (Then Called ∷ below) (AnExpr n (Reading n (record { word = x; at = n })) ∷ vs) rest out → Has (APart (ExprAt Unary) ∷ below) vs (marked (Makes 1) NameToken x n ∷ rest) out
absorb_called (stop h) = expr variable h
absorb_called (go (word (arguments reads (word (change h))))) = expr (call reads) h

absorb_arguments : {ts rest : List Marked} {es : List Expression} {below : List Sym} {vs out : List Value} → ReadsArguments ts rest es → Has (Then MoreArguments ∷ below) (TheExprs es ∷ vs) rest out → Has (APart Arguments ∷ below) vs ts out
absorb_arguments reads (stop h) = arguments reads h
absorb_arguments reads (go (word (expr next (change h)))) = absorb_arguments (more reads next) h

-- the ways of the most binding part

number_way : {below : List Sym} → Widens (Kept IntToken (Makes 1) ∷ Do to_number ∷ below) (APart (ExprAt Unary) ∷ below)
number_way vs out ts (kept (change h)) = expr number h

text_way : {below : List Sym} → Widens (Kept TextToken (Makes 1) ∷ Do to_literal ∷ below) (APart (ExprAt Unary) ∷ below)
text_way vs out ts (kept (change h)) = expr text h

true_way : {below : List Sym} → Widens (Placed TrueWord (Makes 1) ∷ Do (to_truth true) ∷ below) (APart (ExprAt Unary) ∷ below)
true_way vs out ts (placed (change h)) = expr true_value h

false_way : {below : List Sym} → Widens (Placed FalseWord (Makes 1) ∷ Do (to_truth false) ∷ below) (APart (ExprAt Unary) ∷ below)
false_way vs out ts (placed (change h)) = expr false_value h

unit_way : {below : List Sym} → Widens (Placed UnitWord (Makes 1) ∷ Do to_nothing ∷ below) (APart (ExprAt Unary) ∷ below)
unit_way vs out ts (placed (change h)) = expr unit_value h

name_way : {below : List Sym} → Widens (ANameOf (Makes 1) ∷ Do to_reading ∷ Then Called ∷ below) (APart (ExprAt Unary) ∷ below)
name_way vs out ts (name (change h)) = absorb_called h

group_way : {below : List Sym} → Widens (Placed OpenParen (Opens 0) ∷ APart (ExprAt Chosen) ∷ Word CloseParen Closes ∷ Do to_group ∷ below) (APart (ExprAt Unary) ∷ below)
group_way vs out ts (placed (expr reads (word (change h)))) = expr (group reads) h

denial_way : {below : List Sym} → Widens (Placed NotWord (Makes 1) ∷ APart (ExprAt Unary) ∷ Do to_denial ∷ below) (APart (ExprAt Unary) ∷ below)
denial_way vs out ts (placed (expr reads (change h))) = expr (denial reads) h

negation_way : {below : List Sym} → Widens (Placed Minus (Makes 1) ∷ APart (ExprAt Unary) ∷ Do to_negation ∷ below) (APart (ExprAt Unary) ∷ below)
negation_way vs out ts (placed (expr reads (change h))) = expr (negation reads) h

pub unary_leads : (below : List Sym) → Leads (APart (ExprAt Unary) ∷ below) (unary_ways below)
unary_leads below = (number_way, (text_way, (name_way, (group_way, (denial_way, (negation_way, (true_way, (false_way, (unit_way, tt)))))))))

-- the other parts, each by the one before it

multiplied_on : {below : List Sym} → Widens (APart (ExprAt Unary) ∷ Then MoreTimes ∷ below) (APart (ExprAt Multiplied) ∷ below)
multiplied_on vs out ts (expr reads h) = absorb_times (unary reads) h

pub multiplied_leads : (below : List Sym) → Leads (APart (ExprAt Multiplied) ∷ below) (unary_ways (Then MoreTimes ∷ below))
multiplied_leads below = lead_on (APart (ExprAt Unary) ∷ Then MoreTimes ∷ below) (APart (ExprAt Multiplied) ∷ below) (unary_ways (Then MoreTimes ∷ below)) multiplied_on (unary_leads (Then MoreTimes ∷ below))

added_on : {below : List Sym} → Widens (APart (ExprAt Multiplied) ∷ Then MorePlus ∷ below) (APart (ExprAt Added) ∷ below)
added_on vs out ts (expr reads h) = absorb_plus (multiplied reads) h

pub added_leads : (below : List Sym) → Leads (APart (ExprAt Added) ∷ below) (unary_ways (Then MoreTimes ∷ Then MorePlus ∷ below))
added_leads below = lead_on (APart (ExprAt Multiplied) ∷ Then MorePlus ∷ below) (APart (ExprAt Added) ∷ below) (unary_ways (Then MoreTimes ∷ Then MorePlus ∷ below)) added_on (multiplied_leads (Then MorePlus ∷ below))

compared_on : {below : List Sym} → Widens (APart (ExprAt Added) ∷ Then Comparison ∷ below) (APart (ExprAt Compared) ∷ below)
compared_on vs out ts (expr reads h) = absorb_comparison reads h

pub compared_leads : (below : List Sym) → Leads (APart (ExprAt Compared) ∷ below) (unary_ways (Then MoreTimes ∷ Then MorePlus ∷ Then Comparison ∷ below))
compared_leads below = lead_on (APart (ExprAt Added) ∷ Then Comparison ∷ below) (APart (ExprAt Compared) ∷ below) (unary_ways (Then MoreTimes ∷ Then MorePlus ∷ Then Comparison ∷ below)) compared_on (added_leads (Then Comparison ∷ below))

conjoined_on : {below : List Sym} → Widens (APart (ExprAt Compared) ∷ Then MoreConjoined ∷ below) (APart (ExprAt Conjoined) ∷ below)
conjoined_on vs out ts (expr reads h) = absorb_conjoined (compared reads) h

pub conjoined_leads : (below : List Sym) → Leads (APart (ExprAt Conjoined) ∷ below) (unary_ways (Then MoreTimes ∷ Then MorePlus ∷ Then Comparison ∷ Then MoreConjoined ∷ below))
conjoined_leads below = lead_on (APart (ExprAt Compared) ∷ Then MoreConjoined ∷ below) (APart (ExprAt Conjoined) ∷ below) (unary_ways (Then MoreTimes ∷ Then MorePlus ∷ Then Comparison ∷ Then MoreConjoined ∷ below)) conjoined_on (compared_leads (Then MoreConjoined ∷ below))

disjoined_on : {below : List Sym} → Widens (APart (ExprAt Conjoined) ∷ Then MoreDisjoined ∷ below) (APart (ExprAt Disjoined) ∷ below)
disjoined_on vs out ts (expr reads h) = absorb_disjoined (conjoined reads) h

pub disjoined_leads : (below : List Sym) → Leads (APart (ExprAt Disjoined) ∷ below) (disjoined_ways below)
disjoined_leads below = lead_on (APart (ExprAt Conjoined) ∷ Then MoreDisjoined ∷ below) (APart (ExprAt Disjoined) ∷ below) (disjoined_ways below) disjoined_on (conjoined_leads (Then MoreDisjoined ∷ below))

choice_way : {below : List Sym} → Widens (Placed IfWord (Makes 1) ∷ APart (ExprAt Chosen) ∷ Word ThenWord Plain ∷ APart (ExprAt Chosen) ∷ Word ElseWord Plain ∷ APart (ExprAt Chosen) ∷ Do to_choice ∷ below) (APart (ExprAt Chosen) ∷ below)
choice_way vs out ts (placed (expr a (word (expr b (word (expr c (change h))))))) = expr (choice a b c) h

chosen_on : {below : List Sym} → Widens (APart (ExprAt Disjoined) ∷ below) (APart (ExprAt Chosen) ∷ below)
chosen_on vs out ts (expr reads h) = expr (disjoined reads) h

pub chosen_leads : (below : List Sym) → Leads (APart (ExprAt Chosen) ∷ below) (chosen_ways below)
chosen_leads below = (choice_way, lead_on (APart (ExprAt Disjoined) ∷ below) (APart (ExprAt Chosen) ∷ below) (disjoined_ways below) chosen_on (disjoined_leads below))

arguments_on : {below : List Sym} → Widens (APart (ExprAt Chosen) ∷ Do to_arguments ∷ Then MoreArguments ∷ below) (APart Arguments ∷ below)
arguments_on vs out ts (expr reads (change h)) = absorb_arguments (one reads) h

pub arguments_leads : (below : List Sym) → Leads (APart Arguments ∷ below) (chosen_ways (Do to_arguments ∷ Then MoreArguments ∷ below))
arguments_leads below = lead_on (APart (ExprAt Chosen) ∷ Do to_arguments ∷ Then MoreArguments ∷ below) (APart Arguments ∷ below) (chosen_ways (Do to_arguments ∷ Then MoreArguments ∷ below)) arguments_on (chosen_leads (Do to_arguments ∷ Then MoreArguments ∷ below))
