use Rattle.std.proofs.Common.{◌≡◌, ℕ, List, [], ◌∷◌, ◌++◌, Some, None, false, Result, Ok, Err, refl, ap, ◌∙◌}
use Rattle.ql_grammar.specs.declared.terminal.Terminal.{Terminal}
use Rattle.ql_grammar.specs.declared.terminal.Terminal.TheVariants.{NameToken, StateWord, EmitWord, OpWord, TypeWord, TransactionWord, OpenParen, NoTerminal, Comma, Ampersand, Bar, AndMark, OrMark, Arrow, Colon}
use Rattle.ql_grammar.specs.Terminals.{is_same}
use Rattle.ql_grammar.specs.declared.role.Role.{Role}
use Rattle.ql_grammar.specs.Tokens.{Lexeme, Marked, marked, lexemes}
use Rattle.ql_grammar.specs.Limits.{Fault, Counts, counted, counted_all, if_within}
use Rattle.ql_grammar.specs.Table.{Value, Sym, Do, APart, Then, Part, Rest, ways, way_on, MoreTerms, MoreFactors, MoreSummands, MoreAnds, MoreOrs, MoreImplied, MoreNames, Operations, MoreVars, MoreTimes, MorePlus, Comparison, MoreConjoined, MoreDisjoined, Called, MoreArguments, MoreFields, SomeParams, MoreParams, MoreListed, MoreBindings, MoreAssignments, Effect, MoreOperations, MoreTypes, MoreTransactions, operator_at}
use Rattle.ql_grammar.specs.declared.precedence.Precedence.{Precedence}
use Rattle.ql_grammar.specs.declared.precedence.Precedence.TheVariants as precedence
use Rattle.ql_grammar.specs.Machine.{lead, first_fit, step, finish, run, go_on}

-- the first token, or the end, is the same to both stacks
abbrev pub SameHead : List Sym → List Value → List Sym → List Value → List Marked → Type 0
SameHead st vs s w [] = (end : ℕ) → finish st vs end ≡ finish s w end
SameHead st vs s w (m ∷ ms) = step st vs m.lexeme.what m.lexeme.text m.lexeme.at ≡ step s w m.lexeme.what m.lexeme.text m.lexeme.at

same_run : (st s : List Sym) (vs w : List Value) (ts : List Marked) → SameHead st vs s w ts → (c : Counts) (end : ℕ) → run (lexemes ts) st vs c end ≡ run (lexemes ts) s w c end
unfolding run
same_run st s vs w [] same c end = same end
same_run st s vs w (m ∷ ms) same c end = ap (λ o. go_on o c m.lexeme.at (λ s w d. run (lexemes ms) s w d end)) same

-- The machine takes the tokens from `ts` up to `rest`, each in its role, and comes from the first stacks to the
-- others.
pub data Path : List Sym → List Value → List Marked → List Sym → List Value → List Marked → Type 0 where
  here : {st : List Sym} {vs : List Value} {ts : List Marked} → Path st vs ts st vs ts
  take : {st s to : List Sym} {vs w out : List Value} {ts rest : List Marked} {r : Role} {k : Terminal} {x : List ℕ} {n : ℕ} → step st vs k x n ≡ Some (record { role = r; stack = s; values = w }) → Path s w ts to out rest → Path st vs (marked r k x n ∷ ts) to out rest
  via : {st s to : List Sym} {vs w out : List Value} {ts rest : List Marked} → SameHead st vs s w ts → Path s w ts to out rest → Path st vs ts to out rest

pub then : {a b c : List Sym} {u v w : List Value} {ts us rest : List Marked} → Path a u ts b v us → Path b v us c w rest → Path a u ts c w rest
then here q = q
then (take e p) q = take e (then p q)
then (via e p) q = via e (then p q)

-- a change of the values takes no token

do_head : (f : List Value → List Value) (below : List Sym) (vs : List Value) (ts : List Marked) → SameHead (Do f ∷ below) vs below (f vs) ts
unfolding step finish
do_head f below vs [] = λ end. refl
do_head f below vs (m ∷ ms) = refl

pub doing : {f : List Value → List Value} {below : List Sym} {vs : List Value} {ts : List Marked} → Path (Do f ∷ below) vs ts below (f vs) ts
doing {f = f} {below = below} {vs = vs} {ts = ts} = via (do_head f below vs ts) here

-- the first token, if any, isn't this one
abbrev pub IsClear : Terminal → List Marked → Type 0
IsClear k [] = Unit {0}
IsClear k (m ∷ ms) = is_same m.lexeme.what k ≡ false

-- the mark that goes on
abbrev pub mark_of : Rest → Terminal
mark_of MoreTerms = Comma
mark_of MoreFactors = Ampersand
mark_of MoreSummands = Bar
mark_of MoreAnds = AndMark
mark_of MoreOrs = OrMark
mark_of MoreImplied = Arrow
mark_of MoreNames = Bar
mark_of Operations = Colon
mark_of MoreVars = Comma
mark_of Called = OpenParen
mark_of MoreArguments = Comma
mark_of MoreFields = StateWord
mark_of SomeParams = NameToken
mark_of MoreParams = Comma
mark_of MoreListed = Comma
mark_of MoreBindings = Comma
mark_of MoreAssignments = NameToken
mark_of Effect = EmitWord
mark_of MoreOperations = OpWord
mark_of MoreTypes = TypeWord
mark_of MoreTransactions = TransactionWord
mark_of _ = NoTerminal

-- the first token, if any, is no operator of this precedence
abbrev pub IsNoOperator : Precedence → List Marked → Type 0
IsNoOperator l [] = Unit {0}
IsNoOperator l (m ∷ ms) = operator_at l m.lexeme.what ≡ None

-- nothing more follows
abbrev pub IsOver : Rest → List Marked → Type 0
IsOver MoreTimes ts = IsNoOperator precedence.Product ts
IsOver MorePlus ts = IsNoOperator precedence.Sum ts
IsOver Comparison ts = IsNoOperator precedence.Comparison ts
IsOver MoreConjoined ts = IsNoOperator precedence.Conjunction ts
IsOver MoreDisjoined ts = IsNoOperator precedence.Disjunction ts
IsOver l ts = IsClear (mark_of l) ts

no_lead : (l : Rest) (below : List Sym) (vs : List Value) (m : Marked) (ms : List Marked) → IsOver l (m ∷ ms) → lead (way_on l below) vs m.lexeme.what m.lexeme.text m.lexeme.at ≡ None
unfolding lead
no_lead MoreTerms below vs m ms clear = rw clear refl
no_lead MoreFactors below vs m ms clear = rw clear refl
no_lead MoreSummands below vs m ms clear = rw clear refl
no_lead MoreAnds below vs m ms clear = rw clear refl
no_lead MoreOrs below vs m ms clear = rw clear refl
no_lead MoreImplied below vs m ms clear = rw clear refl
no_lead MoreNames below vs m ms clear = rw clear refl
no_lead Operations below vs m ms clear = rw clear refl
no_lead MoreVars below vs m ms clear = rw clear refl
no_lead MoreTimes below vs m ms clear = rw clear refl
no_lead MorePlus below vs m ms clear = rw clear refl
no_lead Comparison below vs m ms clear = rw clear refl
no_lead MoreConjoined below vs m ms clear = rw clear refl
no_lead MoreDisjoined below vs m ms clear = rw clear refl
no_lead Called below vs m ms clear = rw clear refl
no_lead MoreArguments below vs m ms clear = rw clear refl
no_lead MoreFields below vs m ms clear = rw clear refl
no_lead SomeParams below vs m ms clear = rw clear refl
no_lead MoreParams below vs m ms clear = rw clear refl
no_lead MoreListed below vs m ms clear = rw clear refl
no_lead MoreBindings below vs m ms clear = rw clear refl
no_lead MoreAssignments below vs m ms clear = rw clear refl
no_lead Effect below vs m ms clear = rw clear refl
no_lead MoreOperations below vs m ms clear = rw clear refl
no_lead MoreTypes below vs m ms clear = rw clear refl
no_lead MoreTransactions below vs m ms clear = rw clear refl

pass_head : (l : Rest) (below : List Sym) (vs : List Value) (ts : List Marked) → IsOver l ts → SameHead (Then l ∷ below) vs below vs ts
unfolding step finish
pass_head l below vs [] clear = λ end. refl
pass_head l below vs (m ∷ ms) clear = rw (no_lead l below vs m ms clear) refl

-- where its mark doesn't stand, nothing follows
pub pass : (l : Rest) {below : List Sym} {vs : List Value} {ts : List Marked} → IsOver l ts → Path (Then l ∷ below) vs ts below vs ts
pass l {below = below} {vs = vs} {ts = ts} clear = via (pass_head l below vs ts clear) here

part_head : (p q : Part) (below under : List Sym) (vs : List Value) → ways p below ≡ ways q under → (ts : List Marked) → SameHead (APart p ∷ below) vs (APart q ∷ under) vs ts
unfolding step finish
part_head p q below under vs same [] = λ end. refl
part_head p q below under vs same (m ∷ ms) = ap (λ all. first_fit all vs m.lexeme.what m.lexeme.text m.lexeme.at) same

-- parts with the same ways are read the same
pub as_part : (p q : Part) (below under : List Sym) {vs : List Value} {ts : List Marked} → ways p below ≡ ways q under → Path (APart p ∷ below) vs ts (APart q ∷ under) vs ts
as_part p q below under {vs = vs} {ts = ts} same = via (part_head p q below under vs same ts) here

pub within_then : (w : Result Counts Fault) (f : Counts → Result (List Value) Fault) (g : Counts → Result Counts Fault) (h : Counts → Result (List Value) Fault) → ((d : Counts) → f d ≡ if_within (g d) h) → if_within w f ≡ if_within (if_within w g) h
within_then (Ok d) f g h same = same d
within_then (Err e) f g h same = refl

-- what the tokens of a path do: they are counted, and then the run goes on after them
pub record Runs (st : List Sym) (vs : List Value) (ts : List Marked) (to : List Sym) (out : List Value) (rest : List Marked) : Type 0 where
  pub taken : List Marked
  pub all : ts ≡ taken ++ rest
  pub runs : (c : Counts) (end : ℕ) → run (lexemes ts) st vs c end ≡ if_within (counted_all c taken) (λ d. run (lexemes rest) to out d end)

pub take_run : (st : List Sym) (vs : List Value) (k : Terminal) (x : List ℕ) (n : ℕ) {s : List Sym} {w : List Value} {r : Role} (ts : List Lexeme) (c : Counts) (end : ℕ) → step st vs k x n ≡ Some (record { role = r; stack = s; values = w }) → run (record { what = k; text = x; at = n } ∷ ts) st vs c end ≡ if_within (counted c r n) (λ d. run ts s w d end)
unfolding run
take_run st vs k x n ts c end e = rw e refl

taken_runs : {st s to : List Sym} {vs w out : List Value} {ts rest : List Marked} {r : Role} {k : Terminal} {x : List ℕ} {n : ℕ} → step st vs k x n ≡ Some (record { role = r; stack = s; values = w }) → Runs s w ts to out rest → Runs st vs (marked r k x n ∷ ts) to out rest
unfolding counted_all
taken_runs {st = st} {s = s} {to = to} {vs = vs} {w = w} {out = out} {ts = ts} {rest = rest} {r = r} {k = k} {x = x} {n = n} e next = record {
  taken = marked r k x n ∷ next.taken;
  all = ap (λ us. marked r k x n ∷ us) next.all;
  runs = λ c end. take_run st vs k x n (lexemes ts) c end e ∙ within_then (counted c r n) (λ d. run (lexemes ts) s w d end) (λ d. counted_all d next.taken) (λ d. run (lexemes rest) to out d end) (λ d. next.runs d end);
}

pub path_runs : {st to : List Sym} {vs out : List Value} {ts rest : List Marked} → Path st vs ts to out rest → Runs st vs ts to out rest
unfolding counted_all
path_runs here = record { taken = []; all = refl; runs = λ c end. refl }
path_runs (take e p) = taken_runs e (path_runs p)
path_runs {st = st} {vs = vs} {ts = ts} (via {s = s} {w = w} e p) =
    let next = path_runs p in
    record { taken = next.taken; all = next.all; runs = λ c end. same_run st s vs w ts e c end ∙ next.runs c end }
