-- A text has at least two bytes for each operation that its contract's variables name.
use Rattle.std.proofs.Common.{◌≡◌, ◌+◌, ◌*◌, ◌≤◌, ◌<◌, ℕ, List, [], ◌∷◌, ◌++◌, Result, Ok, Err, refl, subst, ap, arith, length, drop, length-append}
use Rattle.std.specs.List.{flat_map}
use Rattle.std.proofs.lemmas.List.{length-drop, length-map}
use Rattle.std.proofs.lemmas.Fmt.{decimal_nonempty}
use Rattle.ql_lex.specs.Starts.{StartsWith}
use Rattle.ql_lex.specs.Starts.StartsWith.{name, keyword, number, text as quoted, pair, mark}
use Rattle.ql_lex.specs.Tokens.{Lexes, ends, gap, token, no_token, too_long, no_number, preceded}
use Rattle.ql_lex.specs.declared.start.Start.TheVariants.{Lexeme}
use Rattle.ql_lex.specs.declared.token.LexFault.{LexFault}
use Rattle.ql_lex.specs.declared.token.Token.{Token}
use Rattle.ql_lex.specs.declared.token.TokenKind.{TokenKind}
use Rattle.ql_lang.specs.declared.contract.Var.{Var}
use Rattle.ql_lang.specs.declared.name.Name.{Name}
use Rattle.ql_lang.specs.Trees.{Sentence}
use Rattle.ql_grammar.specs.declared.terminal.Terminal.{Terminal}
use Rattle.ql_grammar.specs.Tokens.{Marked, lexeme_of, lexemes}
use Rattle.ql_grammar.specs.ContractGrammar.{ReadsContract, plain, forall, ReadsNames, ReadsVar, free, over, ReadsVars, one, more}
use Rattle.ql_parse.specs.Parsing.{IsContractText}

-- a token lies within its text, and isn't empty
token_within : {t : List ℕ} {what : TokenKind} {n : ℕ} → StartsWith t (Lexeme what n) → (0 < n) × (n ≤ length t)
token_within (name w rest word stop unkept short) = (word.some, omega (arith, length-append w rest))
token_within (keyword w rest word stop kept) = (word.some, omega (arith, length-append w rest))
token_within (number {n} w rest spelled stop) = (rw (← spelled.spelled) (decimal_nonempty n (omega (arith, spelled.bounded))), omega (arith, length-append w rest))
token_within (quoted w rest h short) = (omega arith, omega (arith, length-append w (34 ∷ rest)))
token_within (pair h) = (omega arith, omega arith)
token_within (mark h stop) = (omega arith, omega arith)

few_after : (t : Token) (r : Result (List Token) LexFault) (n : ℕ) → ((us : List Token) → r ≡ Ok us → length us ≤ n) → (ts : List Token) → preceded (t ∷ []) r ≡ Ok ts → length ts ≤ n + 1
few_after t (Ok us) n few ts is = let e : t ∷ us ≡ ts = cc in subst (λ (l : List Token). length l ≤ n + 1) e (omega (arith, few us refl))
few_after t (Err f) n few ts is = cc

-- a text has at most as many tokens as bytes
few_tokens : {at : ℕ} {text : List ℕ} {o : Result (List Token) LexFault} → Lexes at text o → (ts : List Token) → o ≡ Ok ts → length ts ≤ length text
few_tokens ends ts is = let e : [] ≡ ts = cc in subst (λ (l : List Token). length l ≤ 0) e (omega arith)
few_tokens (gap {n = n} {text = text} front lexes) ts is = let rest = few_tokens lexes ts is in omega (arith, rest, length-drop n text)
few_tokens (token {at = at} {n = n} {what = what} {text = text} {r = r} front lexes) ts is =
    let within = token_within front in
    let rest = few_after (record { what = what; from = at; to = at + n }) r (length (drop n text)) (few_tokens lexes) ts is in
    omega (arith, within.0, within.1, rest, length-drop n text)
few_tokens (no_token front) ts is = cc
few_tokens (too_long front) ts is = cc
few_tokens (no_number front) ts is = cc

-- each operation takes a token, and the colon or the bar before it another

names_read : {k : Terminal} {ts rest : List Marked} {ns : List Name} → ReadsNames k ts rest ns → 2 * length ns + length rest ≤ length ts + 1
names_read one = omega arith
names_read (more {x = x} {n = n} {names = ns} reads) = omega (arith, names_read reads, length-append ns (record { word = x; at = n } ∷ []))

var_read : {ts rest : List Marked} {v : Var} → ReadsVar ts rest v → 2 * length v.ops + length rest ≤ length ts
var_read free = omega arith
var_read (over reads) = omega (arith, names_read reads)

ops_after : (vs : List Var) (v : Var) → length (flat_map (λ (u : Var). u.ops) (vs ++ v ∷ [])) ≡ length (flat_map (λ (u : Var). u.ops) vs) + length v.ops
ops_after [] v = omega (arith, length-append v.ops [])
ops_after (w ∷ ws) v =
    let rest = ops_after ws v in
    omega (arith, rest, length-append w.ops (flat_map (λ (u : Var). u.ops) (ws ++ v ∷ [])), length-append w.ops (flat_map (λ (u : Var). u.ops) ws))

vars_read : {ts rest : List Marked} {vs : List Var} → ReadsVars ts rest vs → 2 * length (flat_map (λ (u : Var). u.ops) vs) + length rest ≤ length ts
vars_read (one {v = v} reads) = omega (arith, var_read reads, length-append v.ops [])
vars_read (more {vs = vs} {v = v} many reads) = omega (arith, vars_read many, var_read reads, ops_after vs v)

contract_read : {ts rest : List Marked} {s : Sentence} → ReadsContract ts rest s → 2 * length (flat_map (λ (u : Var). u.ops) s.vars) ≤ length ts
contract_read (plain reads) = omega arith
contract_read (forall many reads) = omega (arith, vars_read many)

count_lexemes : (ms : List Marked) → length (lexemes ms) ≡ length ms
count_lexemes [] = refl
count_lexemes (m ∷ ms) = omega (arith, count_lexemes ms)

pub few_operations : (bytes : List ℕ) (s : Sentence) → IsContractText bytes s → 2 * length (flat_map (λ v. v.ops) s.vars) ≤ length bytes
few_operations bytes s t =
    omega (arith, contract_read t.parses.reads, count_lexemes t.parses.marks, ap length t.parses.are, length-map t.tokens (lexeme_of bytes), few_tokens t.lexes t.tokens refl)
