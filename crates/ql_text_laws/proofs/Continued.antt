-- Tokens, each spelled before a line feed.
use Rattle.std.proofs.Common.{◌≡◌, ℕ, ◌+◌, List, [], ◌∷◌, ◌++◌, Ok, length, slice_range, map, refl, sym, ap, ◌∙◌, subst, arith, append_assoc, length-append}
use Rattle.std.proofs.Math.Seq.{drop-append_seam}
use Rattle.ql_base.specs.Bytes.{is_blank}
use Rattle.ql_lex.specs.Starts.{StartsWith}
use Rattle.ql_lex.specs.Starts.StartsWith.{blank}
use Rattle.ql_lex.specs.Tokens.{Lexes, ends, gap, token}
use Rattle.ql_lex.specs.declared.start.Start.TheVariants.{Gap}
use Rattle.ql_lex.specs.declared.token.Token.{Token}
use Rattle.ql_grammar.specs.declared.role.Role.{Role}
use Rattle.ql_grammar.specs.declared.terminal.Terminal.{Terminal}
use Rattle.ql_grammar.specs.Tokens.{Marked, marked, lexemes, lexeme_of}
use Rattle.ql_text_laws.proofs.LexemePrefixes.{part_at}
use Rattle.ql_text_laws.proofs.Respelled.{AreAlike}
use Rattle.ql_text_laws.proofs.Terminals.{AreSomeTokens}
use Rattle.ql_text_laws.proofs.Spellings.{Spelling, spelling_of}

-- a token of a terminal in a role, with its bytes
pub record Spelled : Type 0 where
  pub role : Role
  pub what : Terminal
  pub spelling : Spelling what

abbrev pub bytes_of : Spelled → List ℕ
bytes_of s = s.spelling.bytes

-- the text of tokens, each before a line feed, that stand after a line feed at the offset `at`; and what they are
abbrev pub lines_of : List Spelled → List ℕ
lines_of [] = []
lines_of (s ∷ all) = bytes_of s ++ 10 ∷ lines_of all

abbrev pub tokens_of : ℕ → List Spelled → List Token
tokens_of at [] = []
tokens_of at (s ∷ all) = record { what = s.spelling.kind; from = at + 1; to = at + 1 + length (bytes_of s) } ∷ tokens_of (at + 1 + length (bytes_of s)) all

abbrev pub marks_of : ℕ → List Spelled → List Marked
marks_of at [] = []
marks_of at (s ∷ all) = marked s.role s.what (bytes_of s) (at + 1) ∷ marks_of (at + 1 + length (bytes_of s)) all

line_feed : (text : List ℕ) → StartsWith (10 ∷ text) (Gap 1)
unfolding is_blank
line_feed text = blank refl

pub lines_lex : (all : List Spelled) (at : ℕ) → Lexes at (10 ∷ lines_of all) (Ok (tokens_of at all))
lines_lex [] at = gap (line_feed []) ends
lines_lex (s ∷ all) at =
    let w = bytes_of s in
    let others = lines_lex all (at + 1 + length w) in
    gap (line_feed (w ++ 10 ∷ lines_of all))
    (token {r = Ok (tokens_of (at + 1 + length w) all)} (s.spelling.is.front (lines_of all))
    (subst (λ t. Lexes (at + 1 + length w) t (Ok (tokens_of (at + 1 + length w) all))) (sym (drop-append_seam w (10 ∷ lines_of all))) others))

pub lines_lexemes : (all : List Spelled) (before bytes : List ℕ) (at : ℕ) → at ≡ length before → bytes ≡ before ++ 10 ∷ lines_of all → map (lexeme_of bytes) (tokens_of at all) ≡ lexemes (marks_of at all)
lines_lexemes [] before bytes at here is = refl
lines_lexemes (s ∷ all) before bytes at here is =
    let w = bytes_of s in
    let opened : bytes ≡ (before ++ 10 ∷ []) ++ (w ++ 10 ∷ lines_of all) = is ∙ sym (append_assoc before (10 ∷ []) (w ++ 10 ∷ lines_of all)) in
    let start : at + 1 ≡ length (before ++ 10 ∷ []) = omega (arith, length-append before (10 ∷ [])) in
    let part : slice_range bytes (at + 1) (at + 1 + length w) ≡ w = rw start (part_at (before ++ 10 ∷ []) w (10 ∷ lines_of all) bytes opened) in
    let first : lexeme_of bytes (record { what = s.spelling.kind; from = at + 1; to = at + 1 + length w }) ≡ record { what = s.what; text = w; at = at + 1 } = rw (part, s.spelling.is.terminal) refl in
    let there : at + 1 + length w ≡ length ((before ++ 10 ∷ []) ++ w) = omega (arith, start, length-append (before ++ 10 ∷ []) w) in
    let others = lines_lexemes all ((before ++ 10 ∷ []) ++ w) bytes (at + 1 + length w) there (opened ∙ sym (append_assoc (before ++ 10 ∷ []) w (10 ∷ lines_of all))) in
    ap (λ l. l ∷ map (lexeme_of bytes) (tokens_of (at + 1 + length w) all)) first ∙ ap (λ ls. record { what = s.what; text = w; at = at + 1 } ∷ ls) others

-- tokens, spelled anew
abbrev pub respelled : (ms : List Marked) → AreSomeTokens ms → List Spelled
respelled [] some = []
respelled (m ∷ ms) some = record { role = m.role; what = m.lexeme.what; spelling = spelling_of m.lexeme.what some.0 } ∷ respelled ms some.1

pub respelled_alike : (ms : List Marked) (some : AreSomeTokens ms) (at : ℕ) → AreAlike ms (marks_of at (respelled ms some))
respelled_alike [] some at = tt
respelled_alike (m ∷ ms) some at = (refl, refl, respelled_alike ms some.1 (at + 1 + length (spelling_of m.lexeme.what some.0).bytes))
