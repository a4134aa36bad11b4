-- tokens ascend, and lie within their text
use Rattle.std.proofs.Common.{◌≡◌, ◌<◌, ◌+◌, ℕ, List, [], ◌∷◌, Result, Ok, Err, length, arith, length-drop}
use Rattle.ql_lex.specs.Tokens.{Lexes, preceded, AreSpans}
use Rattle.ql_lex.specs.Tokens.Lexes.{ends, gap, token, no_token, too_long, no_number}
use Rattle.ql_lex.specs.declared.token.Token.{Token}
use Rattle.ql_lex.specs.declared.token.TokenKind.{TokenKind}
use Rattle.ql_lex.specs.declared.token.LexFault.{LexFault}
use Rattle.ql_lex.proofs.Within.{front_within}

-- the tokens of an answer are spans
abbrev SpansOf : ℕ → ℕ → Result (List Token) LexFault → Type 0
SpansOf at end (Ok ts) = AreSpans at end ts
SpansOf at end (Err fault) = Unit {0}

wider : (at by end : ℕ) (ts : List Token) → AreSpans (at + by) end ts → AreSpans at end ts
wider at by end [] h = omega arith
wider at by end (t ∷ ts) h = (omega (arith, h.0), h.1, h.2)

widened : (at by end : ℕ) (r : Result (List Token) LexFault) → SpansOf (at + by) end r → SpansOf at end r
widened at by end (Ok ts) h = wider at by end ts h
widened at by end (Err fault) h = tt

joined : (at n end : ℕ) (what : TokenKind) (r : Result (List Token) LexFault) → 0 < n → SpansOf (at + n) end r → SpansOf at end (preceded (record { what = what; from = at; to = at + n } ∷ []) r)
joined at n end what (Ok ts) some h = (omega arith, omega arith, h)
joined at n end what (Err fault) some h = tt

spans_of : {at : ℕ} {text : List ℕ} {r : Result (List Token) LexFault} (end : ℕ) → at + length text ≡ end → Lexes at text r → SpansOf at end r
spans_of end e ends = omega arith
spans_of end e (gap {at} {n} {text} {r} front rest) = let w = front_within front in widened at n end r (spans_of end (omega (arith, length-drop n text, w.1)) rest)
spans_of end e (token {at} {n} {what} {text} {r} front rest) = let w = front_within front in joined at n end what r w.0 (spans_of end (omega (arith, length-drop n text, w.1)) rest)
spans_of end e (no_token front) = tt
spans_of end e (too_long front) = tt
spans_of end e (no_number front) = tt

pub tokens_spans : (text : List ℕ) (ts : List Token) → Lexes 0 text (Ok ts) → AreSpans 0 (length text) ts
tokens_spans text ts h = spans_of {r = Ok ts} (length text) (omega arith) h
