-- one more gap or token of a text
use Rattle.std.proofs.Common.{◌≡◌, ◌≤◌, ◌+◌, ◌-◌, ℕ, List, [], ◌∷◌, ◌++◌, Result, Ok, Err, length, take, drop, arith, refl, sym, ap, subst, append_assoc, length-drop}
use Rattle.std.proofs.lemmas.List.{take_all, drop_all, drop-drop, append-nil}
use Rattle.ql_lex.specs.Starts.{StartsWith}
use Rattle.ql_lex.specs.Tokens.{Lexes, preceded}
use Rattle.ql_lex.specs.Tokens.Lexes.{ends, gap, token, no_token, too_long, no_number}
use Rattle.ql_lex.specs.declared.start.Start.{Start}
use Rattle.ql_lex.specs.declared.start.Start.TheVariants.{Gap, Lexeme, NoToken, TooLong, NoNumber}
use Rattle.ql_lex.specs.declared.token.Token.{Token}
use Rattle.ql_lex.specs.declared.token.TokenKind.{TokenKind}
use Rattle.ql_lex.specs.declared.token.LexFault.{LexFault}
use Rattle.ql_lex.specs.declared.token.LexFault.TheVariants.{BadChar, LongWord, BadNumber}

-- what stands before is told in two steps
preceded_twice : (ts us : List Token) (r : Result (List Token) LexFault) → preceded ts (preceded us r) ≡ preceded (ts ++ us) r
preceded_twice ts us (Ok vs) = ap Ok (sym (append_assoc ts us vs))
preceded_twice ts us (Err e) = refl

module _ (bytes : List ℕ) (at : ℕ) (ts : List Token) (so_far : (r : Result (List Token) LexFault) → Lexes at (drop at bytes) r → Lexes 0 bytes (preceded ts r)) where
  -- the slice that is read is the rest of the text
  here : {f : Start} → StartsWith (take (length bytes - at) (drop at bytes)) f → StartsWith (drop at bytes) f
  here {f} h = subst (λ t. StartsWith t f) (take_all (length bytes - at) (drop at bytes) (omega (arith, length-drop at bytes))) h

  pub after_gap : (n : ℕ) → StartsWith (take (length bytes - at) (drop at bytes)) (Gap n) → (r : Result (List Token) LexFault) → Lexes (at + n) (drop (at + n) bytes) r → Lexes 0 bytes (preceded ts r)
  after_gap n front r rest = so_far r (gap (here front) (rw drop-drop rest))

  pub after_token : (what : TokenKind) (n : ℕ) → StartsWith (take (length bytes - at) (drop at bytes)) (Lexeme what n) → (r : Result (List Token) LexFault) → Lexes (at + n) (drop (at + n) bytes) r → Lexes 0 bytes (preceded (ts ++ record { what = what; from = at; to = at + n } ∷ []) r)
  after_token what n front r rest = rw (← preceded_twice) (so_far _ (token (here front) (rw drop-drop rest)))

  pub at_no_token : (n : ℕ) → StartsWith (take (length bytes - at) (drop at bytes)) (NoToken n) → Lexes 0 bytes (Err (BadChar (at + n)))
  at_no_token n front = so_far _ (no_token (here front))

  pub at_too_long : StartsWith (take (length bytes - at) (drop at bytes)) TooLong → Lexes 0 bytes (Err (LongWord at))
  at_too_long front = so_far _ (too_long (here front))

  pub at_no_number : StartsWith (take (length bytes - at) (drop at bytes)) NoNumber → Lexes 0 bytes (Err (BadNumber at))
  at_no_number front = so_far _ (no_number (here front))

  pub at_end : length bytes ≤ at → Lexes 0 bytes (Ok ts)
  at_end done = rw append-nil at (so_far (Ok []) (subst (λ t. Lexes at t (Ok [])) (sym (drop_all at bytes done)) ends))
