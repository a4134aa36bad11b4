-- A text has one answer.
use Rattle.std.proofs.Common.{◌≡◌, ◌≤◌, ◌<◌, ◌+◌, ℕ, zero, suc, List, [], ◌∷◌, Result, Ok, Err, length, length-drop, drop, arith, refl, sym, ap, ◌∙◌, subst}
use Rattle.ql_lex.specs.Starts.{StartsWith}
use Rattle.ql_lex.specs.Tokens.{Lexes, preceded, FitsIn}
use Rattle.ql_lex.specs.Tokens.Lexes.{ends, gap, token, no_token, too_long, no_number}
use Rattle.ql_lex.specs.declared.start.Start.{Start}
use Rattle.ql_lex.specs.declared.start.Start.TheVariants.{Gap, Lexeme, NoToken, TooLong, NoNumber}
use Rattle.ql_lex.specs.declared.token.Token.{Token}
use Rattle.ql_lex.specs.declared.token.LexFault.{LexFault}
use Rattle.ql_lex.specs.declared.token.LexFault.TheVariants.{BadChar, LongWord, BadNumber}
use Rattle.ql_lex.proofs.OneStart.{front_is, front_some}
use Rattle.ql_lex.proofs.SomeStart.{some_front}
use Rattle.ql_lex.proofs.Within.{front_within}

-- what an answer is behind a front
abbrev Behind : ℕ → List ℕ → Start → Result (List Token) LexFault → Type 0
Behind at text (Gap n) s = Lexes (at + n) (drop n text) s
Behind at text (Lexeme what n) s = (r : Result (List Token) LexFault) × Lexes (at + n) (drop n text) r × (preceded (record { what = what; from = at; to = at + n } ∷ []) r ≡ s)
Behind at text (NoToken n) s = Err (BadChar (at + n)) ≡ s
Behind at text TooLong s = Err (LongWord at) ≡ s
Behind at text NoNumber s = Err (BadNumber at) ≡ s

behind_front : (at : ℕ) (text : List ℕ) {f g : Start} (s : Result (List Token) LexFault) → StartsWith text f → StartsWith text g → Behind at text f s → Behind at text g s
behind_front at text s p q h = subst (λ f. Behind at text f s) (front_is p ∙ sym (front_is q)) h

behind : {at : ℕ} {text : List ℕ} {f : Start} {s : Result (List Token) LexFault} → StartsWith text f → Lexes at text s → Behind at text f s
behind p ends = absurd (omega (arith, front_some p))
behind {at} {text} {f} {s} p (gap q rest) = behind_front at text s q p rest
behind {at} {text} {f} {s} p (token {r = r} q rest) = behind_front at text s q p (r, rest, refl)
behind {at} {text} {f} {s} p (no_token q) = behind_front at text s q p refl
behind {at} {text} {f} {s} p (too_long q) = behind_front at text s q p refl
behind {at} {text} {f} {s} p (no_number q) = behind_front at text s q p refl

at_end : {at : ℕ} {text : List ℕ} {s : Result (List Token) LexFault} → Lexes at text s → length text ≡ 0 → ◌≡◌ {A = Result (List Token) LexFault} (Ok []) s
at_end ends none = refl
at_end (gap q rest) none = absurd (omega (arith, front_some q))
at_end (token q rest) none = absurd (omega (arith, front_some q))
at_end (no_token q) none = absurd (omega (arith, front_some q))
at_end (too_long q) none = absurd (omega (arith, front_some q))
at_end (no_number q) none = absurd (omega (arith, front_some q))

pub one : {at : ℕ} {text : List ℕ} {r : Result (List Token) LexFault} → Lexes at text r → (s : Result (List Token) LexFault) → Lexes at text s → r ≡ s
one ends s q = at_end q refl
one (gap front rest) s q = one rest s (behind front q)
one (token {at} {n} {what} front rest) s q =
    let b = behind front q in
    ap (preceded (record { what = what; from = at; to = at + n } ∷ [])) (one rest b.0 b.1) ∙ b.2
one (no_token front) s q = behind front q
one (too_long front) s q = behind front q
one (no_number front) s q = behind front q

abbrev HasAnswer : ℕ → List ℕ → Type 0
HasAnswer at text = (r : Result (List Token) LexFault) × Lexes at text r

behind_some : (at : ℕ) (text : List ℕ) (f : Start) → StartsWith text f → FitsIn (length text) f → ((n : ℕ) → 0 < n → HasAnswer (at + n) (drop n text)) → HasAnswer at text
behind_some at text (Gap n) front fits rest = let r = rest n fits.0 in (r.0, gap front r.1)
behind_some at text (Lexeme what n) front fits rest = let r = rest n fits.0 in (preceded (record { what = what; from = at; to = at + n } ∷ []) r.0, token front r.1)
behind_some at text (NoToken n) front fits rest = (Err (BadChar (at + n)), no_token front)
behind_some at text TooLong front fits rest = (Err (LongWord at), too_long front)
behind_some at text NoNumber front fits rest = (Err (BadNumber at), no_number front)

some_up_to : (most at : ℕ) (text : List ℕ) → length text ≤ most → HasAnswer at text
some_up_to most at [] short = (Ok [], ends)
some_up_to zero at (b ∷ bs) short = absurd (omega arith)
some_up_to (suc most) at (b ∷ bs) short =
    let front = some_front (b ∷ bs) (omega arith) in
    behind_some at (b ∷ bs) front.0 front.1 (front_within front.1) (λ n more. some_up_to most (at + n) (drop n (b ∷ bs)) (omega (arith, length-drop n (b ∷ bs))))

pub some : (text : List ℕ) → HasAnswer 0 text
some text = some_up_to (length text) 0 text (omega arith)
