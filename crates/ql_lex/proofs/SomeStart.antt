-- A text that isn't at its end has a front.
use Rattle.std.proofs.Common.{◌≡◌, ◌<◌, ◌+◌, ◌-◌, ◌==◌, ℕ, Bool, true, false, List, [], ◌∷◌, length, take, drop, get_or, arith, refl, sym, ◌∙◌, inl, inr, nat_le}
use Rattle.std.specs.List.{prefix_len}
use Rattle.std.specs.Str.Parse.{digits_value}
use Rattle.std.proofs.lemmas.Bool.{eqb-true, false≢true}
use Rattle.std.proofs.lemmas.Bool.Decides.{nat_tests}
use Rattle.ql_base.specs.Bytes.{begins, StopsBefore, is_blank, is_digit, is_lower, is_name_byte, is_word_byte, is_text_byte}
use Rattle.ql_base.specs.Names.{is_keyword}
use Rattle.ql_lex.specs.Bytes.{is_in_line, is_quote}
use Rattle.ql_lex.specs.Marks.{is_mark_byte, is_mark_pair}
use Rattle.ql_lex.specs.Starts.{StartsWith, BeginsNothing}
use Rattle.ql_lex.specs.Starts.StartsWith.{blank, pair, mark, stray}
use Rattle.ql_lex.specs.declared.token.TokenKind.TheVariants.{Name, Int, Text, Mark, Keyword}
use Rattle.ql_lex.specs.declared.start.Start.{Start}
use Rattle.ql_lex.specs.declared.start.Start.TheVariants.{Gap, Lexeme, NoToken, TooLong, NoNumber}
use Rattle.ql_lex.proofs.Classes.{comment_is, name_is, keyword_is, long_name_is, number_is, no_number_is, text_is, long_text_is, no_text_is}
use Rattle.ql_lex.proofs.OneStart.{spells, of_spells, spells_of}

abbrev pub HasFront : List ℕ → Type 0
HasFront t = (f : Start) × StartsWith t f

tested : {X : Type 0} (b : Bool) → (b ≡ true → X) → (b ≡ false → X) → X
tested true f g = f refl
tested false f g = g refl

word_some : (t : List ℕ) → 0 < length t → is_lower (get_or t 0 0) ≡ true → HasFront t
word_some t some first =
    let n = prefix_len is_name_byte t in
    tested (is_keyword (take n t)) (λ kept. (Lexeme Keyword n, keyword_is t n some first refl kept))
    (λ free. tested (nat_le n 32) (λ h. (Lexeme Name n, name_is t n some first refl free (grind (arith, nat_tests)))) (λ h. (TooLong, long_name_is t n some first refl (grind (arith, nat_tests)))))

number_some : (t : List ℕ) → 0 < length t → is_digit (get_or t 0 0) ≡ true → HasFront t
number_some t some first =
    let n = prefix_len is_digit t in
    tested (begins is_word_byte (drop n t)) (λ goes. (NoNumber, no_number_is t n some first refl (inr goes)))
    (λ stops. tested (spells (take n t)) (λ h. (Lexeme Int n, number_is t n some first refl (digits_value 10 (take n t)) (of_spells (take n t) h) stops))
    (λ other. (NoNumber, no_number_is t n some first refl (inl (λ m s. false≢true (sym other ∙ spells_of (take n t) m s))))))

text_some : (t : List ℕ) → 0 < length t → get_or t 0 0 ≡ 34 → HasFront t
text_some t some first =
    let n = prefix_len is_text_byte (drop 1 t) in
    let inside = take n (drop 1 t) in
    let rest = drop n (drop 1 t) in
    tested (nat_le (length inside) 64)
    (λ h. tested (begins is_quote rest) (λ closed. (Lexeme Text (length inside + 2), text_is t inside rest n some first refl refl refl (grind (arith, nat_tests)) closed))
    (λ open_ended. (NoToken (length inside + 1), no_text_is t inside rest n some first refl refl refl (grind (arith, nat_tests)) open_ended)))
    (λ h. (TooLong, long_text_is t inside rest n some first refl refl refl (grind (arith, nat_tests))))

single_some : (b : ℕ) (more : List ℕ) → BeginsNothing b → StopsBefore (is_mark_pair b) more → HasFront (b ∷ more)
single_some b more nothing stops = tested (is_mark_byte b) (λ h. (Lexeme Mark 1, mark h stops)) (λ h. (NoToken 0, stray nothing h stops))

mark_some : (b : ℕ) (more : List ℕ) → BeginsNothing b → HasFront (b ∷ more)
mark_some b [] nothing = single_some b [] nothing refl
mark_some b (c ∷ rest) nothing = tested (is_mark_pair b c) (λ h. (Lexeme Mark 2, pair h)) (single_some b (c ∷ rest) nothing)

pub some_front : (t : List ℕ) → 0 < length t → HasFront t
some_front [] some = absurd (omega arith)
some_front (b ∷ more) some =
    tested (is_blank b) (λ h. (Gap 1, blank h))
    (λ no_blank. tested (b == 35) (λ h. (Gap (prefix_len is_in_line (take (length (b ∷ more) - 1) (drop 1 (b ∷ more))) + 1), comment_is (b ∷ more) _ some (eqb-true b 35 h) refl))
    (λ no_hash. tested (is_lower b) (word_some (b ∷ more) some)
    (λ no_lower. tested (is_digit b) (number_some (b ∷ more) some)
    (λ no_digit. tested (is_quote b) (λ h. text_some (b ∷ more) some (eqb-true b 34 h))
    (λ no_quote. mark_some b more (record { blank = no_blank; hash = no_hash; lower = no_lower; digit = no_digit; quote = no_quote }))))))
