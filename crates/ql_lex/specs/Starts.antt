use Rattle.std.specs.Prelude.{ℕ, ◌≡◌, ◌≤◌, ◌<◌, ◌+◌, ◌⊎◌, ◌==◌, true, false, List, ◌∷◌, ◌++◌, length}
use Rattle.std.specs.List.{AllPass}
use Rattle.ql_base.specs.Bytes.{is_blank, is_digit, is_lower, is_name_byte, is_word_byte, is_text_byte, begins, StopsBefore}
use Rattle.ql_base.specs.Names.{IsWord, is_keyword}
use Rattle.ql_base.specs.Numbers.{Spells}
use Rattle.ql_lex.specs.Bytes.{is_in_line, is_quote}
use Rattle.ql_lex.specs.Marks.{is_mark_byte, is_mark_pair}
use Rattle.ql_lex.specs.declared.token.TokenKind.TheVariants.{Name, Int, Text, Mark, Keyword}
use Rattle.ql_lex.specs.declared.start.Start.{Start}
use Rattle.ql_lex.specs.declared.start.Start.TheVariants.{Gap, Lexeme, NoToken, TooLong, NoNumber}

-- the greatest number that a source may contain
abbrev pub most_number : ℕ
most_number = 9223372036854775807

-- a byte that begins no gap, word, number or text
pub record BeginsNothing (b : ℕ) : Type 0 where
  pub blank : is_blank b ≡ false
  pub hash : (b == 35) ≡ false
  pub lower : is_lower b ≡ false
  pub digit : is_digit b ≡ false
  pub quote : is_quote b ≡ false

-- what a text starts with: a gap or a token, as long as possible, or a fault
pub data StartsWith : List ℕ → Start → Type 0 where
  blank : {b : ℕ} {rest : List ℕ} → is_blank b ≡ true → StartsWith (b ∷ rest) (Gap 1)
  comment : (line rest : List ℕ) → AllPass is_in_line line → StopsBefore is_in_line rest → StartsWith (35 ∷ line ++ rest) (Gap (length line + 1))
  name : (w rest : List ℕ) → IsWord w → StopsBefore is_name_byte rest → is_keyword w ≡ false → length w ≤ 32 → StartsWith (w ++ rest) (Lexeme Name (length w))
  keyword : (w rest : List ℕ) → IsWord w → StopsBefore is_name_byte rest → is_keyword w ≡ true → StartsWith (w ++ rest) (Lexeme Keyword (length w))
  long_name : (w rest : List ℕ) → IsWord w → 32 < length w → StartsWith (w ++ rest) TooLong
  number : {n : ℕ} (w rest : List ℕ) → Spells most_number n w → StopsBefore is_word_byte rest → StartsWith (w ++ rest) (Lexeme Int (length w))
  no_number : (w rest : List ℕ) → 0 < length w → AllPass is_digit w → StopsBefore is_digit rest → ((n : ℕ) → ¬ Spells most_number n w) ⊎ (begins is_word_byte rest ≡ true) → StartsWith (w ++ rest) NoNumber
  text : (w rest : List ℕ) → AllPass is_text_byte w → length w ≤ 64 → StartsWith (34 ∷ w ++ 34 ∷ rest) (Lexeme Text (length w + 2))
  long_text : (w rest : List ℕ) → AllPass is_text_byte w → 64 < length w → StartsWith (34 ∷ w ++ rest) TooLong
  no_text : (w rest : List ℕ) → AllPass is_text_byte w → length w ≤ 64 → StopsBefore is_text_byte rest → StopsBefore is_quote rest → StartsWith (34 ∷ w ++ rest) (NoToken (length w + 1))
  pair : {a b : ℕ} {rest : List ℕ} → is_mark_pair a b ≡ true → StartsWith (a ∷ b ∷ rest) (Lexeme Mark 2)
  mark : {a : ℕ} {rest : List ℕ} → is_mark_byte a ≡ true → StopsBefore (is_mark_pair a) rest → StartsWith (a ∷ rest) (Lexeme Mark 1)
  stray : {a : ℕ} {rest : List ℕ} → BeginsNothing a → is_mark_byte a ≡ false → StopsBefore (is_mark_pair a) rest → StartsWith (a ∷ rest) (NoToken 0)
