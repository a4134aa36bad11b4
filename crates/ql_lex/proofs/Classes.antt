-- each kind of front, from what the code sees of the text
use Rattle.std.proofs.Common.{◌≡◌, ◌≤◌, ◌<◌, ◌+◌, ◌-◌, ◌⊎◌, ℕ, Bool, true, false, List, [], ◌∷◌, ◌++◌, length, take, drop, get_or, arith, refl, sym, subst, length-drop}
use Rattle.std.specs.List.{AllPass, prefix_len}
use Rattle.std.proofs.lemmas.List.{take-append-drop, take_all, get_or-take}
use Rattle.std.proofs.lemmas.Bool.Decides.{nat_tests}
use Rattle.std.proofs.lemmas.List.Folds.{length-prefix_len}
use Rattle.std.proofs.lemmas.List.Sums.{prefix_len-le-length}
use Rattle.std.proofs.lemmas.Bool.{false≢true}
use Rattle.ql_base.specs.Bytes.{begins, StopsBefore, is_blank, is_digit, is_lower, is_name_byte, is_word_byte, is_text_byte}
use Rattle.ql_base.specs.Names.{IsWord, is_keyword}
use Rattle.ql_base.specs.Numbers.{Spells}
use Rattle.ql_base.proofs.Fronts.{front_passes, front_stops, front_next}
use Rattle.ql_lex.specs.Bytes.{is_in_line, is_quote}
use Rattle.ql_lex.specs.Marks.{is_mark_byte, is_mark_pair}
use Rattle.ql_lex.specs.Starts.{StartsWith, BeginsNothing, most_number}
use Rattle.ql_lex.specs.Starts.StartsWith.{blank, comment, name, keyword, long_name, number, no_number, text, long_text, no_text, pair, mark, stray}
use Rattle.ql_lex.specs.declared.token.TokenKind.TheVariants.{Name, Int, Text, Mark, Keyword}
use Rattle.ql_lex.specs.declared.start.Start.{Start}
use Rattle.ql_lex.specs.declared.start.Start.TheVariants.{Gap, Lexeme, NoToken, TooLong, NoNumber}

-- a text is its first byte and the slice after it
pub tail_is : (t : List ℕ) → take (length t - 1) (drop 1 t) ≡ drop 1 t
tail_is t = take_all (length t - 1) (drop 1 t) (omega (arith, length-drop 1 t))

opened : (b : ℕ) (t inside rest : List ℕ) → 0 < length t → get_or t 0 0 ≡ b → drop 1 t ≡ inside ++ rest → b ∷ inside ++ rest ≡ t
opened b [] inside rest some first e = absurd (omega arith)
opened b (x ∷ xs) inside rest some first e = rw (← first, ← e) refl

pub blank_is : (t : List ℕ) → 0 < length t → is_blank (get_or t 0 0) ≡ true → StartsWith t (Gap 1)
blank_is [] some h = absurd (omega arith)
blank_is (b ∷ bs) some h = blank h

pub comment_is : (t : List ℕ) (n : ℕ) → 0 < length t → get_or t 0 0 ≡ 35 → n ≡ prefix_len is_in_line (take (length t - 1) (drop 1 t)) → StartsWith t (Gap (n + 1))
comment_is t n some first e =
    let line = take n (drop 1 t) in
    let e' : n ≡ prefix_len is_in_line (drop 1 t) = rw tail_is at e in
    let front : AllPass is_in_line (take n (drop 1 t)) = rw e' (front_passes is_in_line (drop 1 t)) in
    let stop : StopsBefore is_in_line (drop n (drop 1 t)) = rw e' (front_stops is_in_line (drop 1 t)) in
    let len : length (take n (drop 1 t)) ≡ n = rw e' (length-prefix_len is_in_line (drop 1 t)) in
    subst (λ u. StartsWith u (Gap (n + 1))) (opened 35 t (take n (drop 1 t)) (drop n (drop 1 t)) some first (sym (take-append-drop n (drop 1 t))))
    (subst (λ m. StartsWith (35 ∷ take n (drop 1 t) ++ drop n (drop 1 t)) (Gap (m + 1))) len (comment (take n (drop 1 t)) (drop n (drop 1 t)) front stop))

-- a front of `n` bytes, told by its length
at_front : (t : List ℕ) (n : ℕ) (f : ℕ → Start) → length (take n t) ≡ n → StartsWith (take n t ++ drop n t) (f (length (take n t))) → StartsWith t (f n)
at_front t n f len h =
    subst (λ u. StartsWith u (f n)) (take-append-drop n t) (subst (λ m. StartsWith (take n t ++ drop n t) (f m)) len h)

pub lower_name : (b : ℕ) → is_lower b ≡ true → is_name_byte b ≡ true
unfolding is_lower is_name_byte
lower_name b h = grind (arith, nat_tests)

-- a front whose first byte passes isn't empty
some_front : (p : ℕ → Bool) (t : List ℕ) → 0 < length t → p (get_or t 0 0) ≡ true → 0 < prefix_len p t
some_front p [] some h = absurd (omega arith)
some_front p (b ∷ bs) some h = rw (front_next p b bs h) (omega arith)

module _ (t : List ℕ) (n : ℕ) (some : 0 < length t) (first : is_lower (get_or t 0 0) ≡ true) (front : n ≡ prefix_len is_name_byte t) where
  word_len : length (take n t) ≡ n
  word_len = rw front (length-prefix_len is_name_byte t)

  word_some : 0 < n
  word_some = rw front (some_front is_name_byte t some (lower_name _ first))

  pub word_begins : 0 < length (take n t)
  word_begins = rw word_len word_some

  word_is : IsWord (take n t)
  word_is = record {
    some = word_begins;
    first = rw (get_or-take n t 0 0 word_some) first;
    all = rw front (front_passes is_name_byte t);
  }

  word_stops : StopsBefore is_name_byte (drop n t)
  word_stops = rw front (front_stops is_name_byte t)

  pub name_is : is_keyword (take n t) ≡ false → n ≤ 32 → StartsWith t (Lexeme Name n)
  name_is free short = at_front t n (Lexeme Name) word_len (name (take n t) (drop n t) word_is word_stops free (rw word_len short))

  pub keyword_is : is_keyword (take n t) ≡ true → StartsWith t (Lexeme Keyword n)
  keyword_is kept = at_front t n (Lexeme Keyword) word_len (keyword (take n t) (drop n t) word_is word_stops kept)

  pub long_name_is : 32 < n → StartsWith t TooLong
  long_name_is long = subst (λ u. StartsWith u TooLong) (take-append-drop n t) (long_name (take n t) (drop n t) word_is (rw word_len long))

module _ (t : List ℕ) (n : ℕ) (some : 0 < length t) (first : is_digit (get_or t 0 0) ≡ true) (front : n ≡ prefix_len is_digit t) where
  digits_len : length (take n t) ≡ n
  digits_len = rw front (length-prefix_len is_digit t)

  pub number_is : (m : ℕ) → Spells most_number m (take n t) → StopsBefore is_word_byte (drop n t) → StartsWith t (Lexeme Int n)
  number_is m spelled stop = at_front t n (Lexeme Int) digits_len (number (take n t) (drop n t) spelled stop)

  pub no_number_is : ((m : ℕ) → ¬ Spells most_number m (take n t)) ⊎ (begins is_word_byte (drop n t) ≡ true) → StartsWith t NoNumber
  no_number_is why =
      subst (λ u. StartsWith u NoNumber) (take-append-drop n t)
      (no_number (take n t) (drop n t) (rw digits_len (rw front (some_front is_digit t some first))) (rw front (front_passes is_digit t)) (rw front (front_stops is_digit t)) why)

-- the same, from a text's two parts
module _ (t digits rest : List ℕ) (n : ℕ) (some : 0 < length t) (first : is_digit (get_or t 0 0) ≡ true) (front : n ≡ prefix_len is_digit t) (digits_is : digits ≡ take n t) (rest_is : rest ≡ drop n t) where
  pub int_is : (m : ℕ) → Spells most_number m digits → StopsBefore is_word_byte rest → StartsWith t (Lexeme Int (length digits))
  int_is m spelled stop =
      let len : length digits ≡ n = rw digits_is (digits_len t n some first front) in
      rw len (number_is t n some first front m (rw digits_is at spelled) (rw rest_is at stop))

  pub no_int_is : ((m : ℕ) → ¬ Spells most_number m digits) ⊎ (begins is_word_byte rest ≡ true) → StartsWith t NoNumber
  no_int_is why = no_number_is t n some first front (rw (digits_is, rest_is) at why)

-- what begins with a quote
quote_first : (t : List ℕ) → begins is_quote t ≡ true → 34 ∷ drop 1 t ≡ t
quote_first [] h = absurd (false≢true h)
quote_first (b ∷ bs) h = let e : b ≡ 34 = grind (arith, nat_tests) in rw e refl

module _ (t inside rest : List ℕ) (n : ℕ) (some : 0 < length t) (first : get_or t 0 0 ≡ 34) (front : n ≡ prefix_len is_text_byte (drop 1 t)) (inside_is : inside ≡ take n (drop 1 t)) (rest_is : rest ≡ drop n (drop 1 t)) where
  whole : 34 ∷ inside ++ rest ≡ t
  whole = opened 34 t inside rest some first (rw (inside_is, rest_is) (sym (take-append-drop n (drop 1 t))))

  passes : AllPass is_text_byte inside
  passes = rw (inside_is, front) (front_passes is_text_byte (drop 1 t))

  stops : StopsBefore is_text_byte rest
  stops = rw (rest_is, front) (front_stops is_text_byte (drop 1 t))

  pub long_text_is : 64 < length inside → StartsWith t TooLong
  long_text_is long = subst (λ u. StartsWith u TooLong) whole (long_text inside rest passes long)

  pub text_is : length inside ≤ 64 → begins is_quote rest ≡ true → StartsWith t (Lexeme Text (length inside + 2))
  text_is short closed =
      subst (λ u. StartsWith u (Lexeme Text (length inside + 2))) whole
      (subst (λ r. StartsWith (34 ∷ inside ++ r) (Lexeme Text (length inside + 2))) (quote_first rest closed) (text inside (drop 1 rest) passes short))

  pub no_text_is : length inside ≤ 64 → begins is_quote rest ≡ false → StartsWith t (NoToken (length inside + 1))
  no_text_is short open_ended = subst (λ u. StartsWith u (NoToken (length inside + 1))) whole (no_text inside rest passes short stops open_ended)

pub pair_is : (t : List ℕ) → 1 < length t → is_mark_pair (get_or t 0 0) (get_or t 1 0) ≡ true → StartsWith t (Lexeme Mark 2)
pair_is [] more h = absurd (omega arith)
pair_is (a ∷ []) more h = absurd (omega arith)
pair_is (a ∷ b ∷ rest) more h = pair h

pub no_pair : (t : List ℕ) → 1 < length t → is_mark_pair (get_or t 0 0) (get_or t 1 0) ≡ false → StopsBefore (is_mark_pair (get_or t 0 0)) (drop 1 t)
no_pair [] more h = refl
no_pair (a ∷ []) more h = refl
no_pair (a ∷ b ∷ rest) more h = h

pub no_second : (t : List ℕ) → length t ≤ 1 → StopsBefore (is_mark_pair (get_or t 0 0)) (drop 1 t)
no_second [] few = refl
no_second (a ∷ []) few = refl
no_second (a ∷ b ∷ rest) few = absurd (omega arith)

pub mark_is : (t : List ℕ) → 0 < length t → is_mark_byte (get_or t 0 0) ≡ true → StopsBefore (is_mark_pair (get_or t 0 0)) (drop 1 t) → StartsWith t (Lexeme Mark 1)
mark_is [] some h stop = absurd (omega arith)
mark_is (a ∷ rest) some h stop = mark h stop

pub stray_is : (t : List ℕ) → 0 < length t → BeginsNothing (get_or t 0 0) → is_mark_byte (get_or t 0 0) ≡ false → StopsBefore (is_mark_pair (get_or t 0 0)) (drop 1 t) → StartsWith t (NoToken 0)
stray_is [] some nothing h stop = absurd (omega arith)
stray_is (a ∷ rest) some nothing h stop = stray nothing h stop

pub digits_fit : (t : List ℕ) → prefix_len is_digit t ≤ length t
digits_fit t = prefix_len-le-length is_digit t
