-- A text has one front.
use Rattle.std.proofs.Common.{◌≡◌, ◌≤◌, ◌<◌, ◌+◌, ◌==◌, ◌||◌, ◌⊎◌, ℕ, Bool, true, false, cond, List, [], ◌∷◌, ◌++◌, length, take, drop, arith, refl, sym, ap, ◌∙◌, subst, inl, inr, decimal, nat_le, bytes_eq, length-append, if◌then◌else◌}
use Rattle.std.specs.List.{AllPass, prefix_len, list_any}
use Rattle.std.specs.Str.Parse.{digits_value}
use Rattle.std.proofs.Math.Seq.{take-append_seam, drop-append_seam}
use Rattle.std.proofs.lemmas.Bool.Decides.{nat_tests}
use Rattle.std.proofs.lemmas.Bool.{false≢true, false_from_ne_true}
use Rattle.std.proofs.lemmas.Fmt.{digits_decimal, digits_value-decimal, decimal_nonempty}
use Rattle.std.proofs.lemmas.Slice.Eq.{bytes_eq-Decides}
use Rattle.ql_base.specs.Bytes.{begins, StopsBefore, is_blank, is_digit, is_lower, is_name_byte, is_word_byte, is_text_byte}
use Rattle.ql_base.specs.Names.{IsWord, is_keyword, keywords}
use Rattle.ql_base.specs.Numbers.{Spells}
use Rattle.ql_base.proofs.Fronts.{front-append, passes_head, passes_tail, front_next}
use Rattle.ql_base.proofs.Numerals.{digits_model}
use Rattle.ql_lex.specs.Bytes.{is_in_line, is_quote}
use Rattle.ql_lex.specs.Marks.{is_mark_byte, is_mark_pair}
use Rattle.ql_lex.specs.Starts.{StartsWith, BeginsNothing, most_number}
use Rattle.ql_lex.specs.Starts.StartsWith.{blank, comment, name, keyword, long_name, number, no_number, text, long_text, no_text, pair, mark, stray}
use Rattle.ql_lex.specs.declared.token.TokenKind.TheVariants.{Name, Int, Text, Mark, Keyword}
use Rattle.ql_lex.specs.declared.start.Start.{Start}
use Rattle.ql_lex.specs.declared.start.Start.TheVariants.{Gap, Lexeme, NoToken, TooLong, NoNumber}

-- the front as a function of the text: by its first byte, and there by the longest run of bytes that go on with it

abbrev word_front : List ℕ → Start
word_front w = if is_keyword w then Lexeme Keyword (length w) else (if nat_le (length w) 32 then Lexeme Name (length w) else TooLong)

abbrev pub spells : List ℕ → Bool
spells w = if nat_le (digits_value 10 w) most_number then bytes_eq (decimal (digits_value 10 w)) w else false

abbrev number_front : List ℕ → List ℕ → Start
number_front w rest = if begins is_word_byte rest then NoNumber else (if spells w then Lexeme Int (length w) else NoNumber)

abbrev quoted_front : List ℕ → List ℕ → Start
quoted_front w rest = if nat_le (length w) 64 then (if begins is_quote rest then Lexeme Text (length w + 2) else NoToken (length w + 1)) else TooLong

abbrev mark_front : ℕ → List ℕ → Start
mark_front b more = if begins (is_mark_pair b) more then Lexeme Mark 2 else (if is_mark_byte b then Lexeme Mark 1 else NoToken 0)

abbrev parted : (ℕ → Bool) → (List ℕ → List ℕ → Start) → List ℕ → Start
parted p f t = f (take (prefix_len p t) t) (drop (prefix_len p t) t)

abbrev front_by : ℕ → List ℕ → Start
front_by b more =
    if is_blank b then Gap 1 else (
    if b == 35 then Gap (prefix_len is_in_line more + 1) else (
    if is_lower b then parted is_name_byte (λ w rest. word_front w) (b ∷ more) else (
    if is_digit b then parted is_digit number_front (b ∷ more) else (
    if is_quote b then parted is_text_byte quoted_front more else mark_front b more))))

abbrev pub front_of : List ℕ → Start
front_of [] = NoToken 0
front_of (b ∷ more) = front_by b more

-- the longest run of bytes that pass, where it is known

parted_is : (p : ℕ → Bool) (f : List ℕ → List ℕ → Start) (w rest : List ℕ) → AllPass p w → StopsBefore p rest → parted p f (w ++ rest) ≡ f w rest
parted_is p f w rest passes stops = rw (front-append p w rest passes stops, take-append_seam w rest, drop-append_seam w rest) refl

-- no shorter than a run of bytes that pass
run_len : (p : ℕ → Bool) (w rest : List ℕ) → AllPass p w → length w ≤ length (take (prefix_len p (w ++ rest)) (w ++ rest))
run_len p [] rest passes = omega arith
run_len p (b ∷ bs) rest passes = rw (front_next p b (bs ++ rest) (passes_head p b bs passes)) (omega (arith, run_len p bs rest (passes_tail p b bs passes)))

-- the bytes that begin each kind

lower_kind : (b : ℕ) → is_lower b ≡ true → (more : List ℕ) → front_by b more ≡ parted is_name_byte (λ w rest. word_front w) (b ∷ more)
unfolding is_blank is_lower
lower_kind b h more =
    let blank : is_blank b ≡ false = grind (arith, nat_tests) in
    let hash : (b == 35) ≡ false = grind (arith, nat_tests) in
    rw (blank, hash, h) refl

digit_kind : (b : ℕ) → is_digit b ≡ true → (more : List ℕ) → front_by b more ≡ parted is_digit number_front (b ∷ more)
unfolding is_blank is_lower is_digit
digit_kind b h more =
    let blank : is_blank b ≡ false = grind (arith, nat_tests) in
    let hash : (b == 35) ≡ false = grind (arith, nat_tests) in
    let lower : is_lower b ≡ false = grind (arith, nat_tests) in
    rw (blank, hash, lower, h) refl

nothing_kind : (b : ℕ) → BeginsNothing b → (more : List ℕ) → front_by b more ≡ mark_front b more
nothing_kind b h more = rw (h.blank, h.hash, h.lower, h.digit, h.quote) refl

pair_nothing : (a b : ℕ) → is_mark_pair a b ≡ true → BeginsNothing a
unfolding is_mark_pair is_blank is_lower is_digit
pair_nothing a b h = record { blank = grind (arith, nat_tests); hash = grind (arith, nat_tests); lower = grind (arith, nat_tests); digit = grind (arith, nat_tests); quote = grind (arith, nat_tests) }

mark_nothing : (a : ℕ) → is_mark_byte a ≡ true → BeginsNothing a
unfolding is_mark_byte is_blank is_lower is_digit
mark_nothing a h = record { blank = grind (arith, nat_tests); hash = grind (arith, nat_tests); lower = grind (arith, nat_tests); digit = grind (arith, nat_tests); quote = grind (arith, nat_tests) }

-- words

word_kind : (w rest : List ℕ) → IsWord w → front_of (w ++ rest) ≡ parted is_name_byte (λ u more. word_front u) (w ++ rest)
word_kind [] rest word = absurd (omega (arith, word.some))
word_kind (b ∷ bs) rest word = lower_kind b word.first (bs ++ rest)

word_is : (w rest : List ℕ) → IsWord w → StopsBefore is_name_byte rest → front_of (w ++ rest) ≡ word_front w
word_is w rest word stops = word_kind w rest word ∙ parted_is is_name_byte (λ u more. word_front u) w rest word.all stops

same_bytes : (w : List ℕ) → bytes_eq w w ≡ true
same_bytes w = (bytes_eq-Decides w w).1 refl

equal_bytes : (u w : List ℕ) → bytes_eq u w ≡ true → u ≡ w
equal_bytes u w h = (bytes_eq-Decides u w).0 h

-- a keyword is short

abbrev AreShort : List (List ℕ) → Type 0
AreShort [] = Unit {0}
AreShort (k ∷ ks) = (length k ≤ 32) × AreShort ks

short_one : (w : List ℕ) (ks : List (List ℕ)) → AreShort ks → list_any (λ k. bytes_eq k w) ks ≡ true → length w ≤ 32
short_one w [] short h = absurd (false≢true h)
short_one w (k ∷ ks) short h = by_test (bytes_eq k w) refl h (λ any. short_one w ks short.1 any)
  where
    by_test : (t : Bool) → bytes_eq k w ≡ t → (t || list_any (λ k. bytes_eq k w) ks) ≡ true → (list_any (λ k. bytes_eq k w) ks ≡ true → length w ≤ 32) → length w ≤ 32
    by_test true e any others = let same : k ≡ w = equal_bytes k w e in rw (← same) (short.0)
    by_test false e any others = others any

all_short : AreShort keywords
unfolding keywords
all_short = search (arith)

short_keyword : (w : List ℕ) → is_keyword w ≡ true → length w ≤ 32
unfolding is_keyword
short_keyword w h = short_one w keywords all_short h

no_keyword : (w : List ℕ) → 32 < length w → is_keyword w ≡ false
no_keyword w long = false_from_ne_true (is_keyword w) (λ h. absurd (omega (arith, short_keyword w h)))

long_word : (w : List ℕ) → 32 < length w → word_front w ≡ TooLong
long_word w long =
    let free : is_keyword w ≡ false = no_keyword w long in
    let le : nat_le (length w) 32 ≡ false = grind (arith, nat_tests) in
    rw (free, le) refl

short_name : (w : List ℕ) → is_keyword w ≡ false → length w ≤ 32 → word_front w ≡ Lexeme Name (length w)
short_name w free short =
    let le : nat_le (length w) 32 ≡ true = grind (arith, nat_tests) in
    rw (free, le) refl

-- numbers

pub spells_of : (w : List ℕ) (n : ℕ) → Spells most_number n w → spells w ≡ true
spells_of w n s =
    let v : digits_value 10 w ≡ n = ap (digits_value 10) (sym s.spelled) ∙ digits_value-decimal digits_model n (omega (arith, s.bounded)) in
    let bounded : n ≤ most_number = s.bounded in
    let le : nat_le n most_number ≡ true = grind (arith, nat_tests) in
    let eq : bytes_eq (decimal n) w ≡ true = subst (λ u. bytes_eq (decimal n) u ≡ true) s.spelled (same_bytes (decimal n)) in
    rw (v, le) eq

both_true : (a b : Bool) → cond a b false ≡ true → (a ≡ true) × (b ≡ true)
both_true true b h = (refl, h)
both_true false b h = absurd (false≢true h)

pub of_spells : (w : List ℕ) → spells w ≡ true → Spells most_number (digits_value 10 w) w
of_spells w h =
    let p = both_true (nat_le (digits_value 10 w) most_number) (bytes_eq (decimal (digits_value 10 w)) w) h in
    let le : nat_le (digits_value 10 w) most_number ≡ true = p.0 in
    record {
      bounded = grind (arith, nat_tests);
      spelled = equal_bytes (decimal (digits_value 10 w)) w p.1;
    }

no_spells : (w : List ℕ) → ((n : ℕ) → ¬ Spells most_number n w) → spells w ≡ false
no_spells w none = false_from_ne_true (spells w) (λ h. none (digits_value 10 w) (of_spells w h))

spelled_digits : (w : List ℕ) (n : ℕ) → Spells most_number n w → AllPass is_digit w
spelled_digits w n s = subst (AllPass is_digit) s.spelled (digits_decimal digits_model n (omega (arith, s.bounded)))

spelled_some : (w : List ℕ) (n : ℕ) → Spells most_number n w → 0 < length w
spelled_some w n s = rw (← s.spelled) (decimal_nonempty n (omega (arith, s.bounded)))

digit_word : (rest : List ℕ) → StopsBefore is_word_byte rest → StopsBefore is_digit rest
unfolding is_word_byte is_digit
digit_word [] stops = refl
digit_word (b ∷ rest) stops = grind (arith, nat_tests)

number_kind : (w rest : List ℕ) → 0 < length w → AllPass is_digit w → front_of (w ++ rest) ≡ parted is_digit number_front (w ++ rest)
number_kind [] rest some digits = absurd (omega arith)
number_kind (b ∷ bs) rest some digits = digit_kind b (passes_head is_digit b bs digits) (bs ++ rest)

number_is : (w rest : List ℕ) → 0 < length w → AllPass is_digit w → StopsBefore is_digit rest → front_of (w ++ rest) ≡ number_front w rest
number_is w rest some digits stops = number_kind w rest some digits ∙ parted_is is_digit number_front w rest digits stops

no_number_is : (w rest : List ℕ) → ((n : ℕ) → ¬ Spells most_number n w) ⊎ (begins is_word_byte rest ≡ true) → number_front w rest ≡ NoNumber
no_number_is w rest (inl none) = rw (no_spells w none) (same_either (begins is_word_byte rest))
  where
    same_either : (b : Bool) → cond b NoNumber NoNumber ≡ NoNumber
    same_either true = refl
    same_either false = refl
no_number_is w rest (inr goes) = rw goes refl

-- texts

quoted_kind : (more : List ℕ) → front_of (34 ∷ more) ≡ parted is_text_byte quoted_front more
unfolding is_blank is_lower is_digit
quoted_kind more = refl

long_quoted : (w rest : List ℕ) → 64 < length w → quoted_front w rest ≡ TooLong
long_quoted w rest long = let le : nat_le (length w) 64 ≡ false = grind (arith, nat_tests) in rw le refl

short_quoted : (w rest : List ℕ) → length w ≤ 64 → quoted_front w rest ≡ (if begins is_quote rest then Lexeme Text (length w + 2) else NoToken (length w + 1))
short_quoted w rest short = let le : nat_le (length w) 64 ≡ true = grind (arith, nat_tests) in rw le refl

hash_kind : (more : List ℕ) → front_of (35 ∷ more) ≡ Gap (prefix_len is_in_line more + 1)
unfolding is_blank
hash_kind more = refl

closed : (rest : List ℕ) → StopsBefore is_text_byte (34 ∷ rest)
unfolding is_text_byte
closed rest = refl

pub front_is : {t : List ℕ} {f : Start} → StartsWith t f → f ≡ front_of t
front_is (blank h) = rw h refl
front_is (comment line rest h s) = sym (hash_kind (line ++ rest) ∙ ap (λ n. Gap (n + 1)) (front-append is_in_line line rest h s))
front_is (name w rest word stops free short) = sym (word_is w rest word stops ∙ short_name w free short)
front_is (keyword w rest word stops kept) = sym (word_is w rest word stops ∙ rw kept refl)
front_is (long_name w rest word long) = sym (word_kind w rest word ∙ long_word (take (prefix_len is_name_byte (w ++ rest)) (w ++ rest)) (omega (arith, run_len is_name_byte w rest word.all)))
front_is (number {n} w rest spelled stops) =
    sym (number_is w rest (spelled_some w n spelled) (spelled_digits w n spelled) (digit_word rest stops) ∙ rw (stops, spells_of w n spelled) refl)
front_is (no_number w rest some digits stops why) = sym (number_is w rest some digits stops ∙ no_number_is w rest why)
front_is (text w rest h short) = sym (quoted_kind (w ++ 34 ∷ rest) ∙ parted_is is_text_byte quoted_front w (34 ∷ rest) h (closed rest) ∙ short_quoted w (34 ∷ rest) short)
front_is (long_text w rest h long) = sym (quoted_kind (w ++ rest) ∙ long_quoted (take (prefix_len is_text_byte (w ++ rest)) (w ++ rest)) (drop (prefix_len is_text_byte (w ++ rest)) (w ++ rest)) (omega (arith, run_len is_text_byte w rest h)))
front_is (no_text w rest h short stops open_ended) =
    sym (quoted_kind (w ++ rest) ∙ parted_is is_text_byte quoted_front w rest h stops ∙ short_quoted w rest short ∙ rw open_ended refl)
front_is (pair {a} {b} {rest} h) = sym (nothing_kind a (pair_nothing a b h) (b ∷ rest) ∙ rw h refl)
front_is (mark {a} {rest} h stops) = sym (nothing_kind a (mark_nothing a h) rest ∙ rw (stops, h) refl)
front_is (stray {a} {rest} nothing h stops) = sym (nothing_kind a nothing rest ∙ rw (stops, h) refl)

-- nothing is in front of a text that is at its end
pub front_some : {t : List ℕ} {f : Start} → StartsWith t f → 0 < length t
front_some (blank h) = omega arith
front_some (comment line rest h s) = omega arith
front_some (name w rest word stops free short) = omega (arith, word.some, length-append w rest)
front_some (keyword w rest word stops kept) = omega (arith, word.some, length-append w rest)
front_some (long_name w rest word long) = omega (arith, length-append w rest)
front_some (number {n} w rest spelled stops) = omega (arith, spelled_some w n spelled, length-append w rest)
front_some (no_number w rest some digits stops why) = omega (arith, length-append w rest)
front_some (text w rest h short) = omega arith
front_some (long_text w rest h long) = omega arith
front_some (no_text w rest h short stops open_ended) = omega arith
front_some (pair h) = omega arith
front_some (mark h stops) = omega arith
front_some (stray nothing h stops) = omega arith
