-- scalars are read as they are spelled, and only so
use Rattle.std.proofs.Common.{◌≡◌, ◌≢◌, ◌≤◌, ◌<◌, ◌^◌, ℕ, zero, suc, pos, negsuc, neg_ℤ, Bool, true, false, Option, Some, None, Result, Ok, Err, List, [], ◌∷◌, ◌++◌, length, take, drop, arith, refl, sym, ap, ◌∙◌, decimal, bytes_eq, nat_le, nat_lt, ◌&&◌, cond, eqb, append_assoc, codes}
use Rattle.std.specs.List.{prefix_len, AllPass}
use Rattle.std.specs.Fmt.{signed_decimal}
use Rattle.std.specs.Str.Parse.{digits_value}
use Rattle.std.specs.Option.{option_map_or}
use Rattle.std.proofs.lemmas.Fmt.{digits_decimal, decimal_nonempty}
use Rattle.std.proofs.lemmas.List.{take-append-drop}
use Rattle.std.proofs.Math.Seq.{take-append_seam, drop-append_seam}
use Rattle.std.proofs.lemmas.Slice.Eq.{bytes_eq-Decides}
use Rattle.std.proofs.lemmas.Bool.Decides.{nat_tests}
use Rattle.ql_base.specs.Bytes.{begins, is_digit, is_text_byte}
use Rattle.ql_base.proofs.Fronts.{front-append}
use Rattle.ql_base.proofs.Numerals.{digits_model}
use Rattle.ql_value.specs.declared.scalar.Scalar.{Scalar}
use Rattle.ql_value.specs.declared.scalar.Scalar.TheVariants.{Int, Bool as Truth, Text}
use Rattle.ql_value.specs.Texts.{IsText}
use Rattle.ql_value.specs.Spelling.{scalar_text}
use Rattle.ql_value.specs.Reading.{Read, is_byte, scalar_at, word_at, word_end, standing_for, quoted_at, negative_at, plain_at, number_up_to}
use Rattle.ql_value.specs.ValueGrammar.{IsScalar, ReadsScalar}
use Rattle.ql_value.proofs.NumberText.{some_number}

-- one of two, by a test
pub chosen : {A : Type 0} (P : Type 0) (b : Bool) (x y z : A) → cond b x y ≡ z → (b ≡ true → x ≡ z → P) → (b ≡ false → y ≡ z → P) → P
chosen P true x y z h f g = f refl h
chosen P false x y z h f g = g refl h

-- the parts of what was read
abbrev value_in : {X : Type 0} → X → Read X → X
value_in x (Ok p) = p.0
value_in x (Err left) = x

abbrev rest_in : {X : Type 0} → List ℕ → Read X → List ℕ
rest_in t (Ok p) = p.1
rest_in t (Err left) = t

abbrev pub ok_of : {X : Type 0} → X → List ℕ → Read X
ok_of x a = Ok (x, a)

-- two readings that are one have one value and one rest
pub are_parts : {X : Type 0} (x y : X) (a b : List ℕ) → ok_of x a ≡ ok_of y b → (x ≡ y) × (a ≡ b)
are_parts {X} x y a b h = (ap (value_in {X = X} x) h, ap (rest_in {X = X} a) h)

-- words
pub word_takes : (w text rest : List ℕ) → word_end w text ≡ Ok rest → text ≡ w ++ rest
unfolding word_end
word_takes [] text rest h = cc
word_takes (w ∷ ws) [] rest h = cc
word_takes (w ∷ ws) (b ∷ bs) rest h =
    chosen (b ∷ bs ≡ w ∷ ws ++ rest) (eqb b w) (word_end ws bs) (Err (length (b ∷ bs))) (Ok rest) h
    (λ t e. let same : b ≡ w = grind (arith, nat_tests) in let tail = word_takes ws bs rest e in rw (same, tail) refl)
    (λ f e. cc)

standing_takes : {X : Type 0} (x y : X) (w text rest : List ℕ) (r : Result (List ℕ) ℕ) → word_end w text ≡ r → standing_for x r ≡ Ok (y, rest) → (y ≡ x) × (text ≡ w ++ rest)
standing_takes x y w text rest (Ok behind) e h =
    let p = are_parts x y behind rest h in (sym p.0, word_takes w text rest (e ∙ ap Ok p.1))
standing_takes x y w text rest (Err left) e h = cc

pub word_at_takes : {X : Type 0} (x y : X) (w text rest : List ℕ) → word_at x w text ≡ Ok (y, rest) → (y ≡ x) × (text ≡ w ++ rest)
word_at_takes x y w text rest h = standing_takes x y w text rest (word_end w text) refl h

-- a byte at the front
pub begins_with : (c : ℕ) (text : List ℕ) → begins (is_byte c) text ≡ true → text ≡ c ∷ drop 1 text
begins_with c [] h = cc
begins_with c (b ∷ bs) h = let same : b ≡ c = grind (arith, nat_tests) in rw same refl

-- numbers
both : (a b : Bool) → (a && b) ≡ true → (a ≡ true) × (b ≡ true)
both true true e = (refl, refl)
both true false e = cc
both false b e = cc

number_takes : (most : ℕ) (ds : List ℕ) (n : ℕ) → number_up_to most ds ≡ Some n → ds ≡ decimal n
unfolding number_up_to
number_takes most ds n h =
    chosen (ds ≡ decimal n) (bytes_eq (decimal (digits_value 10 ds)) ds && nat_le (digits_value 10 ds) most) (Some (digits_value 10 ds)) None (Some n) h
    (λ t e. let value : digits_value 10 ds ≡ n = cc in
    let same = (bytes_eq-Decides (decimal (digits_value 10 ds)) ds).0 (both _ _ t).0 in
    sym same ∙ ap decimal value)
    (λ f e. cc)

plain_by : (text rest : List ℕ) (s : Scalar) (o : Option ℕ) → number_up_to 9223372036854775807 (take (prefix_len is_digit text) text) ≡ o
    → option_map_or {U = Read Scalar} (λ n. Ok (Int (pos n), drop (prefix_len is_digit text) text)) o (Err (length text)) ≡ Ok (s, rest) → text ≡ scalar_text s ++ rest
plain_by text rest s None e h = cc
plain_by text rest s (Some n) e h =
    let p = are_parts (Int (pos n)) s (drop (prefix_len is_digit text) text) rest h in
    let front = number_takes 9223372036854775807 (take (prefix_len is_digit text) text) n e in
    rw (← p.0) (sym (take-append-drop (prefix_len is_digit text) text) ∙ rw (front, p.1) refl)

plain_takes : (text rest : List ℕ) (s : Scalar) → plain_at text ≡ Ok (s, rest) → text ≡ scalar_text s ++ rest
unfolding plain_at
plain_takes text rest s h = plain_by text rest s _ refl h

minus_text : (n : ℕ) → n ≢ 0 → signed_decimal (neg_ℤ (pos n)) ≡ 45 ∷ decimal n
minus_text zero h = absurd (h refl)
minus_text (suc n) h = refl

negative_by : (text back rest : List ℕ) (s : Scalar) (o : Option ℕ) → text ≡ 45 ∷ back → number_up_to 9223372036854775808 (take (prefix_len is_digit back) back) ≡ o
    → option_map_or {U = Read Scalar} (λ n. cond {A = Read Scalar} (eqb n 0) (Err (length text)) (Ok (Int (neg_ℤ (pos n)), drop (prefix_len is_digit back) back))) o (Err (length text)) ≡ Ok (s, rest) → text ≡ scalar_text s ++ rest
negative_by text back rest s None sign e h = cc
negative_by text back rest s (Some n) sign e h =
    chosen {A = Read Scalar} (text ≡ scalar_text s ++ rest) (eqb n 0) (Err (length text)) (Ok (Int (neg_ℤ (pos n)), drop (prefix_len is_digit back) back)) (Ok (s, rest)) h
    (λ t i. cc)
    (λ f i. let more : n ≢ 0 = grind (arith, nat_tests) in
    let p = are_parts (Int (neg_ℤ (pos n))) s (drop (prefix_len is_digit back) back) rest i in
    let front = number_takes 9223372036854775808 (take (prefix_len is_digit back) back) n e in
    let text_is : back ≡ decimal n ++ rest = sym (take-append-drop (prefix_len is_digit back) back) ∙ rw (front, p.1) refl in
    rw (← p.0) (sign ∙ ap (λ t. 45 ∷ t) text_is ∙ ap (λ t. t ++ rest) (sym (minus_text n more))))

negative_takes : (text rest : List ℕ) (s : Scalar) → begins (is_byte 45) text ≡ true → negative_at text (drop 1 text) ≡ Ok (s, rest) → text ≡ scalar_text s ++ rest
unfolding negative_at
negative_takes text rest s sign h =
    chosen (text ≡ scalar_text s ++ rest) (eqb (prefix_len is_digit (drop 1 text)) 0) (Err (length (drop 1 text))) _ (Ok (s, rest)) h
    (λ t i. cc)
    (λ f i. negative_by text (drop 1 text) rest s _ (begins_with 45 text sign) refl i)

quoted_takes : (text rest : List ℕ) (s : Scalar) → begins (is_byte 34) text ≡ true → quoted_at text (drop 1 text) ≡ Ok (s, rest) → text ≡ scalar_text s ++ rest
unfolding quoted_at
quoted_takes text rest s quote h =
    let back = drop 1 text in
    let k = prefix_len is_text_byte back in
    chosen (text ≡ scalar_text s ++ rest) (nat_lt 64 k) (Err (length text)) _ (Ok (s, rest)) h
    (λ t i. cc)
    (λ f i. chosen {A = Read Scalar} (text ≡ scalar_text s ++ rest) (begins (is_byte 34) (drop k back)) (Ok (Text (take k back), drop 1 (drop k back))) (Err (length (drop k back))) (Ok (s, rest)) i
    (λ u j. let p = are_parts (Text (take k back)) s (drop 1 (drop k back)) rest j in
    let close = begins_with 34 (drop k back) u in
    let text_is : back ≡ take k back ++ 34 ∷ rest = sym (take-append-drop k back) ∙ ap (λ t. take k back ++ t) (close ∙ ap (λ t. 34 ∷ t) p.1) in
    rw (← p.0) (begins_with 34 text quote ∙ ap (λ t. 34 ∷ t) (text_is ∙ sym (append_assoc (take k back) (34 ∷ []) rest))))
    (λ u j. cc))

-- what is read of a scalar is its text
pub scalar_takes : (text rest : List ℕ) (s : Scalar) → scalar_at text ≡ Ok (s, rest) → ReadsScalar s text rest
unfolding scalar_at
scalar_takes text rest s h =
    chosen (text ≡ scalar_text s ++ rest) (begins (is_byte 116) text) _ _ (Ok (s, rest)) h
    (λ t i. let w = word_at_takes (Truth true) s (codes "true") text rest i in rw w.0 w.1)
    (λ f i. chosen (text ≡ scalar_text s ++ rest) (begins (is_byte 102) text) _ _ (Ok (s, rest)) i
    (λ t j. let w = word_at_takes (Truth false) s (codes "false") text rest j in rw w.0 w.1)
    (λ g j. chosen (text ≡ scalar_text s ++ rest) (begins (is_byte 34) text) _ _ (Ok (s, rest)) j
    (λ t k. quoted_takes text rest s t k)
    (λ g k. chosen (text ≡ scalar_text s ++ rest) (begins (is_byte 45) text) _ _ (Ok (s, rest)) k
    (λ t l. negative_takes text rest s t l)
    (λ g l. chosen (text ≡ scalar_text s ++ rest) (begins is_digit text) _ _ (Ok (s, rest)) l
    (λ t m. plain_takes text rest s m)
    (λ g m. cc)))))

-- digits of a number
digits_are : (n : ℕ) → n < 2 ^ 64 → AllPass is_digit (decimal n)
digits_are n small = digits_decimal digits_model n small

other_digit : (b c : ℕ) → is_digit b ≡ true → is_digit c ≡ false → eqb b c ≡ false
other_digit b c h i = by_test (eqb b c) refl where
  by_test : (t : Bool) → eqb b c ≡ t → t ≡ false
  by_test false e = refl
  by_test true e = let same : b ≡ c = grind (arith, nat_tests) in let d : is_digit c ≡ true = rw (← same) h in cc

first_other_by : (c : ℕ) (ds rest : List ℕ) → is_digit c ≡ false → AllPass is_digit ds → 0 < length ds → begins (is_byte c) (ds ++ rest) ≡ false
first_other_by c [] rest other all some = absurd (omega arith)
first_other_by c (d ∷ ds) rest other all some = other_digit d c (all 0 0 (omega arith)) other

first_digit_by : (ds rest : List ℕ) → AllPass is_digit ds → 0 < length ds → begins is_digit (ds ++ rest) ≡ true
first_digit_by [] rest all some = absurd (omega arith)
first_digit_by (d ∷ ds) rest all some = all 0 0 (omega arith)

not_digit : (c : ℕ) → (nat_le 48 c && nat_le c 57) ≡ false → is_digit c ≡ false
unfolding is_digit
not_digit c h = h

module _ (n : ℕ) (small : n < 2 ^ 64) (rest : List ℕ) where
  first_other : (c : ℕ) → (nat_le 48 c && nat_le c 57) ≡ false → begins (is_byte c) (decimal n ++ rest) ≡ false
  first_other c other = first_other_by c (decimal n) rest (not_digit c other) (digits_are n small) (decimal_nonempty n small)

  first_digit : begins is_digit (decimal n ++ rest) ≡ true
  first_digit = first_digit_by (decimal n) rest (digits_are n small) (decimal_nonempty n small)

  run : begins is_digit rest ≡ false → prefix_len is_digit (decimal n ++ rest) ≡ length (decimal n)
  run stop = front-append is_digit (decimal n) rest (digits_are n small) stop

  number_again : (most : ℕ) → begins is_digit rest ≡ false → most < 2 ^ 64 → n ≤ most → number_up_to most (take (prefix_len is_digit (decimal n ++ rest)) (decimal n ++ rest)) ≡ Some n
  number_again most stop room fits = rw (run stop, take-append_seam (decimal n) rest) (some_number most (decimal n) n room (record { bounded = fits; spelled = refl }))

  behind : begins is_digit rest ≡ false → drop (prefix_len is_digit (decimal n ++ rest)) (decimal n ++ rest) ≡ rest
  behind stop = rw (run stop) (drop-append_seam (decimal n) rest)

  plain_again : begins is_digit rest ≡ false → n ≤ 9223372036854775807 → plain_at (decimal n ++ rest) ≡ Ok (Int (pos n), rest)
  unfolding plain_at
  plain_again stop fits = rw (number_again 9223372036854775807 stop (omega arith) fits, behind stop) refl

  has_run : begins is_digit rest ≡ false → eqb (prefix_len is_digit (decimal n ++ rest)) 0 ≡ false
  has_run stop = rw (run stop) (let h = decimal_nonempty n small in grind (arith, nat_tests))

  negative_again : begins is_digit rest ≡ false → n ≢ 0 → n ≤ 9223372036854775808 → negative_at (45 ∷ decimal n ++ rest) (decimal n ++ rest) ≡ Ok (Int (neg_ℤ (pos n)), rest)
  unfolding negative_at
  negative_again stop more fits =
      let nz : eqb n 0 ≡ false = grind (arith, nat_tests) in
      rw (has_run stop, number_again 9223372036854775808 stop (omega arith) fits, nz, behind stop) refl

  reads_plain : begins is_digit rest ≡ false → n ≤ 9223372036854775807 → scalar_at (decimal n ++ rest) ≡ Ok (Int (pos n), rest)
  unfolding scalar_at
  reads_plain stop fits = rw (first_other 116 refl, first_other 102 refl, first_other 34 refl, first_other 45 refl, first_digit) (plain_again stop fits)

text_again : (t rest : List ℕ) → IsText t → quoted_at (34 ∷ t ++ 34 ∷ rest) (t ++ 34 ∷ rest) ≡ Ok (Text t, rest)
unfolding quoted_at is_text_byte
text_again t rest h =
    let run : prefix_len is_text_byte (t ++ 34 ∷ rest) ≡ length t = front-append is_text_byte t (34 ∷ rest) h.plain refl in
    let short : nat_lt 64 (length t) ≡ false = let few = h.short in grind (arith, nat_tests) in
    rw (run, short, drop-append_seam t (34 ∷ rest), take-append_seam t (34 ∷ rest)) refl

-- a scalar is read from its text, behind which no digit stands
pub scalar_again : (s : Scalar) (rest : List ℕ) → IsScalar s → begins is_digit rest ≡ false → scalar_at (scalar_text s ++ rest) ≡ Ok (s, rest)
unfolding scalar_at word_end
scalar_again (Int (pos n)) rest fits stop = reads_plain n (omega (arith, fits.sfits)) rest stop (omega (arith, fits.sfits))
scalar_again (Int (negsuc n)) rest fits stop = negative_again (suc n) (omega (arith, fits.sfits)) rest stop (omega arith) (omega (arith, fits.sfits))
scalar_again (Truth true) rest fits stop = refl
scalar_again (Truth false) rest fits stop = refl
scalar_again (Text t) rest fits stop = ap (λ u. quoted_at (34 ∷ u) u) (append_assoc t (34 ∷ []) rest) ∙ text_again t rest fits

-- a scalar's text begins with no other byte than a digit, a sign, a quote, `t` or `f`
pub scalar_first : (s : Scalar) (rest : List ℕ) (c : ℕ) → IsScalar s → (nat_le 48 c && nat_le c 57) ≡ false → eqb 45 c ≡ false → eqb 34 c ≡ false → eqb 116 c ≡ false → eqb 102 c ≡ false → begins (is_byte c) (scalar_text s ++ rest) ≡ false
scalar_first (Int (pos n)) rest c fits other sign quote t f = first_other n (omega (arith, fits.sfits)) rest c other
scalar_first (Int (negsuc n)) rest c fits other sign quote t f = sign
scalar_first (Truth true) rest c fits other sign quote t f = t
scalar_first (Truth false) rest c fits other sign quote t f = f
scalar_first (Text s) rest c fits other sign quote t f = quote
