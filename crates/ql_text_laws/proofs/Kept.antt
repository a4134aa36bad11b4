-- a scalar that was read is read as well if something else follows it
use Rattle.std.proofs.Common.{◌≡◌, ℕ, pos, neg_ℤ, true, false, Option, Some, None, Ok, Err, List, [], ◌∷◌, ◌++◌, length, take, drop, arith, refl, sym, ap, ◌∙◌, nat_lt, cond, eqb, codes, append_assoc, subst}
use Rattle.std.specs.List.{prefix_len}
use Rattle.std.specs.Option.{option_map_or}
use Rattle.std.proofs.Math.Seq.{take-append_seam, drop-append_seam}
use Rattle.std.proofs.lemmas.Bool.Decides.{nat_tests}
use Rattle.ql_base.specs.Bytes.{begins, is_digit, is_text_byte}
use Rattle.ql_base.proofs.Fronts.{front-append, front_stops}
use Rattle.ql_value.specs.declared.scalar.Scalar.{Scalar}
use Rattle.ql_value.specs.declared.scalar.Scalar.TheVariants.{Int, Bool as Truth, Text}
use Rattle.ql_value.specs.Texts.{IsText}
use Rattle.ql_value.specs.Spelling.{scalar_text}
use Rattle.ql_value.specs.Reading.{Read, is_byte, negative_at, number_up_to, plain_at, quoted_at, scalar_at, word_end}
use Rattle.ql_value.specs.ValueGrammar.{IsScalar}
use Rattle.ql_value.proofs.ScalarGrammar.{are_parts, chosen, scalar_again, word_at_takes}

-- no digit follows a number
abbrev pub Stops : Scalar → List ℕ → Type 0
Stops (Int z) rest = begins is_digit rest ≡ false
Stops (Truth b) rest = Unit {0}
Stops (Text t) rest = Unit {0}

stops_behind : (n : Scalar) (s : Scalar) (text rest : List ℕ) → Stops n (drop (prefix_len is_digit text) text) → (n ≡ s) × (drop (prefix_len is_digit text) text ≡ rest) → Stops s rest
stops_behind n s text rest h p = subst (λ x. Stops x rest) p.0 (subst (λ r. Stops n r) p.1 h)

plain_by : (text rest : List ℕ) (s : Scalar) (o : Option ℕ) → option_map_or {U = Read Scalar} (λ n. Ok (Int (pos n), drop (prefix_len is_digit text) text)) o (Err (length text)) ≡ Ok (s, rest) → Stops s rest
plain_by text rest s None h = cc
plain_by text rest s (Some n) h = stops_behind (Int (pos n)) s text rest (front_stops is_digit text) (are_parts (Int (pos n)) s (drop (prefix_len is_digit text) text) rest h)

plain_stops : (text rest : List ℕ) (s : Scalar) → plain_at text ≡ Ok (s, rest) → Stops s rest
unfolding plain_at
plain_stops text rest s h = plain_by text rest s (number_up_to 9223372036854775807 (take (prefix_len is_digit text) text)) h

negative_by : (text back rest : List ℕ) (s : Scalar) (o : Option ℕ) → option_map_or {U = Read Scalar} (λ n. cond {A = Read Scalar} (eqb n 0) (Err (length text)) (Ok (Int (neg_ℤ (pos n)), drop (prefix_len is_digit back) back))) o (Err (length text)) ≡ Ok (s, rest) → Stops s rest
negative_by text back rest s None h = cc
negative_by text back rest s (Some n) h =
    chosen {A = Read Scalar} (Stops s rest) (eqb n 0) (Err (length text)) (Ok (Int (neg_ℤ (pos n)), drop (prefix_len is_digit back) back)) (Ok (s, rest)) h
    (λ t i. cc)
    (λ f i. stops_behind (Int (neg_ℤ (pos n))) s back rest (front_stops is_digit back) (are_parts (Int (neg_ℤ (pos n))) s (drop (prefix_len is_digit back) back) rest i))

negative_stops : (text back rest : List ℕ) (s : Scalar) → negative_at text back ≡ Ok (s, rest) → Stops s rest
unfolding negative_at
negative_stops text back rest s h =
    chosen (Stops s rest) (eqb (prefix_len is_digit back) 0) (Err (length back)) _ (Ok (s, rest)) h
    (λ t i. cc)
    (λ f i. negative_by text back rest s (number_up_to 9223372036854775808 (take (prefix_len is_digit back) back)) i)

quoted_stops : (text back rest : List ℕ) (s : Scalar) → quoted_at text back ≡ Ok (s, rest) → Stops s rest
unfolding quoted_at
quoted_stops text back rest s h =
    let k = prefix_len is_text_byte back in
    chosen (Stops s rest) (nat_lt 64 k) (Err (length text)) _ (Ok (s, rest)) h
    (λ t i. cc)
    (λ f i. chosen {A = Read Scalar} (Stops s rest) (begins (is_byte 34) (drop k back)) (Ok (Text (take k back), drop 1 (drop k back))) (Err (length (drop k back))) (Ok (s, rest)) i
    (λ u j. subst (λ x. Stops x rest) (are_parts (Text (take k back)) s (drop 1 (drop k back)) rest j).0 tt)
    (λ u j. cc))

-- a number is read to its last digit
pub scalar_stops : (text rest : List ℕ) (s : Scalar) → scalar_at text ≡ Ok (s, rest) → Stops s rest
unfolding scalar_at
scalar_stops text rest s h =
    chosen (Stops s rest) (begins (is_byte 116) text) _ _ (Ok (s, rest)) h
    (λ t i. subst (λ x. Stops x rest) (sym (word_at_takes (Truth true) s (codes "true") text rest i).0) tt)
    (λ f i. chosen (Stops s rest) (begins (is_byte 102) text) _ _ (Ok (s, rest)) i
    (λ t j. subst (λ x. Stops x rest) (sym (word_at_takes (Truth false) s (codes "false") text rest j).0) tt)
    (λ g j. chosen (Stops s rest) (begins (is_byte 34) text) _ _ (Ok (s, rest)) j
    (λ t k. quoted_stops text (drop 1 text) rest s k)
    (λ g k. chosen (Stops s rest) (begins (is_byte 45) text) _ _ (Ok (s, rest)) k
    (λ t l. negative_stops text (drop 1 text) rest s l)
    (λ g l. chosen (Stops s rest) (begins is_digit text) _ _ (Ok (s, rest)) l
    (λ t m. plain_stops text rest s m)
    (λ g m. cc)))))

text_again : (t rest : List ℕ) → IsText t → quoted_at (34 ∷ t ++ 34 ∷ rest) (t ++ 34 ∷ rest) ≡ Ok (Text t, rest)
unfolding quoted_at is_text_byte
text_again t rest h =
    let run : prefix_len is_text_byte (t ++ 34 ∷ rest) ≡ length t = front-append is_text_byte t (34 ∷ rest) h.plain refl in
    let short : nat_lt 64 (length t) ≡ false = let few = h.short in grind (arith, nat_tests) in
    rw (run, short, drop-append_seam t (34 ∷ rest), take-append_seam t (34 ∷ rest)) refl

-- a scalar is read from its text, behind which no digit is if it is a number
pub again : (s : Scalar) (rest : List ℕ) → IsScalar s → Stops s rest → scalar_at (scalar_text s ++ rest) ≡ Ok (s, rest)
unfolding scalar_at word_end
again (Int z) rest fits stop = scalar_again (Int z) rest fits stop
again (Truth true) rest fits stop = refl
again (Truth false) rest fits stop = refl
again (Text t) rest fits stop = ap (λ u. quoted_at (34 ∷ u) u) (append_assoc t (34 ∷ []) rest) ∙ text_again t rest fits
