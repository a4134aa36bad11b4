-- the bytes before a fault in a scalar are the beginning of a scalar's text
use Rattle.std.proofs.Common.{◌≡◌, ◌≤◌, ℕ, pos, neg_ℤ, Bool, true, false, Option, Some, None, Result, Ok, Err, List, [], ◌∷◌, ◌++◌, length, take, drop, arith, refl, sym, ap, ◌∙◌, nat_lt, cond, eqb, codes}
use Rattle.std.specs.List.{prefix_len}
use Rattle.std.specs.Option.{option_map_or}
use Rattle.std.proofs.lemmas.Bool.Decides.{nat_tests}
use Rattle.std.proofs.lemmas.Fmt.{decimal_digit}
use Rattle.std.proofs.lemmas.List.{take-append-drop}
use Rattle.std.proofs.lemmas.List.Folds.{length-prefix_len}
use Rattle.ql_base.specs.Bytes.{begins, is_digit, is_text_byte}
use Rattle.ql_base.proofs.Fronts.{front_passes}
use Rattle.ql_value.specs.declared.scalar.Scalar.{Scalar}
use Rattle.ql_value.specs.declared.scalar.Scalar.TheVariants.{Int, Bool as Truth, Text}
use Rattle.ql_value.specs.Spelling.{scalar_text}
use Rattle.ql_value.specs.Reading.{Read, is_byte, negative_at, number_up_to, plain_at, quoted_at, scalar_at, standing_for, word_at, word_end}
use Rattle.ql_value.specs.ValueGrammar.{IsScalar}
use Rattle.ql_value.proofs.ScalarGrammar.{begins_with, chosen}
use Rattle.ql_text_laws.proofs.Before.{Before, at_start, behind, weaker}

-- these bytes begin a word
pub record WordStart (w pre : List ℕ) : Type 0 where
  pub more : List ℕ
  pub spelled : pre ++ more ≡ w

no_letter : (w : List ℕ) → WordStart w []
no_letter w = record { more = w; spelled = refl }

next_letter : (w : ℕ) (ws pre : List ℕ) → WordStart ws pre → WordStart (w ∷ ws) (w ∷ pre)
next_letter w ws pre s = record { more = s.more; spelled = ap (λ u. w ∷ u) s.spelled }

pub word_before : (w text : List ℕ) (left : ℕ) → word_end w text ≡ Err left → Before (WordStart w) text left
unfolding word_end
word_before [] text left h = cc
word_before (w ∷ ws) [] left h = let len : 0 ≡ left = cc in at_start (WordStart (w ∷ ws)) [] left len (no_letter (w ∷ ws))
word_before (w ∷ ws) (b ∷ bs) left h =
    chosen (Before (WordStart (w ∷ ws)) (b ∷ bs) left) (eqb b w) (word_end ws bs) (Err (length (b ∷ bs))) (Err left) h
    (λ t e. let same : b ≡ w = grind (arith, nat_tests) in
    behind (WordStart ws) (WordStart (w ∷ ws)) (w ∷ []) bs (b ∷ bs) left (rw same refl) (next_letter w ws) (word_before ws bs left e))
    (λ f e. let len : length (b ∷ bs) ≡ left = cc in at_start (WordStart (w ∷ ws)) (b ∷ bs) left len (no_letter (w ∷ ws)))

word_fault_by : {X : Type 0} (x : X) (w text : List ℕ) (left : ℕ) (r : Result (List ℕ) ℕ) → word_end w text ≡ r → standing_for x r ≡ Err left → word_end w text ≡ Err left
word_fault_by x w text left (Ok rest) e h = cc
word_fault_by x w text left (Err l) e h = let same : l ≡ left = cc in e ∙ ap Err same

pub word_fault : {X : Type 0} (x : X) (w text : List ℕ) (left : ℕ) → word_at x w text ≡ Err left → word_end w text ≡ Err left
word_fault x w text left h = word_fault_by x w text left (word_end w text) refl h

-- these bytes begin the text of a scalar within the limits
pub record ScalarStart (pre : List ℕ) : Type 0 where
  pub more : List ℕ
  pub scalar : Scalar
  pub fits : IsScalar scalar
  pub spelled : pre ++ more ≡ scalar_text scalar

pub no_byte : ScalarStart []
no_byte = record { more = codes "true"; scalar = Truth true; fits = tt; spelled = refl }

truth_start : (b : Bool) (pre : List ℕ) → WordStart (scalar_text (Truth b)) pre → ScalarStart pre
truth_start b pre s = record { more = s.more; scalar = Truth b; fits = tt; spelled = s.spelled }

abbrev ScalarBefore : List ℕ → ℕ → Type 0
ScalarBefore text left = Before ScalarStart text left

plain_by : (text : List ℕ) (left : ℕ) (o : Option ℕ) → option_map_or {U = Read Scalar} (λ n. Ok (Int (pos n), drop (prefix_len is_digit text) text)) o (Err (length text)) ≡ Err left → ScalarBefore text left
plain_by text left None h = let len : length text ≡ left = cc in at_start ScalarStart text left len no_byte
plain_by text left (Some n) h = cc

plain_before : (text : List ℕ) (left : ℕ) → plain_at text ≡ Err left → ScalarBefore text left
unfolding plain_at
plain_before text left h = plain_by text left _ h

sign_start : ScalarStart (45 ∷ [])
sign_start = record { more = 49 ∷ []; scalar = Int (neg_ℤ (pos 1)); fits = record { sfits = omega arith }; spelled = ap (λ t. 45 ∷ t) (sym (decimal_digit 1 (omega arith))) }

negative_by : (text back : List ℕ) (left : ℕ) (o : Option ℕ) → option_map_or {U = Read Scalar} (λ n. cond {A = Read Scalar} (eqb n 0) (Err (length text)) (Ok (Int (neg_ℤ (pos n)), drop (prefix_len is_digit back) back))) o (Err (length text)) ≡ Err left → ScalarBefore text left
negative_by text back left None h = let len : length text ≡ left = cc in at_start ScalarStart text left len no_byte
negative_by text back left (Some n) h =
    chosen {A = Read Scalar} (ScalarBefore text left) (eqb n 0) (Err (length text)) (Ok (Int (neg_ℤ (pos n)), drop (prefix_len is_digit back) back)) (Err left) h
    (λ t i. let len : length text ≡ left = cc in at_start ScalarStart text left len no_byte)
    (λ f i. cc)

negative_before : (text back : List ℕ) (left : ℕ) → text ≡ 45 ∷ back → negative_at text back ≡ Err left → ScalarBefore text left
unfolding negative_at
negative_before text back left sign h =
    chosen (ScalarBefore text left) (eqb (prefix_len is_digit back) 0) (Err (length back)) _ (Err left) h
    (λ t i. let len : length back ≡ left = cc in record { pre = 45 ∷ []; post = back; is = sign; len = len; holds = sign_start })
    (λ f i. negative_by text back left (number_up_to 9223372036854775808 (take (prefix_len is_digit back) back)) i)

quoted_before : (text back : List ℕ) (left : ℕ) → text ≡ 34 ∷ back → quoted_at text back ≡ Err left → ScalarBefore text left
unfolding quoted_at
quoted_before text back left quote h =
    let k = prefix_len is_text_byte back in
    chosen (ScalarBefore text left) (nat_lt 64 k) (Err (length text)) _ (Err left) h
    (λ t i. let len : length text ≡ left = cc in at_start ScalarStart text left len no_byte)
    (λ f i. chosen {A = Read Scalar} (ScalarBefore text left) (begins (is_byte 34) (drop k back)) (Ok (Text (take k back), drop 1 (drop k back))) (Err (length (drop k back))) (Err left) i
    (λ u j. cc)
    (λ u j. let few : k ≤ 64 = grind (arith, nat_tests) in let len : length (drop k back) ≡ left = cc in record {
      pre = 34 ∷ take k back;
      post = drop k back;
      is = quote ∙ ap (λ t. 34 ∷ t) (sym (take-append-drop k back));
      len = len;
      holds = record {
        more = 34 ∷ [];
        scalar = Text (take k back);
        fits = record { short = omega (arith, few, length-prefix_len is_text_byte back); plain = front_passes is_text_byte back };
        spelled = refl;
      };
    }))

-- the bytes before a fault in a scalar begin one
pub scalar_before : (text : List ℕ) (left : ℕ) → scalar_at text ≡ Err left → Before ScalarStart text left
unfolding scalar_at
scalar_before text left h =
    chosen (ScalarBefore text left) (begins (is_byte 116) text) _ _ (Err left) h
    (λ t i. weaker (WordStart (codes "true")) ScalarStart text left (truth_start true) (word_before (codes "true") text left (word_fault (Truth true) (codes "true") text left i)))
    (λ f i. chosen (ScalarBefore text left) (begins (is_byte 102) text) _ _ (Err left) i
    (λ t j. weaker (WordStart (codes "false")) ScalarStart text left (truth_start false) (word_before (codes "false") text left (word_fault (Truth false) (codes "false") text left j)))
    (λ g j. chosen (ScalarBefore text left) (begins (is_byte 34) text) _ _ (Err left) j
    (λ t k. quoted_before text (drop 1 text) left (begins_with 34 text t) k)
    (λ g k. chosen (ScalarBefore text left) (begins (is_byte 45) text) _ _ (Err left) k
    (λ t l. negative_before text (drop 1 text) left (begins_with 45 text t) l)
    (λ g l. chosen (ScalarBefore text left) (begins is_digit text) _ _ (Err left) l
    (λ t m. plain_before text left m)
    (λ g m. let len : length text ≡ left = cc in at_start ScalarStart text left len no_byte)))))
