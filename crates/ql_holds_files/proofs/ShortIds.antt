-- Ids that are read one after another: each is above those before it, and is the next field.
use Rattle.std.proofs.Common.{◌≡◌, ◌^◌, ℕ, ◌-◌, ◌<◌, true, false, List, [], ◌∷◌, ◌++◌, length, take, drop, get_or, decimal, Some, refl, ap, subst, ◌∙◌, sym, arith, Bool, ◌==◌}
use Rattle.std.specs.Prelude.{not}
use Rattle.std.specs.List.{position_or_len, AllPass}
use Rattle.std.specs.Char.{digit_value}
use Rattle.std.specs.Str.Parse.{digits_value}
use Rattle.std.proofs.Math.Seq.{take-append_seam, drop-append_seam}
use Rattle.std.proofs.lemmas.Bool.Decides.{nat_tests}
use Rattle.std.proofs.lemmas.Bool.{false≢true}
use Rattle.ql_base.specs.IdLists.{IsAscending}
use Rattle.ql_base.specs.Bytes.{StopsBefore, begins, is_digit}
use Rattle.ql_base.specs.Numbers.{IsNumeral}
use Rattle.ql_base.proofs.Fronts.{front-append, passes_head}
use Rattle.ql_base.proofs.Numerals.{number_is}
use Rattle.ql_lines.specs.Fields.{FirstField, fields_of, is_space}
use Rattle.ql_lines.proofs.AscendingIds.{below_push, below_middle}
use Rattle.ql_lines.proofs.FieldLaws.{behind_space, field_first}

-- an id above the last of ascending ids ascends after them
pub above_last : (ids : List ℕ) (last id : ℕ) → IsAscending (ids ++ last ∷ []) → last < id → IsAscending ((ids ++ last ∷ []) ++ id ∷ [])
above_last [] last id up less = ((less, tt), (tt, tt))
above_last (i ∷ ids) last id up less =
    let below = below_middle i ids last [] up.0 in
    (below_push i (ids ++ last ∷ []) id up.0 (omega (arith, below, less)), above_last ids last id up.1 less)

-- ---- a number after one space
not_space : (b : ℕ) → is_digit b ≡ true → is_space b ≡ false
unfolding is_digit
not_space b h = grind (arith, nat_tests)

no_spaces : (digits : List ℕ) → AllPass is_digit digits → AllPass (λ b. not (is_space b)) digits
no_spaces digits all = λ k d lt. ap not (not_space (get_or digits k d) (all k d lt))

pub field_after_space : (digits after : List ℕ) → AllPass is_digit digits → 0 < length digits → StopsBefore (λ b. not (is_space b)) after
    → FirstField (32 ∷ digits ++ after) digits after
field_after_space [] after all some ends = absurd (omega (arith, some))
field_after_space (b ∷ bs) after all some ends =
    let start = b ∷ bs ++ after in
    let at : position_or_len is_space start ≡ length (b ∷ bs) = front-append (λ c. not (is_space c)) (b ∷ bs) after (no_spaces (b ∷ bs) all) ends in
    record {
      fields =
          behind_space 32 start refl ∙ field_first b (bs ++ after) (not_space b (passes_head is_digit b bs all))
          ∙ ap (λ n. take n start ∷ fields_of (drop n start)) at
          ∙ ap (λ f. f ∷ fields_of (drop (length (b ∷ bs)) start)) (take-append_seam (b ∷ bs) after) ∙ ap (λ r. (b ∷ bs) ∷ fields_of r) (drop-append_seam (b ∷ bs) after);
      spaces = 1;
      stands = refl;
    }

-- the decimal text of a number is its digits, where the first isn't 0
pub digits_spell : (digits : List ℕ) (n : ℕ) → n < 2 ^ 32 → AllPass is_digit digits → 0 < length digits → (get_or digits 0 0 ≡ 48 → ⊥) → n ≡ digits_value 10 digits → decimal n ≡ digits
digits_spell digits n small all some no_zero is =
    let numeral : IsNumeral digits = record { digits = all; some = some; first = λ zero. absurd (no_zero zero) } in
    (number_is 4294967295 digits (Some n) (omega arith) numeral (omega (arith, small), is)).spelled

pub digit_value_of : (b : ℕ) → is_digit b ≡ true → digit_value b ≡ b - 48
unfolding is_digit
digit_value_of b h = grind (arith, nat_tests)

-- a number of these digits after one space
pub short_field : (text start digits after : List ℕ) (n : ℕ) → text ≡ 32 ∷ start → start ≡ digits ++ after → AllPass is_digit digits → n ≡ digits_value 10 digits → n < 2 ^ 32
    → begins (λ b. not (b == 48)) digits ≡ true → not (begins (λ b. not (is_space b)) after) ≡ true → FirstField text (decimal n) after
short_field text start [] after n text_is start_is all value small first ends = absurd (false≢true first)
short_field text start (b ∷ bs) after n text_is start_is all value small first ends =
    let no_zero : b ≡ 48 → ⊥ = λ zero. grind (arith, nat_tests, zero, first) in
    let spelled : decimal n ≡ b ∷ bs = digits_spell (b ∷ bs) n small all (omega arith) no_zero value in
    let whole : text ≡ 32 ∷ (b ∷ bs) ++ after = text_is ∙ ap (λ (l : List ℕ). 32 ∷ l) start_is in
    subst (λ (t : List ℕ). FirstField t (decimal n) after) (sym whole)
    (subst (λ (f : List ℕ). FirstField (32 ∷ (b ∷ bs) ++ after) f after) (sym spelled) (field_after_space (b ∷ bs) after all (omega arith) (stops (begins (λ c. not (is_space c)) after) ends)))
  where
    stops : (t : Bool) → not t ≡ true → t ≡ false
    stops true never = absurd (false≢true never)
    stops false is = refl
