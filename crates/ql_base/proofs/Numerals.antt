use Rattle.std.proofs.Common.{◌≡◌, zero, suc, ◌≤◌, ◌<◌, ◌-◌, ◌+◌, ◌*◌, ◌^◌, ℕ, true, List, Option, Some, None, length, take, get_or, arith, sym, ap, ◌∙◌, decimal, MatchOption, subst}
use Rattle.std.specs.List.{AllPass}
use Rattle.std.specs.Int.{IsInRange}
use Rattle.std.specs.Char.{digit_value}
use Rattle.std.specs.Str.Parse.{digits_value}
use Rattle.std.proofs.lemmas.Str.Parse.{IsDigitsTest, IsNumeralModel, numerals_by_value}
use Rattle.std.proofs.lemmas.Int.Digits.{digits_value_more}
use Rattle.std.proofs.lemmas.Fmt.{digits_decimal, digits_value-decimal, decimal-digits_value, decimal_nonempty, first_decimal, decimal_digit}
use Rattle.std.proofs.lemmas.Bool.Decides.{nat_tests}
use Rattle.std.proofs.lemmas.List.Elements.{All-cons, All-nil}
use Rattle.ql_base.specs.Bytes.{is_digit}
use Rattle.ql_base.specs.Numbers.{IsNumberOf, IsNumeral, Spells}

pub digit_range : (b : ℕ) → is_digit b ≡ true → IsInRange 48 57 b
unfolding is_digit
digit_range b h = grind (arith, nat_tests)

in_range_digit : (b : ℕ) → IsInRange 48 57 b → is_digit b ≡ true
unfolding is_digit
in_range_digit b h = grind (arith, nat_tests)

digit_value_is : (b : ℕ) → IsInRange 48 57 b → digit_value b ≡ b - 48
digit_value_is b h = grind (arith, nat_tests)

-- the test of a text's bytes is a test for digits
tells : IsDigitsTest (AllPass is_digit)
tells = record {
  empty = All-nil (λ b. is_digit b ≡ true);
  parts = λ c cs h. (digit_range c (h 0 0 (omega arith)), λ k d lt. h (suc k) d (omega arith));
  more = λ c cs h hs. All-cons (λ b. is_digit b ≡ true) c cs (in_range_digit c h) hs;
}

-- decimal texts are the texts of digits, by their value
pub digits_model : IsNumeralModel (AllPass is_digit) (digits_value 10)
digits_model = numerals_by_value (AllPass is_digit) tells

-- the value of one digit more
pub value_more : (ds : List ℕ) (i : ℕ) → AllPass is_digit ds → i < length ds → digits_value 10 (take (i + 1) ds) ≡ digits_value 10 (take i ds) * 10 + (get_or ds i 0 - 48)
value_more ds i digits lt = digits_value_more 10 ds i lt ∙ ap (λ v. digits_value 10 (take i ds) * 10 + v) (digit_value_is (get_or ds i 0) (digit_range _ (digits i 0 lt)))

-- a number whose text begins with `0` is 0
first_zero : (n : ℕ) → n < 2 ^ 64 → get_or (decimal n) 0 0 ≡ 48 → length (decimal n) ≡ 1
first_zero zero small e = ap length (decimal_digit 0 (omega arith))
first_zero (suc n) small e = absurd (omega (arith, first_decimal (suc n) (omega arith) small))

-- the decimal text of a number is a numeral
decimal_is : (n : ℕ) → n < 2 ^ 64 → IsNumeral (decimal n)
decimal_is n small = record {
  digits = digits_decimal digits_model n small;
  some = decimal_nonempty n small;
  first = first_zero n small;
}

-- what is no numeral spells no number
pub no_number : (most : ℕ) (text : List ℕ) → most < 2 ^ 64 → ¬ IsNumeral text → (n : ℕ) → ¬ Spells most n text
no_number most text small other n s = other (subst IsNumeral s.spelled (decimal_is n (omega (arith, s.bounded))))

-- a numeral spells its value
pub number_is : (most : ℕ) (text : List ℕ) (r : Option ℕ) → most < 2 ^ 64 → IsNumeral text → MatchOption r (most < digits_value 10 text) (λ n. (n ≤ most) × (n ≡ digits_value 10 text)) → IsNumberOf most text r
number_is most text None small numeral h = λ n s. let e : digits_value 10 text ≡ n = ap (digits_value 10) (sym s.spelled) ∙ digits_value-decimal digits_model n (omega (arith, s.bounded)) in omega (arith, s.bounded)
number_is most text (Some n) small numeral h = record {
  bounded = h.0;
  spelled = ap decimal h.1 ∙ decimal-digits_value digits_model text numeral.digits numeral.some numeral.first (omega (arith, h.0, h.1));
}
