-- `t` with a digit after it is a text.
use Rattle.std.proofs.Common.{◌≡◌, ℕ, ◌+◌, ◌<◌, true, List, [], ◌∷◌, ◌++◌, codes, decimal, refl, sym, subst, arith}
use Rattle.std.proofs.lemmas.Fmt.{decimal_digit}
use Rattle.std.proofs.lemmas.Bool.{le-leb, ne_eqb}
use Rattle.std.proofs.lemmas.List.Elements.{All-cons}
use Rattle.ql_base.specs.Bytes.{is_text_byte}
use Rattle.ql_value.specs.Texts.{IsText}

digit_byte : (n : ℕ) → n < 10 → is_text_byte (48 + n) ≡ true
unfolding is_text_byte
digit_byte n less =
    rw (le-leb 32 (48 + n) (omega arith), le-leb (48 + n) 126 (omega (arith, less)), ne_eqb (48 + n) 34 (λ e. omega (arith, e)), ne_eqb (48 + n) 92 (λ e. omega (arith, e, less))) refl

first_byte : is_text_byte 116 ≡ true
unfolding is_text_byte
first_byte = refl

pub numbered_text : (n : ℕ) → n < 10 → IsText (codes "t" ++ decimal n)
numbered_text n less = subst (λ (d : List ℕ). IsText (codes "t" ++ d)) (sym (decimal_digit n less)) (record {
  short = omega arith;
  plain = All-cons (λ b. is_text_byte b ≡ true) 116 ((48 + n) ∷ []) first_byte (All-cons (λ b. is_text_byte b ≡ true) (48 + n) [] (digit_byte n less) (λ k d none. absurd (omega (arith, none))));
})
