-- lines that are written end where they were ended
use Rattle.std.proofs.Common.{◌≡◌, ℕ, zero, suc, ◌<◌, ◌≤◌, ◌/◌, ◌%◌, true, false, List, [], ◌∷◌, ◌++◌, length, decimal, arith, refl, ap, sym, ◌∙◌, append_assoc, one-add}
use Rattle.std.specs.Prelude.{if◌then◌else◌, ◌==◌}
use Rattle.std.specs.Fmt.{digit_glyph, digits, digits_onto}
use Rattle.std.specs.List.{AllByRecursion, position_or_len}
use Rattle.std.specs.Str.Lines.{lines}
use Rattle.std.proofs.lemmas.Bool.Decides.{nat_tests}
use Rattle.ql_lines.specs.Fields.{Fields, fields_of, is_space}
use Rattle.ql_lines.specs.Texts.{file_text, joined}
use Rattle.ql_lines.proofs.Each.{each_weaker}
use Rattle.ql_lines.proofs.FieldLaws.{field_first}
use Rattle.ql_lines.proofs.LineEnds.{Stay, StaysIn, line_again, stays_of}

-- the first of some lines before a text
pub first_line : (l : Fields) (ls : List Fields) (rest : List ℕ) → Stay (joined l) → lines (file_text (l ∷ ls) ++ rest) ≡ joined l ∷ lines (file_text ls ++ rest)
unfolding file_text
first_line l ls rest h = ap lines (append_assoc (joined l) (10 ∷ file_text ls) rest) ∙ line_again (joined l) (file_text ls ++ rest) h

-- ---- what a line begins with

head : List ℕ → ℕ
head [] = 0
head (b ∷ bs) = b

first : Fields → ℕ
first [] = 0
first (f ∷ fs) = head f

-- the first byte of the first field
pub first_byte : (b : ℕ) (bs f : List ℕ) (fs : Fields) (c : ℕ) (cs : List ℕ) → is_space b ≡ false → fields_of (b ∷ bs) ≡ f ∷ fs → f ≡ c ∷ cs → b ≡ c
unfolding head first
first_byte b bs f fs c cs space e is =
    let found : first (fields_of (b ∷ bs)) ≡ b = rw (field_first b bs space, space, one-add (position_or_len is_space bs)) refl in
    sym found ∙ ap first e ∙ ap head is

-- ---- decimals

abbrev pub IsDigitByte : ℕ → Type 0
IsDigitByte b = (48 ≤ b) × (b ≤ 57)

below_ten : (n : ℕ) → n % 10 < 10
below_ten n = omega arith

glyph : (d : ℕ) → d < 10 → IsDigitByte (digit_glyph false d)
glyph d less = grind (arith, nat_tests, less)

digits_onto_are : (k n : ℕ) (acc : List ℕ) → AllByRecursion IsDigitByte acc → AllByRecursion IsDigitByte (digits_onto k 10 false n acc)
digits_onto_are zero n acc h = h
digits_onto_are (suc k) n acc h =
    let d = digit_glyph false (n % 10) in
    let more : AllByRecursion IsDigitByte (d ∷ acc) = (glyph (n % 10) (below_ten n), h) in
    elim (n / 10 == 0) as (λ t. AllByRecursion IsDigitByte (if t then d ∷ acc else digits_onto k 10 false (n / 10) (d ∷ acc))) [
      | true ↦ more
      | false ↦ digits_onto_are k (n / 10) (d ∷ acc) more
    ]

onto_some : (k n : ℕ) (acc : List ℕ) → 0 < length acc → 0 < length (digits_onto k 10 false n acc)
onto_some zero n acc h = h
onto_some (suc k) n acc h =
    let d = digit_glyph false (n % 10) in
    elim (n / 10 == 0) as (λ t. 0 < length (if t then d ∷ acc else digits_onto k 10 false (n / 10) (d ∷ acc))) [
      | true ↦ omega arith
      | false ↦ onto_some k (n / 10) (d ∷ acc) (omega arith)
    ]

pub decimal_bytes : (n : ℕ) → AllByRecursion IsDigitByte (decimal n)
unfolding digits
decimal_bytes n = digits_onto_are 64 n [] tt

pub decimal_some : (n : ℕ) → 0 < length (decimal n)
unfolding digits
decimal_some n =
    let d = digit_glyph false (n % 10) in
    elim (n / 10 == 0) as (λ t. 0 < length (if t then d ∷ [] else digits_onto 63 10 false (n / 10) (d ∷ []))) [
      | true ↦ omega arith
      | false ↦ onto_some 63 (n / 10) (d ∷ []) (omega arith)
    ]

pub decimal_stay : (n : ℕ) → Stay (decimal n)
decimal_stay n = each_weaker IsDigitByte StaysIn (λ d h. stays_of d (omega (arith, h.0))) (decimal n) (decimal_bytes n)
