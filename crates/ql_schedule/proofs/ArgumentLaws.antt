-- the arguments of the grammar are what the reader of values reads
use Rattle.std.proofs.Common.{◌≡◌, ◌⊎◌, inl, inr, ◌++◌, ◌∷◌, [], ◌∙◌, ℕ, ℤ, Bool, true, false, IsTrue, ◌↔◌, Ok, List, Option, Some, None, MatchOption, arith, refl, sym, ap, subst}
use Rattle.std.proofs.lemmas.List.{append-nil}
use Rattle.ql_base.specs.Bytes.{is_digit}
use Rattle.ql_value.specs.declared.scalar.Scalar.{Scalar}
use Rattle.ql_value.specs.declared.scalar.Scalar.TheVariants.{Int as NumberOf, Bool as TruthOf, Text as TextOf}
use Rattle.ql_value.specs.declared.value.Value.{Value}
use Rattle.ql_value.specs.declared.value.Value.TheVariants.{Unit as Nothing, Int as Number, Bool as Truth, Text, Set, Map}
use Rattle.ql_value.specs.Contents.{value_of_scalar}
use Rattle.ql_value.specs.Reading.{value_at}
use Rattle.ql_value.specs.Spelling.{scalar_text, value_text}
use Rattle.ql_value.specs.ValueGrammar.{IsScalar, IsValue, ReadsValue}
use Rattle.ql_value.proofs.ValueLaws.{value_takes}
use Rattle.ql_value.proofs.ValueLimits.{value_fits}
use Rattle.ql_schedule.specs.declared.argument.Argument.{Argument}
use Rattle.ql_schedule.specs.declared.argument.Argument.TheVariants.{Given, TooGreat}
use Rattle.ql_schedule.specs.Arguments.{IsArgument, IsInteger}
use Rattle.ql_schedule.specs.OneLine.{given_read, one_value, scalar_read}

-- a scalar, as a value, has the same text
pub scalar_value_text : (s : Scalar) → value_text (value_of_scalar s) ≡ scalar_text s
scalar_value_text (NumberOf z) = refl
scalar_value_text (TruthOf b) = refl
scalar_value_text (TextOf t) = refl

is_of_scalar : (v : Value) (s : Scalar) → v ≡ value_of_scalar s → IsTrue true ↔ ((x : Scalar) × (v ≡ value_of_scalar x))
is_of_scalar v s is = (λ t. (s, is), λ x. refl)

pub matched : (v : Value) → ((z : ℤ) × (v ≡ Number z)) ⊎ (((b : Bool) × (v ≡ Truth b)) ⊎ ((t : List ℕ) × (v ≡ Text t))) → IsTrue true ↔ ((x : Scalar) × (v ≡ value_of_scalar x))
matched v (inl number) = is_of_scalar v (NumberOf number.0) number.1
matched v (inr (inl truth)) = is_of_scalar v (TruthOf truth.0) truth.1
matched v (inr (inr text)) = is_of_scalar v (TextOf text.0) text.1

-- the limits and the grammar are the same for a value and for its scalar
scalar_fits_of : (s : Scalar) → IsValue (value_of_scalar s) → IsScalar s
scalar_fits_of (NumberOf z) h = h
scalar_fits_of (TruthOf b) h = tt
scalar_fits_of (TextOf t) h = h

scalar_reads_of : (s : Scalar) (part : List ℕ) → ReadsValue (value_of_scalar s) part [] → part ≡ scalar_text s ++ []
scalar_reads_of (NumberOf z) part h = h
scalar_reads_of (TruthOf b) part h = h
scalar_reads_of (TextOf t) part h = h

-- a scalar that is read is spelled
is_given : (part : List ℕ) (s : Scalar) (v : Value) → v ≡ value_of_scalar s → value_at part ≡ Ok (v, []) → IsArgument part (Given v)
is_given part s v is read =
    let fits = subst IsValue is (value_fits part [] v read) in
    let reads = subst (λ w. ReadsValue w part []) is (value_takes part [] v read) in
    (s, is, record { fits = scalar_fits_of s fits; spelled = scalar_reads_of s part reads ∙ append-nil (scalar_text s) })

-- ---- a part that spells another value than a scalar is no argument

unit_stops : is_digit 117 ≡ false
unfolding is_digit
unit_stops = refl

brace_stops : is_digit 123 ≡ false
unfolding is_digit
brace_stops = refl

not_integer : (c : ℕ) (rest : List ℕ) → is_digit c ≡ false → (c ≡ 45 → ⊥) → IsInteger (c ∷ rest) → ⊥
not_integer c rest digit sign (inl h) = let first : is_digit c ≡ true = h.digits 0 0 (omega arith) in cc
not_integer c rest digit sign (inr h) = sign h.0

starts_at : (c : ℕ) (part rest : List ℕ) → part ≡ c ∷ rest → is_digit c ≡ false → (c ≡ 45 → ⊥) → IsInteger part → ⊥
starts_at c part rest e digit sign is = not_integer c rest digit sign (subst IsInteger e is)

braced : (part rest : List ℕ) → part ≡ 123 ∷ rest → IsInteger part → ⊥
braced part rest e is = starts_at 123 part rest e brace_stops (λ same. omega (arith, same)) is

-- a value that an integer spells is a scalar
module _ (part : List ℕ) (is : IsInteger part) where
  scalar_of_integer : (v : Value) → ReadsValue v part [] → (s : Scalar) × (v ≡ value_of_scalar s)
  scalar_of_integer Nothing h = absurd (starts_at 117 part _ h unit_stops (λ same. omega (arith, same)) is)
  scalar_of_integer (Number z) h = (NumberOf z, refl)
  scalar_of_integer (Truth b) h = (TruthOf b, refl)
  scalar_of_integer (Text t) h = (TextOf t, refl)
  scalar_of_integer (Set []) h = absurd (braced part _ h is)
  scalar_of_integer (Set (e ∷ es)) h = absurd (braced part h.start h.brace is)
  scalar_of_integer (Map []) h = absurd (braced part _ h is)
  scalar_of_integer (Map (e ∷ es)) h = absurd (braced part h.start h.brace is)

no_scalar : (part : List ℕ) (v : Value) → value_at part ≡ Ok (v, []) → (((s : Scalar) × (v ≡ value_of_scalar s)) → ⊥) → (a : Argument) → IsArgument part a → ⊥
no_scalar part v read none (Given w) h = none (h.0, one_value part v w read (given_read part w h) ∙ h.1)
no_scalar part v read none TooGreat h = none (scalar_of_integer part h.0 v (value_takes part [] v read))

-- ---- what is read of a part

pub untrue : (b : Bool) → b ≡ true → b ≡ false → ⊥
untrue b holds fails = let both : true ≡ false = sym holds ∙ fails in cc

abbrev IsRead : List ℕ → Option Argument → Type 0
IsRead part r = MatchOption r ((a : Argument) → IsArgument part a → ⊥) (λ a. IsArgument part a)

module _ (part : List ℕ) where
  module _ (v : Value) (read : value_at part ≡ Ok (v, [])) (r : Option Argument) where
    pub given : r ≡ Some (Given v) → ((s : Scalar) × (v ≡ value_of_scalar s)) → IsRead part r
    given is scalar = subst (IsRead part) (sym is) (is_given part scalar.0 v scalar.1 read)

    pub other : r ≡ None → (((s : Scalar) × (v ≡ value_of_scalar s)) → ⊥) → IsRead part r
    other is none = subst (IsRead part) (sym is) (no_scalar part v read none)

  module _ (none : (v : Value) → value_at part ≡ Ok (v, []) → ⊥) (r : Option Argument) where
    pub great : r ≡ Some TooGreat → IsInteger part → IsRead part r
    great is integer = subst (IsRead part) (sym is) (integer, λ s h. none (value_of_scalar s) (scalar_read part s h))

    no_argument : (IsInteger part → ⊥) → (a : Argument) → IsArgument part a → ⊥
    no_argument other_part (Given v) h = none v (given_read part v h)
    no_argument other_part TooGreat h = other_part h.0

    pub neither : r ≡ None → (IsInteger part → ⊥) → IsRead part r
    neither is other_part = subst (IsRead part) (sym is) (no_argument other_part)
