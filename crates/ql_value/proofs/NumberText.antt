-- what a run of digits spells
use Rattle.std.proofs.Common.{◌≡◌, ◌≢◌, ◌≤◌, ◌<◌, ◌+◌, ◌-◌, ◌^◌, ℕ, Bool, true, false, Some, None, Ok, Err, List, length, take, drop, drop-drop, length-drop, arith, refl, sym, ap, ◌∙◌, decimal, bytes_eq, nat_le, ◌&&◌, pos, neg_ℤ, eqb}
use Rattle.std.specs.List.{prefix_len}
use Rattle.std.specs.Str.Parse.{digits_value}
use Rattle.std.proofs.lemmas.Fmt.{decimal_is_IsNumeral}
use Rattle.std.proofs.lemmas.Slice.Eq.{bytes_eq-Decides}
use Rattle.std.proofs.lemmas.Bool.Decides.{nat_tests}
use Rattle.ql_base.specs.Bytes.{is_digit}
use Rattle.ql_base.specs.Numbers.{Spells}
use Rattle.ql_value.specs.declared.scalar.Scalar.TheVariants.{Int}
use Rattle.ql_value.specs.Reading.{number_up_to, plain_at, negative_at}

-- the number that is told is the one that is read
pub some_number : (most : ℕ) (ds : List ℕ) (n : ℕ) → most < 2 ^ 64 → Spells most n ds → number_up_to most ds ≡ Some n
unfolding number_up_to
some_number most ds n small s =
    let value : digits_value 10 ds ≡ n = ap (digits_value 10) (sym s.spelled) ∙ (decimal_is_IsNumeral n (omega (arith, s.bounded))).1 in
    let same : bytes_eq (decimal n) ds ≡ true = (bytes_eq-Decides (decimal n) ds).1 s.spelled in
    let fits : nat_le n most ≡ true = let h = s.bounded in grind (arith, nat_tests) in
    rw (value, same, fits) refl

both : (a b : Bool) → (a && b) ≡ true → (a ≡ true) × (b ≡ true)
both true true e = (refl, refl)
both true false e = cc
both false b e = cc

no_number_by : (most : ℕ) (ds : List ℕ) (b : Bool) → (bytes_eq (decimal (digits_value 10 ds)) ds && nat_le (digits_value 10 ds) most) ≡ b → ((n : ℕ) → ¬ Spells most n ds) → number_up_to most ds ≡ None
unfolding number_up_to
no_number_by most ds false e none = rw e refl
no_number_by most ds true e none =
    let h = both (bytes_eq (decimal (digits_value 10 ds)) ds) (nat_le (digits_value 10 ds) most) e in
    let fits : digits_value 10 ds ≤ most = let t = h.1 in grind (arith, nat_tests) in
    absurd (none (digits_value 10 ds) (record { bounded = fits; spelled = (bytes_eq-Decides (decimal (digits_value 10 ds)) ds).0 h.0 }))

pub no_number : (most : ℕ) (ds : List ℕ) → ((n : ℕ) → ¬ Spells most n ds) → number_up_to most ds ≡ None
no_number most ds none = no_number_by most ds _ refl none

module _ (bytes : List ℕ) (at to : ℕ) (to_is : to ≡ at + prefix_len is_digit (drop at bytes)) where
  run : to - at ≡ prefix_len is_digit (drop at bytes)
  run = omega arith

  behind : drop (prefix_len is_digit (drop at bytes)) (drop at bytes) ≡ drop to bytes
  behind = rw (drop-drop, to_is) refl

  pub plain_some : (n : ℕ) → Spells 9223372036854775807 n (take (to - at) (drop at bytes)) → plain_at (drop at bytes) ≡ Ok (Int (pos n), drop to bytes)
  unfolding plain_at
  plain_some n s = rw (some_number 9223372036854775807 (take (prefix_len is_digit (drop at bytes)) (drop at bytes)) n (omega arith) (rw run at s), behind) refl

  pub plain_none : ((n : ℕ) → ¬ Spells 9223372036854775807 n (take (to - at) (drop at bytes))) → plain_at (drop at bytes) ≡ Err (length bytes - at)
  unfolding plain_at
  plain_none none = rw (no_number 9223372036854775807 (take (prefix_len is_digit (drop at bytes)) (drop at bytes)) (rw run at none)) (ap Err (length-drop at bytes))

-- behind a sign at `at`
module _ (bytes : List ℕ) (at to : ℕ) (to_is : to ≡ at + 1 + prefix_len is_digit (drop (at + 1) bytes)) where
  run_behind : to - (at + 1) ≡ prefix_len is_digit (drop (at + 1) bytes)
  run_behind = omega arith

  behind_run : drop (prefix_len is_digit (drop (at + 1) bytes)) (drop (at + 1) bytes) ≡ drop to bytes
  behind_run = rw (drop-drop, to_is) refl

  tail : drop 1 (drop at bytes) ≡ drop (at + 1) bytes
  tail = drop-drop 1 at bytes

  pub no_digit : to ≡ at + 1 → negative_at (drop at bytes) (drop 1 (drop at bytes)) ≡ Err (length bytes - (at + 1))
  unfolding negative_at
  no_digit e =
      let z : prefix_len is_digit (drop (at + 1) bytes) ≡ 0 = omega arith in
      rw (tail, z) (ap Err (length-drop (at + 1) bytes))

  some_digit : to ≢ at + 1 → eqb (prefix_len is_digit (drop (at + 1) bytes)) 0 ≡ false
  some_digit e = let z : prefix_len is_digit (drop (at + 1) bytes) ≢ 0 = omega arith in grind (arith, nat_tests)

  pub negative_some : to ≢ at + 1 → (n : ℕ) → n ≢ 0 → Spells 9223372036854775808 n (take (to - (at + 1)) (drop (at + 1) bytes)) → negative_at (drop at bytes) (drop 1 (drop at bytes)) ≡ Ok (Int (neg_ℤ (pos n)), drop to bytes)
  unfolding negative_at
  negative_some e n more s =
      let nz : eqb n 0 ≡ false = grind (arith, nat_tests) in
      rw (tail, some_digit e, some_number 9223372036854775808 (take (prefix_len is_digit (drop (at + 1) bytes)) (drop (at + 1) bytes)) n (omega arith) (rw run_behind at s), nz, behind_run) refl

  pub negative_zero : to ≢ at + 1 → Spells 9223372036854775808 0 (take (to - (at + 1)) (drop (at + 1) bytes)) → negative_at (drop at bytes) (drop 1 (drop at bytes)) ≡ Err (length bytes - at)
  unfolding negative_at
  negative_zero e s =
      rw (tail, some_digit e, some_number 9223372036854775808 (take (prefix_len is_digit (drop (at + 1) bytes)) (drop (at + 1) bytes)) 0 (omega arith) (rw run_behind at s)) (ap Err (length-drop at bytes))

  pub negative_none : to ≢ at + 1 → ((n : ℕ) → ¬ Spells 9223372036854775808 n (take (to - (at + 1)) (drop (at + 1) bytes))) → negative_at (drop at bytes) (drop 1 (drop at bytes)) ≡ Err (length bytes - at)
  unfolding negative_at
  negative_none e none =
      rw (tail, some_digit e, no_number 9223372036854775808 (take (prefix_len is_digit (drop (at + 1) bytes)) (drop (at + 1) bytes)) (rw run_behind at none)) (ap Err (length-drop at bytes))
