-- Bits in words: what a truth value of the list is, and how setting a bit and uniting words change it.
use Rattle.std.proofs.Common.{◌≡◌, ℕ, zero, suc, ◌+◌, ◌*◌, ◌/◌, ◌%◌, ◌^◌, ◌<◌, ◌≤◌, Bool, true, false, ◌||◌, nat_eq, List, ◌∷◌, length, map, get_or, set, replicate, refl, sym, ap, ◌∙◌, inl, inr, arith, eq-eqb, w64, max, length-set}
use Rattle.std.proofs.lemmas.Bool.{cases_eq, cases_lt, ne_eqb}
use Rattle.std.proofs.lemmas.List.{get_or-set_same, get_or-set_other, get_or_past}
use Rattle.std.proofs.lemmas.List.FromFn.{length-map-range_with_len, get_or-map-range_with_len}
use Rattle.std.proofs.lemmas.Nat.Bits.{bit_at-lt, bit_at-zero, bit_at_or, shr_and_one, bit_at_set_same, bit_at_set_other}
use Rattle.std.specs.Int.{bit_at}
use Rattle.std.specs.List.{range_with_len}
use Rattle.std.specs.Prelude.{bit_and, bit_or}
use Rattle.ql_formula.specs.Bits.{bit, truths, ArePacked}

pub truths-length : (words : List ℕ) (count : ℕ) → length (truths words count) ≡ count
unfolding truths
truths-length words count = length-map-range_with_len (bit words) 0 count

pub truths-get : (words : List ℕ) (count : ℕ) → ArePacked words count → (k : ℕ) → get_or (truths words count) k false ≡ bit words k
unfolding truths
truths-get words count packed k = elim (cases_lt k count) [
  | inl inside ↦ get_or-map-range_with_len (bit words) 0 count k k false inside (omega arith)
  | inr past ↦
      get_or_past (map (bit words) (range_with_len 0 count)) k false (omega (arith, past, length-map-range_with_len (bit words) 0 count)) ∙ sym (packed.1 k past)
]

-- ---- one bit
pub bit_read : (words : List ℕ) (k : ℕ) → nat_eq (bit_and (get_or words (k / 64) 0 / 2 ^ (k % 64)) 1) 1 ≡ bit words k
unfolding bit
bit_read words k = ap (λ (b : ℕ). nat_eq b 1) (shr_and_one (get_or words (k / 64) 0) (k % 64))

pub bit_past : (words : List ℕ) (k : ℕ) → length words ≤ k / 64 → bit words k ≡ false
unfolding bit
bit_past words k past = ap (λ (word : ℕ). nat_eq (bit_at word (k % 64)) 1) (get_or_past words (k / 64) 0 past) ∙ ap (λ (b : ℕ). nat_eq b 1) (bit_at-zero (k % 64))

no_bits : (n k none : ℕ) → get_or (replicate n none) k none ≡ none
no_bits zero k none = refl
no_bits (suc n) zero none = refl
no_bits (suc n) (suc k) none = no_bits n k none

pub none_set : (n k : ℕ) → bit (replicate n 0) k ≡ false
unfolding bit
none_set n k = ap (λ (word : ℕ). nat_eq (bit_at word (k % 64)) 1) (no_bits n (k / 64) 0) ∙ ap (λ (b : ℕ). nat_eq b 1) (bit_at-zero (k % 64))

-- ---- setting a bit
set_same : (words : List ℕ) (k : ℕ) → k / 64 < length words
    → bit (set words (k / 64) (bit_or (get_or words (k / 64) 0) (1 * 2 ^ (k % 64) % 2 ^ 64))) k ≡ true
unfolding bit
set_same words k inside =
    let new : ℕ = bit_or (get_or words (k / 64) 0) (1 * 2 ^ (k % 64) % 2 ^ 64) in
    ap (λ (word : ℕ). nat_eq (bit_at word (k % 64)) 1) (get_or-set_same words (k / 64) new 0 inside)
    ∙ ap (λ (b : ℕ). nat_eq b 1) (bit_at_set_same w64 (get_or words (k / 64) 0) (k % 64) (omega arith))

set_other : (words : List ℕ) (k j : ℕ) → k / 64 < length words → (j ≡ k → ⊥)
    → bit (set words (k / 64) (bit_or (get_or words (k / 64) 0) (1 * 2 ^ (k % 64) % 2 ^ 64))) j ≡ bit words j
unfolding bit
set_other words k j inside other =
    let new : ℕ = bit_or (get_or words (k / 64) 0) (1 * 2 ^ (k % 64) % 2 ^ 64) in
    elim (cases_eq (j / 64) (k / 64)) [
      | inl same ↦
          let read : get_or (set words (k / 64) new) (j / 64) 0 ≡ new = ap (λ (n : ℕ). get_or (set words (k / 64) new) n 0) same ∙ get_or-set_same words (k / 64) new 0 inside in
          ap (λ (word : ℕ). nat_eq (bit_at word (j % 64)) 1) read
          ∙ ap (λ (b : ℕ). nat_eq b 1) (bit_at_set_other w64 (get_or words (k / 64) 0) (k % 64) (omega arith) (j % 64) (λ is. other (omega (arith, is, same))))
          ∙ ap (λ (n : ℕ). nat_eq (bit_at (get_or words n 0) (j % 64)) 1) (sym same)
      | inr apart ↦ ap (λ (word : ℕ). nat_eq (bit_at word (j % 64)) 1) (get_or-set_other words (k / 64) (j / 64) new 0 apart)
    ]

pub bit_set : (words : List ℕ) (k j : ℕ) → k / 64 < length words
    → bit (set words (k / 64) (bit_or (get_or words (k / 64) 0) (1 * 2 ^ (k % 64) % 2 ^ 64))) j ≡ (bit words j || nat_eq j k)
bit_set words k j inside =
    let new : List ℕ = set words (k / 64) (bit_or (get_or words (k / 64) 0) (1 * 2 ^ (k % 64) % 2 ^ 64)) in
    elim (cases_eq j k) [
      | inl same ↦ ap (bit new) same ∙ set_same words k inside ∙ sym (or_true (bit words j) (nat_eq j k) (eq-eqb j k same))
      | inr other ↦ set_other words k j inside other ∙ sym (or_false (bit words j) (nat_eq j k) (ne_eqb j k other))
    ]
  where
    or_true : (a b : Bool) → b ≡ true → (a || b) ≡ true
    or_true true b is = refl
    or_true false b is = is

    or_false : (a b : Bool) → b ≡ false → (a || b) ≡ a
    or_false true b is = refl
    or_false false b is = is

-- ---- uniting words
either_bit : (a b : ℕ) → a < 2 → b < 2 → nat_eq (max a b) 1 ≡ (nat_eq a 1 || nat_eq b 1)
either_bit zero zero a_bit b_bit = refl
either_bit zero (suc zero) a_bit b_bit = refl
either_bit (suc zero) zero a_bit b_bit = refl
either_bit (suc zero) (suc zero) a_bit b_bit = refl
either_bit (suc (suc a)) b a_bit b_bit = absurd (omega (arith, a_bit))
either_bit a (suc (suc b)) a_bit b_bit = absurd (omega (arith, b_bit))

pub bit_united : (old new others : List ℕ) → ((k : ℕ) → get_or new k 0 ≡ bit_or (get_or old k 0) (get_or others k 0)) → (k : ℕ) → bit new k ≡ (bit old k || bit others k)
unfolding bit
bit_united old new others united k =
    let a : ℕ = get_or old (k / 64) 0 in
    let b : ℕ = get_or others (k / 64) 0 in
    ap (λ (word : ℕ). nat_eq (bit_at word (k % 64)) 1) (united (k / 64))
    ∙ ap (λ (n : ℕ). nat_eq n 1) (bit_at_or a b (k % 64)) ∙ either_bit (bit_at a (k % 64)) (bit_at b (k % 64)) (bit_at-lt a (k % 64)) (bit_at-lt b (k % 64))

-- ---- no bit at all
pub none_truths : (words : List ℕ) (count : ℕ) → ((k : ℕ) → bit words k ≡ false) → truths words count ≡ replicate count false
unfolding truths
none_truths words count none = from 0 count
  where
    from : (a n : ℕ) → map (bit words) (range_with_len a n) ≡ replicate n false
    from a zero = refl
    from a (suc n) = rw (none a) (ap (λ (l : List Bool). false ∷ l) (from (a + 1) n))

-- ---- what is packed stays so
no_more : (a b : Bool) → a ≡ false → b ≡ false → (a || b) ≡ false
no_more true b a_is b_is = a_is
no_more false b a_is b_is = b_is

pub set_packed : (words new : List ℕ) (count k : ℕ) → ArePacked words count → k < count
    → new ≡ set words (k / 64) (bit_or (get_or words (k / 64) 0) (1 * 2 ^ (k % 64) % 2 ^ 64))
    → ArePacked new count × ((j : ℕ) → bit new j ≡ (bit words j || nat_eq j k))
set_packed words new count k packed within is =
    let long = packed.0 in
    let word : ℕ = bit_or (get_or words (k / 64) 0) (1 * 2 ^ (k % 64) % 2 ^ 64) in
    let inside : k / 64 < length words = omega (arith, within, long) in
    let bits : (j : ℕ) → bit new j ≡ (bit words j || nat_eq j k) = λ j. ap (λ (l : List ℕ). bit l j) is ∙ bit_set words k j inside in (
      (
        ap length is ∙ length-set words (k / 64) word ∙ long,
        λ j past. bits j ∙ no_more (bit words j) (nat_eq j k) (packed.1 j past) (ne_eqb j k (λ same. omega (arith, within, past, same))),
      ),
      bits,
    )

pub unite_packed : (words new others : List ℕ) (count least : ℕ) → ArePacked words count → ArePacked others least → least ≤ count
    → length new ≡ length words → ((k : ℕ) → get_or new k 0 ≡ bit_or (get_or words k 0) (get_or others k 0))
    → ArePacked new count × ((j : ℕ) → bit new j ≡ (bit words j || bit others j))
unite_packed words new others count least packed others_packed less same united =
    let bits : (j : ℕ) → bit new j ≡ (bit words j || bit others j) = bit_united words new others united in (
      (
        same ∙ packed.0,
        λ j past. bits j ∙ no_more (bit words j) (bit others j) (packed.1 j past) (others_packed.1 j (omega (arith, past, less))),
      ),
      bits,
    )
