-- a fault in a scalar stays where it is if another text follows whose first byte is the same
use Rattle.std.proofs.Common.{◌≡◌, ℕ, pos, neg_ℤ, Bool, true, false, Option, Some, None, Ok, Err, List, [], ◌∷◌, ◌++◌, length, take, drop, arith, refl, sym, ap, ◌∙◌, nat_lt, cond, eqb, codes, length-append, subst}
use Rattle.std.specs.List.{AllPass, prefix_len}
use Rattle.std.specs.Option.{option_map_or}
use Rattle.std.proofs.Math.Seq.{drop-append_seam}
use Rattle.std.proofs.lemmas.Bool.Decides.{nat_tests}
use Rattle.std.proofs.lemmas.List.{take-append-drop}
use Rattle.ql_base.specs.Bytes.{begins, is_digit, is_text_byte}
use Rattle.ql_base.proofs.Fronts.{front-append, front_passes, front_stopped, front_stops}
use Rattle.ql_value.specs.declared.scalar.Scalar.{Scalar}
use Rattle.ql_value.specs.declared.scalar.Scalar.TheVariants.{Int, Bool as Truth, Text}
use Rattle.ql_value.specs.Reading.{Read, is_byte, negative_at, number_up_to, plain_at, quoted_at, scalar_at, standing_for, word_at, word_end}
use Rattle.ql_value.proofs.ScalarGrammar.{chosen}
use Rattle.ql_text_laws.proofs.Before.{is_inside}
use Rattle.ql_text_laws.proofs.Kept.{Stops}
use Rattle.ql_text_laws.proofs.Scalars.{ScalarStart, WordStart, word_before, word_fault}
use Rattle.ql_text_laws.proofs.Splits.{none_before, same_cut}

-- the two texts are the same as items: a fault at the first byte of one is one of the other, and the same scalar is read
pub record SameItems (post ext : List ℕ) : Type 0 where
  pub fault : scalar_at post ≡ Err (length post) → scalar_at ext ≡ Err (length ext)
  pub read : (e : Scalar) (rest : List ℕ) → scalar_at post ≡ Ok (e, rest) → (rest' : List ℕ) × (scalar_at ext ≡ Ok (e, rest'))

pub true_start : ScalarStart (codes "true")
true_start = record { more = []; scalar = Truth true; fits = tt; spelled = refl }

-- numbers whose digits are a fault are one at the first byte
plain_by : (text : List ℕ) (left : ℕ) (o : Option ℕ) → option_map_or {U = Read Scalar} (λ n. Ok (Int (pos n), drop (prefix_len is_digit text) text)) o (Err (length text)) ≡ Err left → length text ≡ left
plain_by text left None h = cc
plain_by text left (Some n) h = cc

pub plain_first : (text : List ℕ) (left : ℕ) → plain_at text ≡ Err left → length text ≡ left
unfolding plain_at
plain_first text left h = plain_by text left (number_up_to 9223372036854775807 (take (prefix_len is_digit text) text)) h

pub negative_first : (text back : List ℕ) (left : ℕ) (o : Option ℕ) → option_map_or {U = Read Scalar} (λ n. cond {A = Read Scalar} (eqb n 0) (Err (length text)) (Ok (Int (neg_ℤ (pos n)), drop (prefix_len is_digit back) back))) o (Err (length text)) ≡ Err left → length text ≡ left
negative_first text back left None h = cc
negative_first text back left (Some n) h =
    chosen {A = Read Scalar} (length text ≡ left) (eqb n 0) (Err (length text)) (Ok (Int (neg_ℤ (pos n)), drop (prefix_len is_digit back) back)) (Err left) h
    (λ t i. cc)
    (λ f i. cc)

first_fails : (p : ℕ → Bool) (xs : List ℕ) → eqb (prefix_len p xs) 0 ≡ true → begins p xs ≡ false
first_fails p xs e = let none : prefix_len p xs ≡ 0 = grind (arith, nat_tests) in subst (λ k. begins p (drop k xs) ≡ false) none (front_stops p xs)

module _ (b : ℕ) (bs cs : List ℕ) where
  abbrev post : List ℕ
  post = b ∷ bs

  abbrev ext : List ℕ
  ext = b ∷ cs

  pub first_same : (p : ℕ → Bool) (pre : List ℕ) → begins p (pre ++ ext) ≡ begins p (pre ++ post)
  first_same p [] = refl
  first_same p (c ∷ pre) = refl

  pub stops_same : (s : Scalar) (pre : List ℕ) → Stops s (pre ++ post) → Stops s (pre ++ ext)
  stops_same (Int z) pre h = first_same is_digit pre ∙ h
  stops_same (Truth t) pre h = tt
  stops_same (Text t) pre h = tt

  longer : (p : ℕ) (pre : List ℕ) → length (p ∷ (pre ++ post)) ≡ length post → ⊥
  longer p pre e = absurd (omega (arith, e, length-append pre post))

  -- a fault at the first byte of the rest
  pub at_first : (pre : List ℕ) → length (pre ++ post) ≡ length post → length (pre ++ ext) ≡ length ext
  at_first pre e = ap (λ t. length (t ++ ext)) (none_before pre post e)

  pub word_stays : (w pre : List ℕ) → word_end w (pre ++ post) ≡ Err (length post) → word_end w (pre ++ ext) ≡ Err (length ext)
  unfolding word_end
  word_stays [] pre h = cc
  word_stays (w ∷ ws) [] h =
      chosen (word_end (w ∷ ws) ext ≡ Err (length ext)) (eqb b w) (word_end ws bs) (Err (length post)) (Err (length post)) h
      (λ t e. let few = is_inside (WordStart ws) bs (length post) (word_before ws bs (length post) e) in absurd (omega (arith, few)))
      (λ f e. rw f refl)
  word_stays (w ∷ ws) (p ∷ pre) h =
      chosen (word_end (w ∷ ws) (p ∷ (pre ++ ext)) ≡ Err (length ext)) (eqb p w) (word_end ws (pre ++ post)) (Err (length (p ∷ (pre ++ post)))) (Err (length post)) h
      (λ t e. rw t (word_stays ws pre e))
      (λ f e. let len : length (p ∷ (pre ++ post)) ≡ length post = cc in absurd (longer p pre len))

  pub word_at_stays : {X : Type 0} (x : X) (w pre : List ℕ) → word_at x w (pre ++ post) ≡ Err (length post) → word_at x w (pre ++ ext) ≡ Err (length ext)
  word_at_stays x w pre h = ap (standing_for x) (word_stays w pre (word_fault x w (pre ++ post) (length post) h))

  negative_stays : (p : ℕ) (pre : List ℕ) → negative_at (p ∷ (pre ++ post)) (pre ++ post) ≡ Err (length post) → negative_at (p ∷ (pre ++ ext)) (pre ++ ext) ≡ Err (length ext)
  unfolding negative_at
  negative_stays p pre h =
      let back : List ℕ = pre ++ post in
      chosen (negative_at (p ∷ (pre ++ ext)) (pre ++ ext) ≡ Err (length ext)) (eqb (prefix_len is_digit back) 0) (Err (length back)) _ (Err (length post)) h
      (λ t i. let len : length back ≡ length post = cc in
      let stop : begins is_digit (pre ++ ext) ≡ false = first_same is_digit pre ∙ first_fails is_digit back t in
      rw (front_stopped is_digit (pre ++ ext) stop) (ap Err (at_first pre len)))
      (λ f i. absurd (longer p pre (negative_first (p ∷ back) back (length post) (number_up_to 9223372036854775808 (take (prefix_len is_digit back) back)) i)))

  quoted_stays : (p : ℕ) (pre : List ℕ) → quoted_at (p ∷ (pre ++ post)) (pre ++ post) ≡ Err (length post) → quoted_at (p ∷ (pre ++ ext)) (pre ++ ext) ≡ Err (length ext)
  unfolding quoted_at
  quoted_stays p pre h =
      let back : List ℕ = pre ++ post in
      let k = prefix_len is_text_byte back in
      chosen (quoted_at (p ∷ (pre ++ ext)) (pre ++ ext) ≡ Err (length ext)) (nat_lt 64 k) (Err (length (p ∷ back))) _ (Err (length post)) h
      (λ t i. let len : length (p ∷ back) ≡ length post = cc in absurd (longer p pre len))
      (λ f i. chosen {A = Read Scalar} (quoted_at (p ∷ (pre ++ ext)) (pre ++ ext) ≡ Err (length ext)) (begins (is_byte 34) (drop k back)) (Ok (Text (take k back), drop 1 (drop k back))) (Err (length (drop k back))) (Err (length post)) i
      (λ u j. cc)
      (λ u j. let len : length (drop k back) ≡ length post = cc in
      let cut = same_cut pre post (take k back) (drop k back) (sym (take-append-drop k back)) len in
      let passes : AllPass is_text_byte pre = subst (AllPass is_text_byte) (sym cut.0) (front_passes is_text_byte back) in
      let stops : is_text_byte b ≡ false = subst (λ r. begins is_text_byte r ≡ false) cut.1 (front_stops is_text_byte back) in
      let run : k ≡ length pre = front-append is_text_byte pre post passes stops in
      let run' : prefix_len is_text_byte (pre ++ ext) ≡ length pre = front-append is_text_byte pre ext passes stops in
      let short : nat_lt 64 (length pre) ≡ false = ap (nat_lt 64) (sym run) ∙ f in
      let open_still : is_byte 34 b ≡ false = subst (λ r. begins (is_byte 34) r ≡ false) cut.1 u in
      rw (run', short, drop-append_seam pre ext, open_still) refl))

  pub scalar_stays : (pre : List ℕ) → (ScalarStart (pre ++ codes "true") → SameItems post ext) → scalar_at (pre ++ post) ≡ Err (length post) → scalar_at (pre ++ ext) ≡ Err (length ext)
  unfolding scalar_at
  scalar_stays [] items h = (items true_start).fault h
  scalar_stays (p ∷ pre) items h =
      let text : List ℕ = p ∷ (pre ++ post) in
      let Goal : Type 0 = scalar_at (p ∷ (pre ++ ext)) ≡ Err (length ext) in
      chosen Goal (is_byte 116 p) (word_at (Truth true) (codes "true") text) _ (Err (length post)) h
      (λ t i. rw t (word_at_stays (Truth true) (codes "true") (p ∷ pre) i))
      (λ f i. chosen Goal (is_byte 102 p) (word_at (Truth false) (codes "false") text) _ (Err (length post)) i
      (λ t j. rw (f, t) (word_at_stays (Truth false) (codes "false") (p ∷ pre) j))
      (λ g j. chosen Goal (is_byte 34 p) (quoted_at text (pre ++ post)) _ (Err (length post)) j
      (λ t k. rw (f, g, t) (quoted_stays p pre k))
      (λ q k. chosen Goal (is_byte 45 p) (negative_at text (pre ++ post)) _ (Err (length post)) k
      (λ t l. rw (f, g, q, t) (negative_stays p pre l))
      (λ m l. chosen Goal (is_digit p) (plain_at text) (Err (length text)) (Err (length post)) l
      (λ t n. absurd (longer p pre (plain_first text (length post) n)))
      (λ d n. let len : length text ≡ length post = cc in absurd (longer p pre len))))))
