-- texts that are the same as items: both begin with a byte that no item starts with, or one is cut behind its item
use Rattle.std.proofs.Common.{◌≡◌, ◌<◌, ℕ, suc, pos, neg_ℤ, Bool, true, false, Option, Some, None, Ok, Err, List, [], ◌∷◌, ◌++◌, length, take, drop, arith, refl, sym, ap, ◌∙◌, nat_lt, cond, eqb, codes, append_assoc, length-drop, length-take}
use Rattle.std.specs.List.{prefix_len}
use Rattle.std.specs.Option.{option_map_or}
use Rattle.std.proofs.lemmas.Bool.Decides.{nat_tests}
use Rattle.std.proofs.lemmas.List.Sums.{prefix_len-le-length}
use Rattle.ql_base.specs.Bytes.{begins, is_digit, is_text_byte}
use Rattle.ql_base.proofs.Fronts.{front_next}
use Rattle.ql_value.specs.declared.scalar.Scalar.{Scalar}
use Rattle.ql_value.specs.declared.scalar.Scalar.TheVariants.{Int, Bool as Truth, Text}
use Rattle.ql_value.specs.Spelling.{scalar_text}
use Rattle.ql_value.specs.Reading.{Read, is_byte, negative_at, number_up_to, plain_at, quoted_at, scalar_at, word_at}
use Rattle.ql_value.proofs.ScalarGrammar.{chosen, scalar_takes}
use Rattle.ql_value.proofs.ValueLimits.{scalar_fits}
use Rattle.ql_text_laws.specs.ValuePrefixes.{item_length, starts_item, starts_number}
use Rattle.ql_text_laws.proofs.ItemLengths.{digit_only, digit_starts, digits_kept, front_least, item_taken, number_length, part_passes, quote_length, sign_letter, sign_starts, stops_number}
use Rattle.ql_text_laws.proofs.Kept.{again, scalar_stops}
use Rattle.ql_text_laws.proofs.Stays.{SameItems, word_at_stays}

-- ---- a byte that no item starts with

not_byte : (b c : ℕ) → starts_item c ≡ true → starts_item b ≡ false → eqb b c ≡ false
not_byte b c h i = by_test (eqb b c) refl where
  by_test : (t : Bool) → eqb b c ≡ t → t ≡ false
  by_test false e = refl
  by_test true e = let same : b ≡ c = grind (arith, nat_tests) in let d : starts_item c ≡ false = rw (← same) i in cc

not_digit : (b : ℕ) → starts_item b ≡ false → is_digit b ≡ false
unfolding starts_item
not_digit b i = by_test (is_digit b) refl where
  by_test : (t : Bool) → is_digit b ≡ t → t ≡ false
  by_test false e = refl
  by_test true e = let d = rw e at i in cc

starters : (starts_item 116 ≡ true) × (starts_item 102 ≡ true) × (starts_item 34 ≡ true) × (starts_item 45 ≡ true)
unfolding starts_item is_digit
starters = (refl, refl, refl, refl)

no_scalar : (b : ℕ) (bs : List ℕ) → starts_item b ≡ false → scalar_at (b ∷ bs) ≡ Err (length (b ∷ bs))
unfolding scalar_at
no_scalar b bs other =
    let t = not_byte b 116 starters.0 other in
    let f = not_byte b 102 starters.1 other in
    let quote = not_byte b 34 starters.2 other in
    let sign = not_byte b 45 starters.3 other in
    rw (t, f, quote, sign, not_digit b other) refl

pub byte_same : (b : ℕ) (bs cs : List ℕ) → starts_item b ≡ false → SameItems (b ∷ bs) (b ∷ cs)
byte_same b bs cs other = record {
  fault = λ h. no_scalar b cs other;
  read = λ e rest h. let both : ◌≡◌ {A = Read Scalar} (Err (length (b ∷ bs))) (Ok (e, rest)) = sym (no_scalar b bs other) ∙ h in absurd cc;
}

-- ---- an item, and what follows it no digit

plain_by : (text : List ℕ) (left : ℕ) (o : Option ℕ) → option_map_or {U = Read Scalar} (λ n. Ok (Int (pos n), drop (prefix_len is_digit text) text)) o (Err (length text)) ≡ Err left → o ≡ None
plain_by text left None h = refl
plain_by text left (Some n) h = cc

plain_none : (text : List ℕ) (left : ℕ) → plain_at text ≡ Err left → number_up_to 9223372036854775807 (take (prefix_len is_digit text) text) ≡ None
unfolding plain_at
plain_none text left h = plain_by text left (number_up_to 9223372036854775807 (take (prefix_len is_digit text) text)) h

negative_same : (text back text' back' : List ℕ) (k left : ℕ) (o : Option ℕ) → option_map_or {U = Read Scalar} (λ n. cond {A = Read Scalar} (eqb n 0) (Err (length text)) (Ok (Int (neg_ℤ (pos n)), drop k back))) o (Err (length text)) ≡ Err left
    → option_map_or {U = Read Scalar} (λ n. cond {A = Read Scalar} (eqb n 0) (Err (length text')) (Ok (Int (neg_ℤ (pos n)), drop k back'))) o (Err (length text')) ≡ Err (length text')
negative_same text back text' back' k left None h = refl
negative_same text back text' back' k left (Some n) h =
    chosen {A = Read Scalar} (cond {A = Read Scalar} (eqb n 0) (Err (length text')) (Ok (Int (neg_ℤ (pos n)), drop k back')) ≡ Err (length text')) (eqb n 0) (Err (length text)) (Ok (Int (neg_ℤ (pos n)), drop k back)) (Err left) h
    (λ t i. rw t refl)
    (λ f i. cc)

module _ (b : ℕ) (bs cs more : List ℕ) (stop : starts_number b ≡ true → begins is_digit more ≡ false) (is : b ∷ cs ≡ take (item_length (b ∷ bs)) (b ∷ bs) ++ more) where
  abbrev post : List ℕ
  post = b ∷ bs

  abbrev ext : List ℕ
  ext = b ∷ cs

  tail_is : (n : ℕ) → item_length post ≡ suc n → cs ≡ take n bs ++ more
  tail_is n len = ap (λ t. drop 1 t) (is ∙ ap (λ k. take k post ++ more) len)

  plain_fault : is_digit b ≡ true → plain_at post ≡ Err (length post) → plain_at ext ≡ Err (length ext)
  unfolding plain_at
  plain_fault d h =
      let only = digit_only b d in
      let run : item_length post ≡ prefix_len is_digit post = number_length b bs only.0 only.1 ∙ sym (front_next is_digit b bs d) in
      let kept = digits_kept post ext more (stop (digit_starts b d)) (is ∙ ap (λ k. take k post ++ more) run) in
      let none = plain_none post (length post) h in
      rw (kept.0, kept.1, none) refl

  negative_fault : eqb b 45 ≡ true → negative_at post bs ≡ Err (length post) → negative_at ext cs ≡ Err (length ext)
  unfolding negative_at
  negative_fault sign h =
      let k = prefix_len is_digit bs in
      let same : b ≡ 45 = grind (arith, nat_tests) in
      let len : item_length post ≡ suc k = number_length b bs (rw same refl) (rw same sign_letter) in
      let kept = digits_kept bs cs more (stop (sign_starts b same)) (tail_is k len) in
      chosen {A = Read Scalar} (negative_at ext cs ≡ Err (length ext)) (eqb k 0) (Err (length bs)) _ (Err (length post)) h
      (λ t i. let short : length bs ≡ suc (length bs) = cc in absurd (omega (arith, short)))
      (λ f i. rw (kept.0, f, kept.1) (negative_same post bs ext cs k (length post) (number_up_to 9223372036854775808 (take k bs)) i))

  quoted_fault : eqb b 34 ≡ true → quoted_at post bs ≡ Err (length post) → quoted_at ext cs ≡ Err (length ext)
  unfolding quoted_at
  quoted_fault quote h =
      let k = prefix_len is_text_byte bs in
      let same : b ≡ 34 = grind (arith, nat_tests) in
      chosen {A = Read Scalar} (quoted_at ext cs ≡ Err (length ext)) (nat_lt 64 k) (Err (length post)) _ (Err (length post)) h
      (λ t i. let long : 64 < k = grind (arith, nat_tests) in
      let len : item_length post ≡ suc 65 = ap (λ c. item_length (c ∷ bs)) same ∙ quote_length bs ∙ omega (arith, long) in
      let least = front_least is_text_byte (take 65 bs) more (part_passes is_text_byte 65 bs (omega (arith, long))) in
      let run : prefix_len is_text_byte cs ≡ prefix_len is_text_byte (take 65 bs ++ more) = ap (prefix_len is_text_byte) (tail_is 65 len) in
      let many : 64 < prefix_len is_text_byte cs = omega (arith, long, least, run, length-take 65 bs, prefix_len-le-length is_text_byte bs) in
      let still : nat_lt 64 (prefix_len is_text_byte cs) ≡ true = grind (arith, nat_tests) in
      rw still refl)
      (λ f i. chosen {A = Read Scalar} (quoted_at ext cs ≡ Err (length ext)) (begins (is_byte 34) (drop k bs)) (Ok (Text (take k bs), drop 1 (drop k bs))) (Err (length (drop k bs))) (Err (length post)) i
      (λ u j. cc)
      (λ u j. let short : length (drop k bs) ≡ suc (length bs) = cc in absurd (omega (arith, short, length-drop k bs))))

  scalar_fault : scalar_at post ≡ Err (length post) → scalar_at ext ≡ Err (length ext)
  unfolding scalar_at
  scalar_fault h =
      let Goal : Type 0 = scalar_at ext ≡ Err (length ext) in
      chosen {A = Read Scalar} Goal (is_byte 116 b) (word_at (Truth true) (codes "true") post) _ (Err (length post)) h
      (λ t i. rw t (word_at_stays b bs cs (Truth true) (codes "true") [] i))
      (λ f i. chosen {A = Read Scalar} Goal (is_byte 102 b) (word_at (Truth false) (codes "false") post) _ (Err (length post)) i
      (λ t j. rw (f, t) (word_at_stays b bs cs (Truth false) (codes "false") [] j))
      (λ g j. chosen {A = Read Scalar} Goal (is_byte 34 b) (quoted_at post bs) _ (Err (length post)) j
      (λ t k. rw (f, g, t) (quoted_fault t k))
      (λ q k. chosen {A = Read Scalar} Goal (is_byte 45 b) (negative_at post bs) _ (Err (length post)) k
      (λ t l. rw (f, g, q, t) (negative_fault t l))
      (λ m l. chosen {A = Read Scalar} Goal (is_digit b) (plain_at post) (Err (length post)) (Err (length post)) l
      (λ t n. rw (f, g, q, m, t) (plain_fault t n))
      (λ d n. rw (f, g, q, m, d) refl)))))

  scalar_read : (e : Scalar) (rest : List ℕ) → scalar_at post ≡ Ok (e, rest) → (rest' : List ℕ) × (scalar_at ext ≡ Ok (e, rest'))
  scalar_read e rest h =
      let fits = scalar_fits post rest e h in
      let spelled : post ≡ scalar_text e ++ rest = scalar_takes post rest e h in
      let taken = item_taken e rest more fits (scalar_stops post rest e h) (stops_number e rest bs more b fits spelled stop) in
      let front : take (item_length post) post ≡ scalar_text e ++ taken.over = ap (λ t. take (item_length t) t) spelled ∙ taken.is in
      let whole : ext ≡ scalar_text e ++ (taken.over ++ more) = is ∙ ap (λ t. t ++ more) front ∙ append_assoc (scalar_text e) taken.over more in
      (taken.over ++ more, ap scalar_at whole ∙ again e (taken.over ++ more) fits taken.stops)

  pub item_same : SameItems post ext
  item_same = record { fault = scalar_fault; read = scalar_read }
