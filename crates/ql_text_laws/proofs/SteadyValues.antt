-- a fault in a set or a map, or in a value, stays where it is if such another text follows
use Rattle.std.proofs.Common.{◌≡◌, ◌≤◌, ℕ, suc, true, false, Ok, Err, List, [], ◌∷◌, ◌++◌, length, drop, arith, refl, sym, ap, ◌∙◌, cond, codes, length-append, subst}
use Rattle.ql_base.specs.Bytes.{begins}
use Rattle.ql_value.specs.declared.scalar.Scalar.{Scalar}
use Rattle.ql_value.specs.declared.value.Value.{Value}
use Rattle.ql_value.specs.declared.value.Value.TheVariants.{Unit as Nothing, Set, Map}
use Rattle.ql_value.specs.Contents.{value_of_scalar}
use Rattle.ql_value.specs.Order.{key_cmp, scalar_cmp}
use Rattle.ql_value.specs.Spelling.{scalar_text}
use Rattle.ql_value.specs.Reading.{Read, behind_item, collection_at, elements_at, entries_at, entry_value_at, is_byte, on_read, scalar_at, value_at, word_at}
use Rattle.ql_value.specs.ValueGrammar.{IsEntry, IsScalar, spaces}
use Rattle.ql_value.proofs.ScalarGrammar.{begins_with, chosen, scalar_takes}
use Rattle.ql_value.proofs.ScalarOrder.{keys_total, scalars_total}
use Rattle.ql_value.proofs.ValueLimits.{scalar_fits}
use Rattle.ql_text_laws.proofs.Before.{is_inside}
use Rattle.ql_text_laws.proofs.Items.{fault_after, grows}
use Rattle.ql_text_laws.proofs.Collections.{InnerStart, MapSoFar, SetSoFar, ValueBehind, ValueStart, collection_before, last_element, map_start, no_elements, no_entries, scalar_start, set_start, value_behind}
use Rattle.ql_text_laws.proofs.Splits.{split}
use Rattle.ql_text_laws.proofs.Stays.{first_same, scalar_stays, word_at_stays}
use Rattle.ql_text_laws.proofs.Steady.{Items, behind_inside, elements_inside, elements_stays, entries_inside, entries_stays, entry_value_inside, read_on}

-- a fault in a set or a map isn't in its first scalar
first_element : (room : ℕ) (text rest : List ℕ) (e : Scalar) (left : ℕ) → suc room ≡ 256 → scalar_at text ≡ Ok (e, rest) → elements_at (suc room) [] text ≡ Err left → left ≤ length rest
unfolding elements_at
first_element room text rest e left all read h =
    let after : behind_item (Set (e ∷ [])) (elements_at room (e ∷ [])) rest ≡ Err left = rw read at h in
    let grown = grows scalar_cmp scalars_total IsScalar room [] e (subst (λ n. SetSoFar n []) (sym all) no_elements) refl (scalar_fits text rest e read) in
    behind_inside (Set (e ∷ [])) (elements_at room (e ∷ [])) rest left after (λ t k. elements_inside room (e ∷ []) t left grown k)

shorter : (text rest : List ℕ) (v : Scalar) → ValueBehind v text rest → length rest ≤ length text
shorter text rest v value =
    let same : length text ≡ length (58 ∷ (spaces value.gap ++ (scalar_text v ++ rest))) = ap length value.is in
    omega (arith, same, length-append (spaces value.gap) (scalar_text v ++ rest), length-append (scalar_text v) rest)

first_entry : (room : ℕ) (text rest : List ℕ) (k : Scalar) (left : ℕ) → suc room ≡ 256 → scalar_at text ≡ Ok (k, rest) → entries_at (suc room) [] text ≡ Err left → left ≤ length rest
unfolding entries_at
first_entry room text rest k left all key h =
    let after : on_read (entry_value_at rest) (λ w follow. behind_item (Map ((k, w) ∷ [])) (entries_at room ((k, w) ∷ [])) follow) ≡ Err left = rw key at h in
    fault_after (left ≤ length rest) (entry_value_at rest) (λ w follow. behind_item (Map ((k, w) ∷ [])) (entries_at room ((k, w) ∷ [])) follow) left after
    (λ fault. entry_value_inside rest left fault)
    (λ v follow read i. let value = value_behind rest follow v read in
    let grown = grows key_cmp keys_total IsEntry room [] (k, v) (subst (λ n. MapSoFar n []) (sym all) no_entries) refl (scalar_fits text rest k key, value.fits) in
    let few = behind_inside (Map ((k, v) ∷ [])) (entries_at room ((k, v) ∷ [])) follow left i (λ t n. entries_inside room ((k, v) ∷ []) t left grown n) in
    omega (arith, few, shorter rest follow v value))

module _ (b : ℕ) (bs cs : List ℕ) where
  abbrev post : List ℕ
  post = b ∷ bs

  abbrev ext : List ℕ
  ext = b ∷ cs

  collection_stays : (pre : List ℕ) → Items b bs cs InnerStart pre → collection_at 256 (pre ++ post) ≡ Err (length post) → collection_at 256 (pre ++ ext) ≡ Err (length ext)
  unfolding collection_at
  collection_stays pre items h =
      let text : List ℕ = pre ++ post in
      let Goal : Type 0 = collection_at 256 (pre ++ ext) ≡ Err (length ext) in
      chosen {A = Read Value} Goal (begins (is_byte 125) text) (Ok (Set [], drop 1 text)) _ (Err (length post)) h
      (λ t i. cc)
      (λ f i. let brace : begins (is_byte 125) (pre ++ ext) ≡ false = first_same b bs cs (is_byte 125) pre ∙ f in
      chosen {A = Read Value} Goal (begins (is_byte 58) text) (word_at (Map []) (codes ":}") text) _ (Err (length post)) i
      (λ c j. let colon : begins (is_byte 58) (pre ++ ext) ≡ true = first_same b bs cs (is_byte 58) pre ∙ c in
      rw (brace, colon) (word_at_stays b bs cs (Map []) (codes ":}") pre j))
      (λ c j. let colon : begins (is_byte 58) (pre ++ ext) ≡ false = first_same b bs cs (is_byte 58) pre ∙ c in
      fault_after Goal (scalar_at text) (λ first rest. cond (begins (is_byte 58) rest) (entries_at 256 [] text) (elements_at 256 [] text)) (length post) j
      (λ fault. let kept = scalar_stays b bs cs pre (λ start. items (set_start (pre ++ codes "true") (last_element 256 [] no_elements (pre ++ codes "true") start))) fault in rw (brace, colon, kept) refl)
      (λ first rest read k. chosen {A = Read Value} Goal (begins (is_byte 58) rest) (entries_at 256 [] text) (elements_at 256 [] text) (Err (length post)) k
      (λ m l. let s = split pre post (scalar_text first) rest (scalar_takes text rest first read) (first_entry 255 text rest first (length post) refl read l) in
      let second : begins (is_byte 58) (s.mid ++ ext) ≡ true = first_same b bs cs (is_byte 58) s.mid ∙ ap (begins (is_byte 58)) (sym s.right) ∙ m in
      rw (brace, colon, read_on b bs cs first pre s.mid rest read s.left s.right, second) (entries_stays b bs cs 256 [] pre no_entries (λ start. items (map_start (pre ++ codes "true") start)) l))
      (λ m l. let s = split pre post (scalar_text first) rest (scalar_takes text rest first read) (first_element 255 text rest first (length post) refl read l) in
      let second : begins (is_byte 58) (s.mid ++ ext) ≡ false = first_same b bs cs (is_byte 58) s.mid ∙ ap (begins (is_byte 58)) (sym s.right) ∙ m in
      rw (brace, colon, read_on b bs cs first pre s.mid rest read s.left s.right, second) (elements_stays b bs cs 256 [] pre no_elements (λ start. items (set_start (pre ++ codes "true") start)) l)))))

  pub value_stays : (pre : List ℕ) → Items b bs cs ValueStart pre → value_at (pre ++ post) ≡ Err (length post) → value_at (pre ++ ext) ≡ Err (length ext)
  unfolding value_at
  value_stays pre items h =
      let text : List ℕ = pre ++ post in
      let Goal : Type 0 = value_at (pre ++ ext) ≡ Err (length ext) in
      chosen {A = Read Value} Goal (begins (is_byte 117) text) (word_at Nothing (codes "unit") text) _ (Err (length post)) h
      (λ t i. let unit : begins (is_byte 117) (pre ++ ext) ≡ true = first_same b bs cs (is_byte 117) pre ∙ t in
      rw unit (word_at_stays b bs cs Nothing (codes "unit") pre i))
      (λ f i. let unit : begins (is_byte 117) (pre ++ ext) ≡ false = first_same b bs cs (is_byte 117) pre ∙ f in
      chosen {A = Read Value} Goal (begins (is_byte 123) text) (collection_at 256 (drop 1 text)) _ (Err (length post)) i
      (λ c j. let brace : begins (is_byte 123) (pre ++ ext) ≡ true = first_same b bs cs (is_byte 123) pre ∙ c in
      let few = is_inside InnerStart (drop 1 text) (length post) (collection_before (drop 1 text) (length post) j) in
      let s = split pre post (123 ∷ []) (drop 1 text) (begins_with 123 text c) few in
      let whole : 123 ∷ (s.mid ++ codes "true") ≡ pre ++ codes "true" = ap (λ t. t ++ codes "true") (sym s.left) in
      let kept = collection_stays s.mid (λ start. items (subst ValueStart whole start)) (ap (collection_at 256) (sym s.right) ∙ j) in
      let rest : drop 1 (pre ++ ext) ≡ s.mid ++ ext = ap (λ t. drop 1 (t ++ ext)) s.left in
      rw (unit, brace, rest) kept)
      (λ c j. let brace : begins (is_byte 123) (pre ++ ext) ≡ false = first_same b bs cs (is_byte 123) pre ∙ c in
      fault_after Goal (scalar_at text) (λ s rest. Ok (value_of_scalar s, rest)) (length post) j
      (λ fault. let kept = scalar_stays b bs cs pre (λ start. items (scalar_start (pre ++ codes "true") start)) fault in rw (unit, brace, kept) refl)
      (λ s rest read k. cc)))
