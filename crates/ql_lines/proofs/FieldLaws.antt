-- the first field of a line, and the fields after it
use Rattle.std.proofs.Common.{◌≡◌, ◌<◌, ◌+◌, ℕ, Bool, true, false, cond, List, [], ◌∷◌, ◌++◌, length, take, drop, replicate, get_or, inl, inr, arith, refl, ap, sym, subst, ◌∙◌, one-add, append_assoc, length-take}
use Rattle.std.specs.Prelude.{not}
use Rattle.std.specs.List.{after_first, before_first, filter, position_or_len, prefix_len, slice_split}
use Rattle.std.proofs.Math.ListN.{drop_of_length-le}
use Rattle.std.proofs.Math.Nat.{eq-or-lt_of_le}
use Rattle.std.proofs.lemmas.List.{drop_more, nil_from_length, take-append-drop, take_all}
use Rattle.std.proofs.lemmas.List.Splits.{slice_split-cons_yes, slice_split_first}
use Rattle.std.proofs.lemmas.List.Sums.{passes_at_first, prefix_len-le-length}
use Rattle.ql_base.specs.Bytes.{StopsBefore}
use Rattle.ql_base.proofs.Fronts.{front_stops}
use Rattle.ql_lines.specs.Fields.{FirstField, fields_of, is_space, isn't_empty}
use Rattle.ql_lines.proofs.Splits.{none_passes}

pub behind_space : (b : ℕ) (bs : List ℕ) → is_space b ≡ true → fields_of (b ∷ bs) ≡ fields_of bs
behind_space b bs e = ap (filter isn't_empty) (slice_split-cons_yes is_space b bs e)

-- spaces at the front make no field
pub behind_spaces : (xs : List ℕ) → fields_of xs ≡ fields_of (drop (prefix_len is_space xs) xs)
behind_spaces [] = refl
behind_spaces (b ∷ bs) =
    let P : Bool → Type 0 = λ t. is_space b ≡ t → fields_of (b ∷ bs) ≡ fields_of (drop (cond t (1 + prefix_len is_space bs) 0) (b ∷ bs)) in
    elim (is_space b) as P [ true ↦ λ e. rw (one-add (prefix_len is_space bs)) (behind_space b bs e ∙ behind_spaces bs) | false ↦ λ e. refl ] refl

pub spaces_alone : (xs : List ℕ) → take (prefix_len is_space xs) xs ≡ replicate (prefix_len is_space xs) 32
spaces_alone [] = refl
spaces_alone (b ∷ bs) =
    let n = prefix_len is_space bs in
    let P : Bool → Type 0 = λ t. is_space b ≡ t → take (cond t (1 + n) 0) (b ∷ bs) ≡ replicate (cond t (1 + n) 0) 32 in
    elim (is_space b) as P [
      | true ↦ λ e.
          let is : b ≡ 32 = grind (arith, e) in
          rw (one-add n) (ap (λ c. c ∷ take n bs) is ∙ ap (λ cs. 32 ∷ cs) (spaces_alone bs))
      | false ↦ λ e. refl
    ] refl

-- a space after a field is no part of another
behind_field : (xs : List ℕ) → position_or_len is_space xs < length xs →
    fields_of (drop (position_or_len is_space xs) xs) ≡ fields_of (after_first is_space xs)
behind_field xs lt =
    let n = position_or_len is_space xs in
    ap fields_of (drop_more xs n 0 lt) ∙ behind_space (get_or xs n 0) (drop (n + 1) xs) (passes_at_first is_space xs 0 lt)

-- a part that isn't empty is a field
pub kept : (field : List ℕ) (parts : List (List ℕ)) → 0 < length field → filter isn't_empty (field ∷ parts) ≡ field ∷ filter isn't_empty parts
kept [] parts some = absurd (omega (arith, some))
kept (b ∷ bs) parts some = grind arith

module _ (x : ℕ) (xs : List ℕ) (not_space : is_space x ≡ false) where
  longer : position_or_len is_space (x ∷ xs) ≡ 1 + position_or_len is_space xs
  longer = rw not_space refl

  one_field : position_or_len is_space (x ∷ xs) ≡ length (x ∷ xs) →
      fields_of (x ∷ xs) ≡ before_first is_space (x ∷ xs) ∷ fields_of (drop (position_or_len is_space (x ∷ xs)) (x ∷ xs))
  one_field whole =
      let n = position_or_len is_space (x ∷ xs) in
      let all : take n (x ∷ xs) ≡ x ∷ xs = take_all n (x ∷ xs) (omega (arith, whole)) in
      let none : drop n (x ∷ xs) ≡ [] = drop_of_length-le (x ∷ xs) (omega (arith, whole)) in
      ap (filter isn't_empty) (none_passes is_space (x ∷ xs) whole) ∙ kept (x ∷ xs) [] (omega arith)
      ∙ ap (λ f. f ∷ []) (sym all) ∙ ap (λ r. take n (x ∷ xs) ∷ fields_of r) (sym none)

  more_fields : position_or_len is_space (x ∷ xs) < length (x ∷ xs) →
      fields_of (x ∷ xs) ≡ before_first is_space (x ∷ xs) ∷ fields_of (drop (position_or_len is_space (x ∷ xs)) (x ∷ xs))
  more_fields lt =
      let n = position_or_len is_space (x ∷ xs) in
      let first = before_first is_space (x ∷ xs) in
      let some : 0 < length first = omega (arith, length-take n (x ∷ xs), longer, lt) in
      ap (filter isn't_empty) (slice_split_first is_space (x ∷ xs) 0 lt)
      ∙ kept first (slice_split is_space (after_first is_space (x ∷ xs))) some
      ∙ ap (λ fs. first ∷ fs) (sym (behind_field (x ∷ xs) lt))

  -- a text that begins with no space begins with a field
  pub field_first : fields_of (x ∷ xs) ≡ before_first is_space (x ∷ xs) ∷ fields_of (drop (position_or_len is_space (x ∷ xs)) (x ∷ xs))
  field_first = elim (eq-or-lt_of_le (prefix_len-le-length (λ b. not (is_space b)) (x ∷ xs))) [ inl whole ↦ one_field whole | inr lt ↦ more_fields lt ]

-- the first field of a text that isn't spaces alone
pub first_field_is : (text start : List ℕ) → drop (prefix_len is_space text) text ≡ start → 0 < length start →
    FirstField text (before_first is_space start) (drop (position_or_len is_space start) start)
first_field_is text [] at some = absurd (omega (arith, some))
first_field_is text (b ∷ bs) at some =
    let n = prefix_len is_space text in
    let start = b ∷ bs in
    let m = position_or_len is_space start in
    let no_space : is_space b ≡ false = subst (StopsBefore is_space) at (front_stops is_space text) in
    record {
      fields = behind_spaces text ∙ ap fields_of at ∙ field_first b bs no_space;
      spaces = n;
      stands =
          sym (take-append-drop n text) ∙ ap (λ front. front ++ drop n text) (spaces_alone text)
          ∙ ap (λ rest. replicate n 32 ++ rest) (at ∙ sym (take-append-drop m start)) ∙ sym (append_assoc (replicate n 32) (take m start) (drop m start));
    }

-- spaces alone have no field
pub no_field : (text : List ℕ) → length (drop (prefix_len is_space text) text) ≡ 0 → fields_of text ≡ []
no_field text none = behind_spaces text ∙ ap fields_of (nil_from_length (drop (prefix_len is_space text) text) none)
