-- the first part of a line, and the parts after it
use Rattle.std.proofs.Common.{◌≡◌, ◌<◌, ◌+◌, ℕ, suc, Bool, true, false, cond, List, [], ◌∷◌, length, take, drop, arith, refl, ap, sym, subst, ◌∙◌, one-add}
use Rattle.std.specs.Prelude.{not}
use Rattle.std.specs.List.{prefix_len}
use Rattle.std.proofs.lemmas.Bool.Decides.{nat_tests}
use Rattle.std.proofs.lemmas.List.{nil_from_length}
use Rattle.ql_base.specs.Bytes.{StopsBefore}
use Rattle.ql_base.proofs.Fronts.{front_stops}
use Rattle.ql_lines.specs.Fields.{Fields, is_space}
use Rattle.ql_schedule.specs.Parts.{is_quotation_mark, isn't_space, led_by, part_len, parts_in_part, parts_in_text, parts_of, text_len}

behind_space : (b : ℕ) (bs : List ℕ) → is_space b ≡ true → parts_of (b ∷ bs) ≡ parts_of bs
unfolding parts_of
behind_space b bs e = rw e refl

behind_spaces : (xs : List ℕ) → parts_of xs ≡ parts_of (drop (prefix_len is_space xs) xs)
behind_spaces [] = refl
behind_spaces (b ∷ bs) =
    let P : Bool → Type 0 = λ t. is_space b ≡ t → parts_of (b ∷ bs) ≡ parts_of (drop (cond t (1 + prefix_len is_space bs) 0) (b ∷ bs)) in
    elim (is_space b) as P [ true ↦ λ e. rw (one-add (prefix_len is_space bs)) (behind_space b bs e ∙ behind_spaces bs) | false ↦ λ e. refl ] refl

-- the rest of a part goes up to the first space
part_rest : (bs : List ℕ) → parts_in_part bs ≡ take (prefix_len isn't_space bs) bs ∷ parts_of (drop (prefix_len isn't_space bs) bs)
unfolding parts_of parts_in_part
part_rest [] = refl
part_rest (b ∷ bs) =
    let n = prefix_len isn't_space bs in
    let P : Bool → Type 0 = λ t. is_space b ≡ t
    → cond {A = Fields} t ([] ∷ parts_of bs) (led_by b (parts_in_part bs)) ≡ take (cond (not t) (1 + n) 0) (b ∷ bs) ∷ parts_of (drop (cond (not t) (1 + n) 0) (b ∷ bs)) in
    elim (is_space b) as P [ true ↦ λ e. ap (λ r. [] ∷ r) (sym (behind_space b bs e)) | false ↦ λ e. rw (one-add n) (ap (led_by b) (part_rest bs)) ] refl

text_more : (b : ℕ) (bs : List ℕ) → is_quotation_mark b ≡ false → text_len (b ∷ bs) ≡ suc (text_len bs)
text_more b bs e = grind (arith, nat_tests, e)

text_ends : (b : ℕ) (bs : List ℕ) → is_quotation_mark b ≡ true → text_len (b ∷ bs) ≡ 1
text_ends b bs e = grind (arith, nat_tests, e)

-- how many bytes of a part are left within a text
abbrev left : List ℕ → ℕ
left bs = text_len bs + prefix_len isn't_space (drop (text_len bs) bs)

left_more : (b : ℕ) (bs : List ℕ) → is_quotation_mark b ≡ false → left (b ∷ bs) ≡ suc (left bs)
left_more b bs e = rw (text_more b bs e) (omega arith)

left_ends : (b : ℕ) (bs : List ℕ) → is_quotation_mark b ≡ true → left (b ∷ bs) ≡ suc (prefix_len isn't_space bs)
left_ends b bs e = rw (text_ends b bs e) (omega arith)

text_rest : (bs : List ℕ) → parts_in_text bs ≡ take (left bs) bs ∷ parts_of (drop (left bs) bs)
unfolding parts_of parts_in_text
text_rest [] = refl
text_rest (b ∷ bs) =
    let P : Bool → Type 0 = λ t. is_quotation_mark b ≡ t → cond {A = Fields} t (led_by b (parts_in_part bs)) (led_by b (parts_in_text bs)) ≡ take (left (b ∷ bs)) (b ∷ bs) ∷ parts_of (drop (left (b ∷ bs)) (b ∷ bs)) in
    elim (is_quotation_mark b) as P [
      | true ↦ λ e. ap (led_by b) (part_rest bs) ∙ ap (λ n. take n (b ∷ bs) ∷ parts_of (drop n (b ∷ bs))) (sym (left_ends b bs e))
      | false ↦ λ e. ap (led_by b) (text_rest bs) ∙ ap (λ n. take n (b ∷ bs) ∷ parts_of (drop n (b ∷ bs))) (sym (left_more b bs e))
    ] refl

-- a part at the start of a text, which a byte begins that is no space
of_text : (b : ℕ) (bs : List ℕ) → is_space b ≡ false → is_quotation_mark b ≡ true → parts_of (b ∷ bs) ≡ led_by b (parts_in_text bs)
unfolding parts_of
of_text b bs s q = rw (s, q) refl

of_part : (b : ℕ) (bs : List ℕ) → is_space b ≡ false → is_quotation_mark b ≡ false → parts_of (b ∷ bs) ≡ led_by b (parts_in_part bs)
unfolding parts_of
of_part b bs s q = rw (s, q) refl

len_of_text : (b : ℕ) (bs : List ℕ) → is_quotation_mark b ≡ true → part_len (b ∷ bs) ≡ suc (left bs)
len_of_text b bs q = rw (q, one-add' (text_len bs)) (omega arith)
  where
    one-add' : (n : ℕ) → n + 1 ≡ suc n
    one-add' n = omega arith

len_of_part : (b : ℕ) (bs : List ℕ) → is_space b ≡ false → is_quotation_mark b ≡ false → part_len (b ∷ bs) ≡ suc (prefix_len isn't_space bs)
len_of_part b bs s q = rw (q, s) (omega arith)

front_part : (b : ℕ) (bs : List ℕ) → is_space b ≡ false → parts_of (b ∷ bs) ≡ take (part_len (b ∷ bs)) (b ∷ bs) ∷ parts_of (drop (part_len (b ∷ bs)) (b ∷ bs))
front_part b bs s =
    let here : ℕ → Fields = λ n. take n (b ∷ bs) ∷ parts_of (drop n (b ∷ bs)) in
    let P : Bool → Type 0 = λ t. is_quotation_mark b ≡ t → parts_of (b ∷ bs) ≡ here (part_len (b ∷ bs)) in
    elim (is_quotation_mark b) as P [
      | true ↦ λ q. of_text b bs s q ∙ ap (led_by b) (text_rest bs) ∙ ap here (sym (len_of_text b bs q))
      | false ↦ λ q. of_part b bs s q ∙ ap (led_by b) (part_rest bs) ∙ ap here (sym (len_of_part b bs s q))
    ] refl

pub first_part_is : (text start : List ℕ) → drop (prefix_len is_space text) text ≡ start → 0 < length start
    → parts_of text ≡ take (part_len start) start ∷ parts_of (drop (part_len start) start)
first_part_is text [] at some = absurd (omega (arith, some))
first_part_is text (b ∷ bs) at some =
    let no_space : is_space b ≡ false = subst (StopsBefore is_space) at (front_stops is_space text) in
    behind_spaces text ∙ ap parts_of at ∙ front_part b bs no_space

pub no_part : (text : List ℕ) → length (drop (prefix_len is_space text) text) ≡ 0 → parts_of text ≡ []
unfolding parts_of
no_part text none = behind_spaces text ∙ ap parts_of (nil_from_length (drop (prefix_len is_space text) text) none)
