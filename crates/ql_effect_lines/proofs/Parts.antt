-- values stand at the start of a text in one way
use Rattle.std.proofs.Common.{◌≡◌, ℕ, zero, suc, Bool, true, false, Ok, List, [], ◌∷◌, ◌++◌, drop, replicate, arith, refl, sym, ap, subst, ◌∙◌, one-add}
use Rattle.std.specs.List.{prefix_len}
use Rattle.std.proofs.lemmas.Bool.{false≢true}
use Rattle.std.proofs.lemmas.Bool.Decides.{nat_tests}
use Rattle.ql_base.specs.Bytes.{StopsBefore, begins, is_digit}
use Rattle.ql_value.specs.declared.value.Value.{Value}
use Rattle.ql_value.specs.Reading.{after_spaces, is_byte, scalar_at, value_at}
use Rattle.ql_value.specs.ValueGrammar.{ReadsMore}
use Rattle.ql_value.proofs.ScalarGrammar.{are_parts}
use Rattle.ql_value.proofs.ValueLaws.{spaces_split}
use Rattle.ql_effect_lines.specs.Parts.{FieldAt, ItemsAt, ValueAt, ValuesAt, ends_field}
use Rattle.ql_effect_lines.proofs.Values.{is_read, stands}
use Rattle.ql_lines.proofs.Conses.{both, heads, tails}

-- ---- spaces

stopped : (text : List ℕ) → begins (is_byte 32) text ≡ false → after_spaces text ≡ text
stopped [] clear = refl
stopped (b ∷ bs) clear = rw clear refl

passed : (text : List ℕ) → after_spaces (32 ∷ text) ≡ after_spaces text
passed text = ap (λ (k : ℕ). drop k (32 ∷ text)) (one-add (prefix_len (is_byte 32) text))

pub gap_gone : (n : ℕ) (start : List ℕ) → begins (is_byte 32) start ≡ false → after_spaces (replicate n 32 ++ start) ≡ start
gap_gone zero start clear = stopped start clear
gap_gone (suc n) start clear = passed (replicate n 32 ++ start) ∙ gap_gone n start clear

-- ---- parts in one way, and not after a space

abbrev pub IsOne : {X : Type 0} → (X → List ℕ → List ℕ → Type 0) → Type 0
IsOne {X} At = (x y : X) (text r q : List ℕ) → At x text r → At y text q → (x ≡ y) × (r ≡ q)

abbrev pub Starts : {X : Type 0} → (X → List ℕ → List ℕ → Type 0) → Type 0
Starts {X} At = (x : X) (text rest : List ℕ) → At x text rest → begins (is_byte 32) text ≡ false

module _ {X : Type 0} (At : X → List ℕ → List ℕ → Type 0) (starts : Starts At) where
  -- a field stands after all spaces
  start_is : (x : X) (text rest : List ℕ) (p : FieldAt At x text rest) → p.start ≡ after_spaces text
  start_is x text rest p = sym (ap after_spaces p.spaces ∙ gap_gone p.gap p.start (starts x p.start rest p.part))

  pub part_of : (x : X) (text rest : List ℕ) → FieldAt At x text rest → At x (after_spaces text) rest
  part_of x text rest p = subst (λ (t : List ℕ). At x t rest) (start_is x text rest p) p.part

  pub field_of : (x : X) (text rest : List ℕ) → At x (after_spaces text) rest → ends_field rest ≡ true → FieldAt At x text rest
  field_of x text rest p end = record {
    gap = prefix_len (is_byte 32) text;
    start = after_spaces text;
    spaces = spaces_split text;
    part = p;
    ended = end;
  }

  module _ (one : IsOne At) where
    pub no_end : (x : X) (text rest : List ℕ) → At x (after_spaces text) rest → ends_field rest ≡ false → (y : X) (q : List ℕ) → FieldAt At y text q → ⊥
    no_end x text rest p clear y q f =
        let same = one x y (after_spaces text) rest q p (part_of y text q f) in
        false≢true (sym clear ∙ ap ends_field same.1 ∙ f.ended)

    pub one_field : IsOne (FieldAt At)
    one_field x y text r q f g = one x y (after_spaces text) r q (part_of x text r f) (part_of y text q g)

-- ---- one value

pub one_value : IsOne ValueAt
one_value v w text r q p s = are_parts v w r q (sym (is_read v text r p).0 ∙ (is_read w text q s).0)

no_space : (v : Value) (text rest : List ℕ) → ValueAt v (32 ∷ text) rest → ⊥
unfolding value_at scalar_at is_digit
no_space v text rest p = let read : value_at (32 ∷ text) ≡ Ok (v, rest) = (is_read v (32 ∷ text) rest p).0 in cc

pub no_bracket : (v : Value) (text rest : List ℕ) → ValueAt v (41 ∷ text) rest → ⊥
unfolding value_at scalar_at is_digit
no_bracket v text rest p = let read : value_at (41 ∷ text) ≡ Ok (v, rest) = (is_read v (41 ∷ text) rest p).0 in cc

pub value_starts : Starts ValueAt
value_starts v [] rest p = refl
value_starts v (b ∷ bs) rest p =
    let P : Bool → Type 0 = λ t. is_byte 32 b ≡ t → t ≡ false in
    elim (is_byte 32 b) as P [
      | true ↦ λ e. let same : b ≡ 32 = grind (arith, nat_tests) in absurd (no_space v bs rest (subst (λ (c : ℕ). ValueAt v (c ∷ bs) rest) same p))
      | false ↦ λ e. refl
    ] refl

-- a value that ends a field isn't followed by a digit
pub no_digit : (rest : List ℕ) → ends_field rest ≡ true → StopsBefore is_digit rest
unfolding is_digit
no_digit [] end = refl
no_digit (b ∷ bs) end = grind (arith, nat_tests, end)

-- ---- several values

-- after a comma the next value stands after all spaces
next_start : (v : Value) (tail start behind : List ℕ) (gap : ℕ) → ValueAt v start behind → tail ≡ replicate gap 32 ++ start → start ≡ after_spaces tail
next_start v tail start behind gap p e = sym (ap after_spaces e ∙ gap_gone gap start (value_starts v start behind p))

one_more : (vs ws : List Value) (text r q : List ℕ) → ReadsMore ValueAt vs text (41 ∷ r) → ReadsMore ValueAt ws text (41 ∷ q) → (vs ≡ ws) × (r ≡ q)
one_more [] [] text r q p s = (refl, tails 41 41 r q (sym p ∙ s))
one_more [] (w ∷ ws) text r q p s = absurd (omega (arith, heads 41 44 r (replicate s.gap 32 ++ s.start) (sym p ∙ s.comma)))
one_more (v ∷ vs) [] text r q p s = absurd (omega (arith, heads 41 44 q (replicate p.gap 32 ++ p.start) (sym s ∙ p.comma)))
one_more (v ∷ vs) (w ∷ ws) text r q p s =
    let gaps = tails 44 44 (replicate p.gap 32 ++ p.start) (replicate s.gap 32 ++ s.start) (sym p.comma ∙ s.comma) in
    let left = next_start v (replicate p.gap 32 ++ p.start) p.start p.behind p.gap p.item refl in
    let right = next_start w (replicate p.gap 32 ++ p.start) s.start s.behind s.gap s.item gaps in
    let item = one_value v w s.start p.behind s.behind (subst (λ (t : List ℕ). ValueAt v t p.behind) (left ∙ sym right) p.item) s.item in
    let more = one_more vs ws s.behind r q (subst (λ (t : List ℕ). ReadsMore ValueAt vs t (41 ∷ r)) item.1 p.next) s.next in
    (both v w vs ws item.0 more.0, more.1)

pub one_items : IsOne ItemsAt
one_items [] ws text r q p s = absurd p
one_items (v ∷ vs) [] text r q p s = absurd s
one_items (v ∷ vs) (w ∷ ws) text r q p s =
    let first = one_value v w text p.0 s.0 p.1 s.1 in
    let more = one_more vs ws s.0 r q (subst (λ (t : List ℕ). ReadsMore ValueAt vs t (41 ∷ r)) first.1 p.2) s.2 in
    (both v w vs ws first.0 more.0, more.1)

pub one_list : IsOne ValuesAt
one_list [] [] text r q p s = (refl, tails 41 41 r q (tails 40 40 (41 ∷ r) (41 ∷ q) (sym p ∙ s)))
one_list [] (w ∷ ws) text r q p s =
    let inner = tails 40 40 (41 ∷ r) s.0 (sym p ∙ s.1) in
    absurd (no_bracket w r s.2.0 (subst (λ (t : List ℕ). ValueAt w t s.2.0) (sym inner) s.2.1))
one_list (v ∷ vs) [] text r q p s =
    let inner = tails 40 40 (41 ∷ q) p.0 (sym s ∙ p.1) in
    absurd (no_bracket v q p.2.0 (subst (λ (t : List ℕ). ValueAt v t p.2.0) (sym inner) p.2.1))
one_list (v ∷ vs) (w ∷ ws) text r q p s =
    let inner = tails 40 40 p.0 s.0 (sym p.1 ∙ s.1) in
    one_items (v ∷ vs) (w ∷ ws) s.0 r q (subst (λ (t : List ℕ). ItemsAt (v ∷ vs) t r) inner p.2) s.2

pub list_starts : Starts ValuesAt
list_starts [] text rest p = ap (begins (is_byte 32)) p
list_starts (v ∷ vs) text rest p = ap (begins (is_byte 32)) p.1

-- ---- the reader of several values

pub no_items : (text : List ℕ) → ((v : Value) (rest : List ℕ) → ValueAt v text rest → ⊥) → (vs : List Value) (rest : List ℕ) → ItemsAt vs text rest → ⊥
no_items text none [] rest p = p
no_items text none (v ∷ vs) rest p = none v p.0 p.1

bracket_ends : (rest : List ℕ) → StopsBefore is_digit (41 ∷ rest)
unfolding is_digit
bracket_ends rest = refl

comma_ends : (rest : List ℕ) → StopsBefore is_digit (44 ∷ rest)
unfolding is_digit
comma_ends rest = refl

-- a value is read, and what stands after it
module _ (v : Value) (text behind : List ℕ) (read : value_at text ≡ Ok (v, behind)) where
  pub same_value : (w : Value) (rest : List ℕ) → ValueAt w text rest → (v ≡ w) × (behind ≡ rest)
  same_value w rest p = are_parts v w behind rest (sym read ∙ (is_read w text rest p).0)

  pub last_item : (rest : List ℕ) → behind ≡ 41 ∷ rest → ItemsAt (v ∷ []) text rest
  last_item rest e = (behind, stands v text behind read (subst (StopsBefore is_digit) (sym e) (bracket_ends rest)), e)

  pub stray_item : begins (is_byte 41) behind ≡ false → begins (is_byte 44) behind ≡ false → (vs : List Value) (rest : List ℕ) → ItemsAt vs text rest → ⊥
  stray_item unended unparted [] rest p = p
  stray_item unended unparted (w ∷ []) rest p =
      let first = same_value w p.0 p.1 in
      false≢true (sym unended ∙ ap (begins (is_byte 41)) (first.1 ∙ p.2))
  stray_item unended unparted (w ∷ x ∷ ws) rest p =
      let first = same_value w p.0 p.1 in
      false≢true (sym unparted ∙ ap (begins (is_byte 44)) (first.1 ∙ p.2.comma))

  module _ (tail : List ℕ) (comma : behind ≡ 44 ∷ tail) where
    pub more_items : (vs : List Value) (rest : List ℕ) → ItemsAt vs (after_spaces tail) rest → ItemsAt (v ∷ vs) text rest
    more_items [] rest p = absurd p
    more_items (w ∷ ws) rest p = (
      behind,
      stands v text behind read (subst (StopsBefore is_digit) (sym comma) (comma_ends tail)),
      record {
        gap = prefix_len (is_byte 32) tail;
        start = after_spaces tail;
        behind = p.0;
        comma = comma ∙ ap (λ (t : List ℕ). 44 ∷ t) (spaces_split tail);
        item = p.1;
        next = p.2;
      },
    )

    pub items_left : (vs : List Value) (rest : List ℕ) → ItemsAt vs text rest → (ws : List Value) × (vs ≡ v ∷ ws) × ItemsAt ws (after_spaces tail) rest
    items_left [] rest p = absurd p
    items_left (w ∷ []) rest p =
        let first = same_value w p.0 p.1 in
        absurd (omega (arith, heads 44 41 tail rest (sym comma ∙ first.1 ∙ p.2)))
    items_left (w ∷ x ∷ ws) rest p =
        let first = same_value w p.0 p.1 in
        let more = p.2 in
        let gaps = tails 44 44 tail (replicate more.gap 32 ++ more.start) (sym comma ∙ first.1 ∙ more.comma) in
        let start = next_start x tail more.start more.behind more.gap more.item gaps in
        (x ∷ ws, both w v (x ∷ ws) (x ∷ ws) (sym first.0) refl, (more.behind, subst (λ (t : List ℕ). ValueAt x t more.behind) start more.item, more.next))

-- ---- the reader of values in brackets

pub no_list : (text : List ℕ) → begins (is_byte 40) text ≡ false → (vs : List Value) (rest : List ℕ) → ValuesAt vs text rest → ⊥
no_list text clear [] rest p = false≢true (sym clear ∙ ap (begins (is_byte 40)) p)
no_list text clear (v ∷ vs) rest p = false≢true (sym clear ∙ ap (begins (is_byte 40)) p.1)

module _ (text inner : List ℕ) (opened : text ≡ 40 ∷ inner) where
  pub no_list_inside : begins (is_byte 41) inner ≡ false → ((vs : List Value) (rest : List ℕ) → ItemsAt vs inner rest → ⊥) → (vs : List Value) (rest : List ℕ) → ValuesAt vs text rest → ⊥
  no_list_inside clear none [] rest p = false≢true (sym clear ∙ ap (begins (is_byte 41)) (tails 40 40 inner (41 ∷ rest) (sym opened ∙ p)))
  no_list_inside clear none (v ∷ vs) rest p = none (v ∷ vs) rest (subst (λ (t : List ℕ). ItemsAt (v ∷ vs) t rest) (sym (tails 40 40 inner p.0 (sym opened ∙ p.1))) p.2)

  pub list_of : (vs : List Value) (rest : List ℕ) → ItemsAt vs inner rest → ValuesAt vs text rest
  list_of [] rest p = absurd p
  list_of (v ∷ vs) rest p = (inner, opened, p)
