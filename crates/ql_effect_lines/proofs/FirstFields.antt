-- a text has one first field, and one text stands after it
use Rattle.std.proofs.Common.{◌≡◌, ℕ, zero, suc, Bool, true, false, cond, List, [], ◌∷◌, ◌++◌, length, replicate, arith, refl, sym, ap, subst, ◌∙◌}
use Rattle.std.specs.List.{AllByRecursion, filter, onto_first, slice_split}
use Rattle.std.proofs.lemmas.List.{append_cancel_left}
use Rattle.std.proofs.lemmas.List.Splits.{slice_split-cons_no, slice_split-cons_yes}
use Rattle.ql_lines.specs.Fields.{FirstField, fields_of, is_space, isn't_empty, Fields}
use Rattle.ql_effect_lines.specs.Parts.{FieldsAt}
use Rattle.ql_lines.proofs.Conses.{both, heads, tails}

-- a text without spaces
abbrev IsClean : List ℕ → Type 0
IsClean [] = Unit {0}
IsClean (b ∷ bs) = (is_space b ≡ false) × IsClean bs

abbrev IsField : List ℕ → Type 0
IsField f = IsClean f × (isn't_empty f ≡ true)

onto : (x : ℕ) (ps : List (List ℕ)) → is_space x ≡ false → AllByRecursion IsClean ps → AllByRecursion IsClean (onto_first x ps)
onto x [] clear h = ((clear, tt), tt)
onto x (p ∷ ps) clear h = ((clear, h.0), h.1)

parts : (xs : List ℕ) → AllByRecursion IsClean (slice_split is_space xs)
parts [] = (tt, tt)
parts (x ∷ xs) =
    let P : Bool → Type 0 = λ t. is_space x ≡ t → AllByRecursion IsClean (slice_split is_space (x ∷ xs)) in
    elim (is_space x) as P [
      | true ↦ λ e. subst (λ ps. AllByRecursion IsClean ps) (sym (slice_split-cons_yes is_space x xs e)) (tt, parts xs)
      | false ↦ λ e. subst (λ ps. AllByRecursion IsClean ps) (sym (slice_split-cons_no is_space x xs e)) (onto x (slice_split is_space xs) e (parts xs))
    ] refl

kept : (ps : List (List ℕ)) → AllByRecursion IsClean ps → AllByRecursion IsField (filter isn't_empty ps)
kept [] h = tt
kept (p ∷ ps) h =
    let rest = kept ps h.1 in
    let P : Bool → Type 0 = λ t. isn't_empty p ≡ t → AllByRecursion IsField (cond t (p ∷ filter isn't_empty ps) (filter isn't_empty ps)) in
    elim (isn't_empty p) as P [ true ↦ λ e. ((h.0, e), rest) | false ↦ λ e. rest ] refl

is_field : (text f : List ℕ) (fs : Fields) → fields_of text ≡ f ∷ fs → IsField f
is_field text f fs e = let all = subst (AllByRecursion IsField) e (kept (slice_split is_space text) (parts text)) in all.0

module _ (b : ℕ) (w r q : List ℕ) (no_space : (b ≡ 32) → ⊥) where
  same_rest : (m n : ℕ) → replicate m 32 ++ (b ∷ w) ++ r ≡ replicate n 32 ++ (b ∷ w) ++ q → r ≡ q
  same_rest zero zero e = append_cancel_left (b ∷ w) r q e
  same_rest zero (suc n) e = absurd (no_space (heads b 32 (w ++ r) (replicate n 32 ++ (b ∷ w) ++ q) e))
  same_rest (suc m) zero e = absurd (no_space (sym (heads 32 b (replicate m 32 ++ (b ∷ w) ++ r) (w ++ q) e)))
  same_rest (suc m) (suc n) e = same_rest m n (tails 32 32 (replicate m 32 ++ (b ∷ w) ++ r) (replicate n 32 ++ (b ∷ w) ++ q) e)

not_a_space : (b : ℕ) → is_space b ≡ false → (b ≡ 32) → ⊥
not_a_space b clear e = grind (arith, clear, e)

rest_of : (f r q : List ℕ) (m n : ℕ) → IsField f → replicate m 32 ++ f ++ r ≡ replicate n 32 ++ f ++ q → r ≡ q
rest_of [] r q m n is e = absurd cc
rest_of (b ∷ w) r q m n is e = same_rest b w r q (not_a_space b is.0.0) m n e

pub one_first : (text f g r q : List ℕ) → FirstField text f r → FirstField text g q → (f ≡ g) × (r ≡ q)
one_first text f g r q p s =
    let same : f ≡ g = heads f g (fields_of r) (fields_of q) (sym p.fields ∙ s.fields) in
    let is = is_field text g (fields_of q) s.fields in
    let here : text ≡ replicate p.spaces 32 ++ g ++ r = subst (λ (h : List ℕ). text ≡ replicate p.spaces 32 ++ h ++ r) same p.stands in
    (same, rest_of g r q p.spaces s.spaces is (sym here ∙ s.stands))

-- ---- several fields

pub fields_at : (fs : Fields) (text rest : List ℕ) → FieldsAt fs text rest → fields_of text ≡ fs ++ fields_of rest
fields_at [] text rest p = ap fields_of p
fields_at (f ∷ fs) text rest p = p.1.fields ∙ ap (λ (gs : Fields). f ∷ gs) (fields_at fs p.0 rest p.2)

pub one_row : (fs gs : Fields) (text r q : List ℕ) → length fs ≡ length gs → FieldsAt fs text r → FieldsAt gs text q → (fs ≡ gs) × (r ≡ q)
one_row [] [] text r q n p s = (refl, sym p ∙ s)
one_row [] (g ∷ gs) text r q n p s = absurd (omega (arith, n))
one_row (f ∷ fs) [] text r q n p s = absurd (omega (arith, n))
one_row (f ∷ fs) (g ∷ gs) text r q n p s =
    let first = one_first text f g p.0 s.0 p.1 s.1 in
    let more = one_row fs gs s.0 r q (omega (arith, n)) (subst (λ (t : List ℕ). FieldsAt fs t r) first.1 p.2) s.2 in
    (both f g fs gs first.0 more.0, more.1)
