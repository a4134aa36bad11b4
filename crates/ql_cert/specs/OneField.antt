-- A field spells one literal or one hint, and no literal is a colon; so fields spell one line.
use Rattle.std.proofs.Common.{◌≡◌, ◌⊎◌, inl, inr, ℕ, get_or, ◌<◌, ◌≤◌, ◌^◌, Bool, true, false, List, [], ◌∷◌, ◌++◌, map, length, decimal, arith, refl, ap, sym, ◌∙◌}
use Rattle.std.specs.List.{AllByRecursion}
use Rattle.std.proofs.lemmas.Fmt.{decimal_injective, decimal_is_IsNumeral}
use Rattle.std.proofs.lemmas.Str.Parse.{digit_at}
use Rattle.ql_cnf.specs.declared.lit.Lit.{Lit}
use Rattle.ql_lines.proofs.Conses.{both, heads, tails}
use Rattle.ql_lines.specs.Fields.{Fields}
use Rattle.ql_refute.specs.declared.refutation.Hint.{Hint}
use Rattle.ql_refute.specs.declared.refutation.Hint.TheVariants.{Given, Earlier}
use Rattle.ql_refute.specs.declared.refutation.Line.{Line}
use Rattle.ql_cert.specs.Spelling.{IsHint, IsLine, IsLit, body_fields, clause_fields, colon, hint_field, lit_field, signed_field}

-- ---- the first byte of a number's text is a digit

pub first_digit : (n : ℕ) → n < 2 ^ 64 → (b : ℕ) (rest : List ℕ) → decimal n ≡ b ∷ rest → (48 ≤ b) × (b ≤ 57)
first_digit n small b rest e =
    let h = (decimal_is_IsNumeral n small).0 in
    let range = digit_at (decimal n) 0 h.1 h.0 in
    let first : get_or (decimal n) 0 0 ≡ b = ap (λ ds. get_or ds 0 0) e in
    (omega (arith, range.0, first), omega (arith, range.1, first))

-- no number is spelled by a text that begins with another byte
pub no_number : (n : ℕ) → n < 2 ^ 64 → (b : ℕ) (rest : List ℕ) → ((b < 48) ⊎ (57 < b)) → decimal n ≡ b ∷ rest → ⊥
no_number n small b rest other e =
    let range = first_digit n small b rest e in
    elim other [ inl low ↦ omega (arith, low, range.0) | inr high ↦ omega (arith, high, range.1) ]

-- ---- literals and hints

module _ (v w : ℕ) (small : v < 2 ^ 32) (small' : w < 2 ^ 32) where
  same_variable : (s t : Bool) → signed_field v s ≡ signed_field w t → v ≡ w
  unfolding signed_field
  same_variable true true e = decimal_injective v w (omega (arith, small)) (omega (arith, small')) e
  same_variable false false e = decimal_injective v w (omega (arith, small)) (omega (arith, small')) (tails 45 45 (decimal v) (decimal w) e)
  same_variable true false e = absurd (no_number v (omega (arith, small)) 45 (decimal w) (inl (omega arith)) e)
  same_variable false true e = absurd (no_number w (omega (arith, small')) 45 (decimal v) (inl (omega arith)) (sym e))

  same_sign : (s t : Bool) → signed_field v s ≡ signed_field w t → s ≡ t
  unfolding signed_field
  same_sign true true e = refl
  same_sign false false e = refl
  same_sign true false e = absurd (no_number v (omega (arith, small)) 45 (decimal w) (inl (omega arith)) e)
  same_sign false true e = absurd (no_number w (omega (arith, small')) 45 (decimal v) (inl (omega arith)) (sym e))

pub one_literal : (x y : Lit) → IsLit x → IsLit y → lit_field x ≡ lit_field y → x ≡ y
one_literal x y f g e =
    ap (λ v. record { var = v; positive = x.positive }) (same_variable x.var y.var f.1 g.1 x.positive y.positive e)
    ∙ ap (λ s. record { var = y.var; positive = s }) (same_sign x.var y.var f.1 g.1 x.positive y.positive e)

signed_no_colon : (v : ℕ) (s : Bool) → v < 2 ^ 32 → signed_field v s ≡ colon → ⊥
unfolding signed_field
signed_no_colon v true small e = no_number v (omega (arith, small)) 58 [] (inr (omega arith)) e
signed_no_colon v false small e = omega (arith, heads 45 58 (decimal v) [] e)

pub no_colon : (x : Lit) → IsLit x → lit_field x ≡ colon → ⊥
no_colon x f e = signed_no_colon x.var x.positive f.1 e

pub one_hint : (x y : Hint) → IsHint x → IsHint y → hint_field x ≡ hint_field y → x ≡ y
unfolding hint_field IsHint
one_hint (Given m) (Given n) f g e = ap Given (decimal_injective m n (omega (arith, f.1)) (omega (arith, g.1)) (tails 99 99 (decimal m) (decimal n) e))
one_hint (Earlier m) (Earlier n) f g e = ap Earlier (decimal_injective m n f.1 g.1 (tails 108 108 (decimal m) (decimal n) e))
one_hint (Given m) (Earlier n) f g e = absurd (omega (arith, ap (λ (l : List ℕ). get_or l 0 0) e))
one_hint (Earlier m) (Given n) f g e = absurd (omega (arith, ap (λ (l : List ℕ). get_or l 0 0) e))

-- ---- lists of them

module _ {X : Type 0} (IsOne : X → Type 0) (field : X → List ℕ) (one : (x y : X) → IsOne x → IsOne y → field x ≡ field y → x ≡ y) where
  -- no two lists have the same fields
  pub same_all : (xs ys : List X) → AllByRecursion IsOne xs → AllByRecursion IsOne ys → map field xs ≡ map field ys → xs ≡ ys
  same_all [] [] f g e = refl
  same_all [] (y ∷ ys) f g e = absurd (omega (arith, ap length e))
  same_all (x ∷ xs) [] f g e = absurd (omega (arith, ap length e))
  same_all (x ∷ xs) (y ∷ ys) f g e =
      both x y xs ys (one x y f.0 g.0 (heads (field x) (field y) (map field xs) (map field ys) e))
      (same_all xs ys f.1 g.1 (tails (field x) (field y) (map field xs) (map field ys) e))

-- fields have one list of literals before a colon, and one rest after it
pub same_parts : (xs ys : List Lit) (hs gs : Fields) → AllByRecursion IsLit xs → AllByRecursion IsLit ys → clause_fields xs ++ colon ∷ hs ≡ clause_fields ys ++ colon ∷ gs
    → (xs ≡ ys) × (hs ≡ gs)
same_parts [] [] hs gs f g e = (refl, tails colon colon hs gs e)
same_parts [] (y ∷ ys) hs gs f g e = absurd (no_colon y g.0 (sym (heads colon (lit_field y) hs (clause_fields ys ++ colon ∷ gs) e)))
same_parts (x ∷ xs) [] hs gs f g e = absurd (no_colon x f.0 (heads (lit_field x) colon (clause_fields xs ++ colon ∷ hs) gs e))
same_parts (x ∷ xs) (y ∷ ys) hs gs f g e =
    let rest = same_parts xs ys hs gs f.1 g.1 (tails (lit_field x) (lit_field y) (clause_fields xs ++ colon ∷ hs) (clause_fields ys ++ colon ∷ gs) e) in
    (both x y xs ys (one_literal x y f.0 g.0 (heads (lit_field x) (lit_field y) (clause_fields xs ++ colon ∷ hs) (clause_fields ys ++ colon ∷ gs) e)) rest.0, rest.1)

-- no two lines have the same fields
pub same_line : (l m : Line) → IsLine l → IsLine m → body_fields l ≡ body_fields m → l ≡ m
same_line l m f g e =
    let parts = same_parts l.clause m.clause (map hint_field l.hints) (map hint_field m.hints) f.clause.lits g.clause.lits e in
    let hints : l.hints ≡ m.hints = same_all IsHint hint_field one_hint l.hints m.hints f.hints g.hints parts.1 in
    ap (λ c. record { clause = c; hints = l.hints }) parts.0 ∙ ap (λ h. record { clause = m.clause; hints = h }) hints
