-- a line that is written ends where it was ended
use Rattle.std.proofs.Common.{◌≡◌, ℕ, suc, ◌≤◌, ◌-◌, take, Bool, true, false, List, [], ◌∷◌, ◌++◌, length, arith, refl, ap, sym, ◌∙◌}
use Rattle.std.specs.Prelude.{slice_index, if◌then◌else◌, ◌==◌}
use Rattle.std.specs.List.{AllByRecursion, slice_split}
use Rattle.std.specs.Str.Lines.{lines, lines_of_parts, strip_carriage_return}
use Rattle.std.proofs.lemmas.Bool.Decides.{nat_tests}
use Rattle.ql_lines.specs.Fields.{Fields}
use Rattle.ql_lines.specs.Lines.{is_line_feed}
use Rattle.ql_lines.specs.Texts.{joined}
use Rattle.ql_lines.proofs.Each.{each_weaker}
use Rattle.ql_lines.proofs.Splits.{part_before, some_part}

-- a byte that ends no line
abbrev pub StaysIn : ℕ → Type 0
StaysIn b = (b ≡ 10 → ⊥) × (b ≡ 13 → ⊥)

abbrev pub Stay : List ℕ → Type 0
Stay bs = AllByRecursion StaysIn bs

pub stays_of : (b : ℕ) → 14 ≤ b → StaysIn b
stays_of b low = ((λ e. omega (arith, e, low)), (λ e. omega (arith, e, low)))

pub stay_both : (xs ys : List ℕ) → Stay xs → Stay ys → Stay (xs ++ ys)
stay_both [] ys h k = k
stay_both (x ∷ xs) ys h k = (h.0, stay_both xs ys h.1 k)

pub joined_stay : (fs : Fields) → AllByRecursion Stay fs → Stay (joined fs)
joined_stay [] h = tt
joined_stay (f ∷ []) h = h.0
joined_stay (f ∷ g ∷ fs) h = stay_both f (32 ∷ joined (g ∷ fs)) h.0 (stays_of 32 (omega arith), joined_stay (g ∷ fs) h.1)

no_feed : (b : ℕ) → StaysIn b → is_line_feed b ≡ false
no_feed b h = elim (is_line_feed b) as (λ t. is_line_feed b ≡ t → is_line_feed b ≡ false) [ true ↦ λ e. absurd (h.0 (grind (arith, nat_tests, e))) | false ↦ λ e. e ] refl

index : (x y : ℕ) (ys : List ℕ) → length (x ∷ y ∷ ys) - 1 ≡ suc (length (y ∷ ys) - 1)
index x y ys = omega arith

last_no_return : (xs : List ℕ) → Stay xs → slice_index xs (length xs - 1) ≡ 13 → ⊥
last_no_return [] h e = omega (arith, e)
last_no_return (x ∷ []) h e = h.0.1 e
last_no_return (x ∷ y ∷ ys) h e = last_no_return (y ∷ ys) h.1 (sym (ap (slice_index (x ∷ y ∷ ys)) (index x y ys)) ∙ e)

no_return : (xs : List ℕ) → Stay xs → strip_carriage_return xs ≡ xs
no_return xs h =
    let last = slice_index xs (length xs - 1) in
    let P : Bool → Type 0 = λ t. (last == 13) ≡ t → (if t then take (length xs - 1) xs else xs) ≡ xs in
    elim (last == 13) as P [ true ↦ λ e. absurd (last_no_return xs h (grind (arith, e))) | false ↦ λ e. refl ] refl

-- lines are read as they are written
pub line_again : (text ys : List ℕ) → Stay text → lines (text ++ 10 ∷ ys) ≡ text ∷ lines ys
line_again text ys h =
    let rest = some_part is_line_feed ys in
    let no_feeds = each_weaker StaysIn (λ b. is_line_feed b ≡ false) no_feed text h in
    ap lines_of_parts (part_before is_line_feed text 10 ys no_feeds refl) ∙ ap (λ parts. lines_of_parts (text ∷ parts)) rest.2
    ∙ ap (λ parts. strip_carriage_return text ∷ lines_of_parts parts) (sym rest.2) ∙ ap (λ l. l ∷ lines ys) (no_return text h)
