-- the first line of a file, and the lines after it
use Rattle.std.proofs.Common.{◌≡◌, ◌<◌, ◌≤◌, ◌+◌, ℕ, suc, Bool, true, false, List, [], ◌∷◌, length, arith, refl, ap, sym, ◌∙◌}
use Rattle.std.specs.Prelude.{if◌then◌else◌}
use Rattle.std.specs.List.{after_first, before_first, onto_first, position_or_len}
use Rattle.std.specs.Str.Lines.{lines, lines_of_parts, strip_carriage_return}
use Rattle.std.proofs.lemmas.List.Splits.{slice_split-cons_no, slice_split-cons_yes, slice_split_first}
use Rattle.ql_lines.specs.Lines.{ahead_from, is_line_feed, is_skipped, kept_lines}
use Rattle.ql_lines.proofs.Splits.{none_passes, some_part}

pub last_line : (xs : List ℕ) → 0 < length xs → position_or_len is_line_feed xs ≡ length xs → lines xs ≡ xs ∷ []
last_line [] some e = absurd (omega (arith, some))
last_line (x ∷ xs) some e =
    let alone : lines_of_parts ((x ∷ xs) ∷ []) ≡ (x ∷ xs) ∷ [] = grind arith in
    ap lines_of_parts (none_passes is_line_feed (x ∷ xs) e) ∙ alone

pub line_and_rest : (xs : List ℕ) → position_or_len is_line_feed xs < length xs
    → lines xs ≡ strip_carriage_return (before_first is_line_feed xs) ∷ lines (after_first is_line_feed xs)
line_and_rest xs lt =
    let rest = some_part is_line_feed (after_first is_line_feed xs) in
    let first = strip_carriage_return (before_first is_line_feed xs) in
    ap lines_of_parts (slice_split_first is_line_feed xs 0 lt)
    ∙ ap (λ parts. lines_of_parts (before_first is_line_feed xs ∷ parts)) rest.2
    ∙ ap (λ parts. first ∷ lines_of_parts parts) (sym rest.2)

pub no_line : lines [] ≡ []
no_line = refl

module _ (n : ℕ) (rest remaining text : List ℕ) (first : lines rest ≡ text ∷ lines remaining) where
  -- the end of the file stays where it is
  pub same_end : (ahead_from n rest).end ≡ (ahead_from (n + 1) remaining).end
  same_end = omega (arith, ap length first)

  -- a line that is skipped is passed over
  pub passes_over : is_skipped text ≡ true → ahead_from n rest ≡ ahead_from (n + 1) remaining
  unfolding kept_lines
  passes_over skipped =
      let lines_left : kept_lines n (lines rest) ≡ kept_lines (n + 1) (lines remaining) = ap (kept_lines n) first ∙ rw skipped refl in
      ap (λ ls. record { lines = ls; end = n + length (lines rest) }) lines_left
      ∙ ap (λ end. record { lines = kept_lines (n + 1) (lines remaining); end = end }) same_end

  -- a line that isn't skipped is the next one
  pub is_next : is_skipped text ≡ false → (ahead_from n rest).lines ≡ record { number = n; text = text } ∷ (ahead_from (n + 1) remaining).lines
  unfolding kept_lines
  is_next kept = ap (kept_lines n) first ∙ rw kept refl

-- ---- there are no more lines than bytes

longer : (x : ℕ) (y : List ℕ) (ys : List (List ℕ)) → length (lines_of_parts ((x ∷ y) ∷ ys)) ≤ 1 + length (lines_of_parts (y ∷ ys))
longer x y [] = let one : length (lines_of_parts ((x ∷ y) ∷ [])) ≡ 1 = grind arith in omega (arith, one)
longer x y (z ∷ zs) = omega arith

few_parts : (xs : List ℕ) → length (lines xs) ≤ length xs
few_parts [] = omega arith
few_parts (x ∷ xs) =
    let rest = some_part is_line_feed xs in
    let few = few_parts xs in
    let parts = ap (λ ps. length (lines_of_parts ps)) rest.2 in
    let P : Bool → Type 0 = λ t. is_line_feed x ≡ t → length (lines (x ∷ xs)) ≤ suc (length xs) in
    elim (is_line_feed x) as P [
      | true ↦ λ is.
          let cut = ap (λ ps. length (lines_of_parts ps)) (slice_split-cons_yes is_line_feed x xs is ∙ ap (λ ps. [] ∷ ps) rest.2) in
          omega (arith, cut, parts, few)
      | false ↦ λ is.
          let cut = ap (λ ps. length (lines_of_parts ps)) (slice_split-cons_no is_line_feed x xs is ∙ ap (onto_first x) rest.2) in
          let more = longer x rest.0 rest.1 in
          omega (arith, cut, parts, few, more)
    ] refl

few_kept : (n : ℕ) (ls : List (List ℕ)) → length (kept_lines n ls) ≤ length ls
unfolding kept_lines
few_kept n [] = omega arith
few_kept n (l ∷ ls) =
    let few = few_kept (n + 1) ls in
    let P : Bool → Type 0 = λ t. length (if t then kept_lines (n + 1) ls else record { number = n; text = l } ∷ kept_lines (n + 1) ls) ≤ suc (length ls) in
    elim (is_skipped l) as P [ true ↦ omega (arith, few) | false ↦ omega (arith, few) ]

pub few_lines : (n : ℕ) (bytes : List ℕ) → length (ahead_from n bytes).lines ≤ length bytes
few_lines n bytes = let kept_few = few_kept n (lines bytes) in let few = few_parts bytes in omega (arith, kept_few, few)
