-- No line of a file is longer than the file.
use Rattle.std.proofs.Common.{◌≡◌, ◌+◌, ◌≤◌, ◌-◌, ℕ, suc, Bool, true, false, List, [], ◌∷◌, ◌++◌, length, take, arith, refl, sym, subst}
use Rattle.std.specs.Prelude.{slice_index, ◌==◌, if◌then◌else◌}
use Rattle.std.specs.List.{AllByRecursion, onto_first, slice_split}
use Rattle.std.specs.Str.Lines.{lines_of_parts, strip_carriage_return}
use Rattle.std.proofs.lemmas.List.{length-take}
use Rattle.std.proofs.lemmas.List.Splits.{slice_split-cons_no, slice_split-cons_yes}
use Rattle.ql_lines.proofs.Each.{each_weaker}
use Rattle.ql_lines.specs.Lines.{Numbered, ahead_from, is_line_feed, is_skipped, kept_lines}

abbrev IsShort : ℕ → List ℕ → Type 0
IsShort most bytes = length bytes ≤ most

abbrev AreShort : ℕ → List (List ℕ) → Type 0
AreShort most parts = AllByRecursion (IsShort most) parts

one_byte_more : (most : ℕ) (parts : List (List ℕ)) → AreShort most parts → AreShort (suc most) parts
one_byte_more most parts = each_weaker (IsShort most) (IsShort (suc most)) (λ part short. omega (arith, short)) parts

longer_first : (most b : ℕ) (parts : List (List ℕ)) → AreShort most parts → AreShort (suc most) (onto_first b parts)
longer_first most b [] short = (omega arith, tt)
longer_first most b (part ∷ parts) short = (omega (arith, short.0), one_byte_more most parts short.1)

parts_short : (bytes : List ℕ) → AreShort (length bytes) (slice_split is_line_feed bytes)
parts_short [] = (omega arith, tt)
parts_short (b ∷ bytes) =
    let short = parts_short bytes in
    let most = length bytes in
    let P : Bool → Type 0 = λ t. is_line_feed b ≡ t → AreShort (suc most) (slice_split is_line_feed (b ∷ bytes)) in
    elim (is_line_feed b) as P [
      | true ↦ λ is. subst (AreShort (suc most)) (sym (slice_split-cons_yes is_line_feed b bytes is)) (omega arith, one_byte_more most (slice_split is_line_feed bytes) short)
      | false ↦ λ is. subst (AreShort (suc most)) (sym (slice_split-cons_no is_line_feed b bytes is)) (longer_first most b (slice_split is_line_feed bytes) short)
    ] refl

stripped_short : (most : ℕ) (part : List ℕ) → IsShort most part → IsShort most (strip_carriage_return part)
stripped_short most part short =
    let P : Bool → Type 0 = λ t. IsShort most (if t then take (length part - 1) part else part) in
    elim (slice_index part (length part - 1) == 13) as P [ true ↦ omega (arith, short, length-take (length part - 1) part) | false ↦ short ]

lines_short : (most : ℕ) (parts : List (List ℕ)) → AreShort most parts → AreShort most (lines_of_parts parts)
lines_short most [] short = tt
lines_short most (part ∷ []) short =
    let P : Bool → Type 0 = λ t. AreShort most (if t then [] else part ∷ []) in
    elim (length part == 0) as P [ true ↦ tt | false ↦ short ]
lines_short most (part ∷ next ∷ parts) short = (stripped_short most part short.0, lines_short most (next ∷ parts) short.1)

abbrev HasShort : ℕ → Numbered → Type 0
HasShort most line = length line.text ≤ most

kept_short : (most n : ℕ) (ls : List (List ℕ)) → AreShort most ls → AllByRecursion (HasShort most) (kept_lines n ls)
unfolding kept_lines
kept_short most n [] short = tt
kept_short most n (l ∷ ls) short =
    let rest = kept_short most (n + 1) ls short.1 in
    let P : Bool → Type 0 = λ t. AllByRecursion (HasShort most) (if t then kept_lines (n + 1) ls else record { number = n; text = l } ∷ kept_lines (n + 1) ls) in
    elim (is_skipped l) as P [ true ↦ rest | false ↦ (short.0, rest) ]

among : (most : ℕ) (before : List Numbered) (line : Numbered) (rest : List Numbered) → AllByRecursion (HasShort most) (before ++ line ∷ rest) → length line.text ≤ most
among most [] line rest short = short.0
among most (l ∷ before) line rest short = among most before line rest short.1

pub line_within : (bytes : List ℕ) (before : List Numbered) (line : Numbered) (rest : List Numbered) → (ahead_from 1 bytes).lines ≡ before ++ line ∷ rest
    → length line.text ≤ length bytes
line_within bytes before line rest are =
    let most = length bytes in
    let short = kept_short most 1 _ (lines_short most _ (parts_short bytes)) in
    among most before line rest (subst (AllByRecursion (HasShort most)) are short)
