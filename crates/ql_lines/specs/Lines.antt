-- The lines of a line file. A line ends with a line feed or with a carriage return and a line feed, and the end of the
-- last line may be missing. Blank lines, and comments, whose first byte after spaces is `#`, are skipped, but counted.
use Rattle.std.specs.Prelude.{ℕ, Bool, true, false, ◌+◌, ◌==◌, List, [], ◌∷◌, length, map, if◌then◌else◌}
use Rattle.std.specs.Str.Lines.{lines}
use Rattle.ql_lines.specs.Fields.{fields_of}

abbrev pub begins_with : ℕ → List ℕ → Bool
begins_with b [] = false
begins_with b (c ∷ cs) = c == b

-- a line with its number, from 1
pub record Numbered : Type 0 where
  pub number : ℕ
  pub text : List ℕ

-- lines without their numbers
abbrev pub texts_of : List Numbered → List (List ℕ)
texts_of ls = map (λ (l : Numbered). l.text) ls

abbrev pub is_line_feed : ℕ → Bool
is_line_feed b = b == 10

-- whether a line with these fields is blank or a comment
abbrev pub are_skipped : List (List ℕ) → Bool
are_skipped [] = true
are_skipped (f ∷ fs) = begins_with 35 f

unfoldable pub is_skipped : List ℕ → Bool
is_skipped line = are_skipped (fields_of line)

-- the lines that aren't skipped, where the first line has the number n
unfoldable pub kept_lines : ℕ → List (List ℕ) → List Numbered
kept_lines n [] = []
kept_lines n (l ∷ ls) = if is_skipped l then kept_lines (n + 1) ls else record { number = n; text = l } ∷ kept_lines (n + 1) ls

-- what is left to read: lines, and the line number of the file's end, which is one more than that of its last line
pub record Ahead : Type 0 where
  pub lines : List Numbered
  pub end : ℕ

abbrev pub ahead_from : ℕ → List ℕ → Ahead
ahead_from n bytes = record { lines = kept_lines n (lines bytes); end = n + length (lines bytes) }
