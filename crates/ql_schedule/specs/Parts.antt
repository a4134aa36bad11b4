-- The parts of a schedule's line. They are separated by spaces, but a part that begins with a quote extends at least to
-- the next quote, so that a text may hold spaces.
use Rattle.std.specs.Prelude.{ℕ, ◌+◌, ◌==◌, Bool, not, nat_eq, List, [], ◌∷◌, length, drop, if◌then◌else◌}
use Rattle.std.specs.List.{prefix_len}
use Rattle.ql_lines.specs.Fields.{Fields, is_space}

abbrev pub is_quotation_mark : ℕ → Bool
is_quotation_mark b = b == 34

abbrev pub isn't_space : ℕ → Bool
isn't_space b = not (b == 32)

abbrev pub isn't_quote : ℕ → Bool
isn't_quote b = not (b == 34)

-- the parts with a byte added before the first one
abbrev pub led_by : ℕ → Fields → Fields
led_by b [] = (b ∷ []) ∷ []
led_by b (p ∷ ps) = (b ∷ p) ∷ ps

-- the parts of a line, of one whose first part has begun, and of one whose first part still lacks its second quote
unfoldable mutual
  pub parts_of : List ℕ → Fields
  parts_of [] = []
  parts_of (b ∷ bs) = if is_space b then parts_of bs else if is_quotation_mark b then led_by b (parts_in_text bs) else led_by b (parts_in_part bs)

  pub parts_in_part : List ℕ → Fields
  parts_in_part [] = [] ∷ []
  parts_in_part (b ∷ bs) = if is_space b then [] ∷ parts_of bs else led_by b (parts_in_part bs)

  pub parts_in_text : List ℕ → Fields
  parts_in_text [] = [] ∷ []
  parts_in_text (b ∷ bs) = if is_quotation_mark b then led_by b (parts_in_part bs) else led_by b (parts_in_text bs)

-- how many bytes the rest of a quoted text has, with its second quote; all bytes if that is missing
abbrev pub text_len : List ℕ → ℕ
text_len text = if nat_eq (prefix_len isn't_quote text) (length text) then prefix_len isn't_quote text else prefix_len isn't_quote text + 1

-- the length in bytes of the quoted text at the start, 0 without a quote
abbrev pub quoted_len : List ℕ → ℕ
quoted_len [] = 0
quoted_len (b ∷ bs) = if is_quotation_mark b then text_len bs + 1 else 0

-- the length in bytes of the part at the start
abbrev pub part_len : List ℕ → ℕ
part_len text = quoted_len text + prefix_len isn't_space (drop (quoted_len text) text)
