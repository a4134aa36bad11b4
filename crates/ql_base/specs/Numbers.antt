use Rattle.std.specs.Prelude.{ℕ, ◌≡◌, ◌≤◌, ◌<◌, List, Option, length, slice_index, decimal, MatchOption}
use Rattle.std.specs.List.{AllPass}
use Rattle.ql_base.specs.Bytes.{is_digit}

-- digits without a leading zero
pub record IsNumeral (text : List ℕ) : Type 0 where
  pub digits : AllPass is_digit text
  pub some : 0 < length text
  pub first : slice_index text 0 ≡ 48 → length text ≡ 1

-- `text` is the decimal text of `n`, which is at most `most`
pub record Spells (most n : ℕ) (text : List ℕ) : Type 0 where
  pub bounded : n ≤ most
  pub spelled : decimal n ≡ text

-- the answer is the number up to `most` that `text` spells, or `None` if it spells no such number
abbrev pub IsNumberOf : ℕ → List ℕ → Option ℕ → Type 0
IsNumberOf most text answer = MatchOption answer ((n : ℕ) → ¬ Spells most n text) (λ n. Spells most n text)
