-- Effects, and executions as lists of them.
-- They have only what ground problems are about, as plain numbers, so that this crate needs no store; the effects of
-- `ql_exec` carry values and stamps as well, and the law of `ql_implication` joins the two.
use Rattle.std.specs.Prelude.{ℕ, zero, suc, List, Option, None, slice_get}

-- an effect is outside any begun transaction, or inside one: its number and its declared name
pub data Member : Type 0 where
  Alone : Member
  Inside : ℕ → ℕ → Member

-- what the relations and the formulas read of an effect
pub record Effect : Type 0 where
  pub object : ℕ
  pub op : ℕ
  pub session : ℕ
  pub member : Member
  pub seen : List ℕ

-- the effect with this number; the first has number 1
abbrev pub effect_at : List Effect → ℕ → Option Effect
effect_at x zero = None
effect_at x (suc k) = slice_get x k
