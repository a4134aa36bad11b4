-- What the journal of a replica has when its disk is stopped.
use Rattle.std.specs.Prelude.{◌≡◌, ℕ, ◌+◌, ◌*◌, ◌<◌, Bool, true, not, List, filter, Some, slice_get}
use Rattle.ql_exec.specs.declared.effect.Effect.{Effect}
use Rattle.ql_exec.specs.Relations.{sametxn, some_below}

-- no effect before it is of its transaction
abbrev pub is_first : List Effect → ℕ → Bool
is_first x a = not (some_below a (λ b. sametxn x b a))

-- The packages that a replica received, in the order in which they came, and each named by its first effect. Those that came
-- with one event are in the order of these.
abbrev pub packages : List Effect → List ℕ → List ℕ
packages x arrivals = filter (is_first x) arrivals

-- An effect is in the journal: its package is one of those for which the disk did all calls. To make a journal takes calls 1
-- and 2, and the package number k, from 1 on, takes the four up to call 2 + 4 * k; the call of number `cut` is the first that
-- isn't done.
pub record IsJournaled (x : List Effect) (arrivals : List ℕ) (cut a : ℕ) : Type 0 where
  pub before : ℕ
  pub first : ℕ
  pub is : slice_get (packages x arrivals) before ≡ Some first
  pub in_time : 2 + 4 * (before + 1) < cut
  pub same : sametxn x first a ≡ true
