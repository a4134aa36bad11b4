-- Relations between constants, and the classes into which constants fall.
use Rattle.std.specs.Prelude.{ℕ, zero, suc, Bool, ◌||◌, if◌then◌else◌}
use Rattle.ql_atoms.specs.declared.atoms.PairKind.{PairKind}
use Rattle.ql_atoms.specs.declared.atoms.PairKind.TheVariants.{Eq, So, SameObj}
use Rattle.ql_exec.specs.declared.effect.Member.{Member}

-- the least number that passes the test, or n if none below n does
abbrev pub least : ℕ → (ℕ → Bool) → ℕ
least zero test = zero
least (suc n) test = if test zero then zero else suc (least n (λ k. test (suc k)))

-- the class of a constant under an equivalence, named by its least member
abbrev pub class_of : ℕ → (ℕ → ℕ → Bool) → ℕ → ℕ
class_of n same c = least n (λ k. same k c)

-- what an execution is built from: constants that are related, each of an operation, and perhaps in a transaction
pub record Pattern : Type 0 where
  pub count : ℕ
  pub rel : PairKind → ℕ → ℕ → Bool
  pub op : ℕ → ℕ
  pub member : ℕ → Member

-- equal constants have one leader
abbrev pub leader : Pattern → ℕ → ℕ
leader p c = class_of p.count (p.rel Eq) c

-- in one session: equal, or one before the other
abbrev pub one_session : Pattern → ℕ → ℕ → Bool
one_session p i j = p.rel So i j || (p.rel So j i || p.rel Eq i j)

abbrev pub session_of : Pattern → ℕ → ℕ
session_of p c = class_of p.count (one_session p) c

abbrev pub object_of : Pattern → ℕ → ℕ
object_of p c = class_of p.count (p.rel SameObj) c
